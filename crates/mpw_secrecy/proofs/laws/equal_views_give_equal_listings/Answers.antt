-- Answers to the goals of `equal_views_give_equal_listings` in `src/laws.rt`.
use Rattle.mpw_secrecy.proofs.Listings.{equal_listings, equal_lists, views_left}
use Rattle.mpw_secrecy.proofs.laws.equal_views_give_equal_listings.Goals as goal

pub returns : goal.returns
returns c =
    let presents = c.shelves_have_their_numbers.ensures.cells in
    let has = c.entering_is_by_the_need.ensures.has in
    record {
      told = equal_listings presents has;
      left = views_left presents has;
      lists = equal_lists presents has;
    }
