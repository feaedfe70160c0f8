-- Answers to the goals of `listings_are_replies` in `src/laws.rt`.
use Rattle.mpw_text_laws.proofs.Replies.{listings_are}
use Rattle.mpw_text_laws.proofs.laws.listings_are_replies.Goals as goal

pub returns : goal.returns
returns c =
    listings_are c.whole_keys_are_numbers.ensures c.shelves_have_their_numbers.ensures.origins c.each_marker_meets_some.ensures
