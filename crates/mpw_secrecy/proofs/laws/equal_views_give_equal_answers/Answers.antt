-- Answers to the goals of `equal_views_give_equal_answers` in `src/laws.rt`.
use Rattle.mpw_secrecy.proofs.Answered.{equal_answers, equal_answers_to_lists, views_stay}
use Rattle.mpw_secrecy.proofs.laws.equal_views_give_equal_answers.Goals as goal

pub returns : goal.returns
returns c =
    let presents = c.shelves_have_their_numbers.ensures.cells in
    let has = c.entering_is_by_the_need.ensures.has in
    let keys = c.places_are_of_their_keys.ensures in
    record {
      told = equal_answers presents has keys;
      left = views_stay presents has keys;
      lists = equal_answers_to_lists presents has keys c.places_are_left.ensures;
    }
