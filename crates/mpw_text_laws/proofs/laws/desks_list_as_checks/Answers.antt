-- Answers to the goals of `desks_list_as_checks` in `src/laws.rt`.
use Rattle.mpw_text_laws.proofs.Replies.{desks_list}
use Rattle.mpw_text_laws.proofs.laws.desks_list_as_checks.Goals as goal

pub returns : goal.returns
returns c =
    desks_list c.whole_keys_are_numbers.ensures c.shelves_have_their_numbers.ensures.origins c.each_marker_meets_some.ensures
