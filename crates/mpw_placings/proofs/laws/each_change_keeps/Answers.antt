-- Answers to the goals of `each_change_keeps` in `src/laws.rt`.
use Rattle.mpw_placings.proofs.Keeping.{none_kept, place_kept, unplace_kept}
use Rattle.mpw_placings.proofs.laws.each_change_keeps.Goals as goal

pub returns : goal.returns
returns c = record {
  none = none_kept;
  place = place_kept c.shelves_have_their_numbers.ensures.cells;
  unplace = unplace_kept;
}
