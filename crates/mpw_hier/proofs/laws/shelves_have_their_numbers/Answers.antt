-- Answers to the goals of `shelves_have_their_numbers` in `src/laws.rt`.
use Rattle.mpw_hier.proofs.Origins.{shapes_earlier}
use Rattle.mpw_hier.proofs.Stays.{present_cells, last_present, shelves_limited}
use Rattle.mpw_hier.proofs.laws.shelves_have_their_numbers.Goals as goal

pub returns : goal.returns
returns c = record {
  cells = present_cells;
  last = last_present;
  origins = shapes_earlier;
  limits = shelves_limited;
}
