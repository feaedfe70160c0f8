-- Answers to the goals of `markers_are_flat` in `src/laws.rt`.
use Rattle.mpw_firm.proofs.Flat.{flat_by}
use Rattle.mpw_firm.proofs.laws.markers_are_flat.Goals as goal

pub returns : goal.returns
returns c = flat_by c.markers_are_the_librarys.ensures
