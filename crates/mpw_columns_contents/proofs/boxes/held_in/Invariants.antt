-- The invariants of the loops of `held_in` in `src/boxes.rt`.
use Rattle.std.proofs.Common.{take}
use Rattle.std.specs.List.{AllZip}
use Rattle.mpw_columns_contents.specs.Internal.Held.{HoldsBoxes}
use Rattle.mpw_columns_contents.proofs.boxes.held_in.Given as goal

abbrev pub invariant-loop-structure : goal.invariant-loop-structure
invariant-loop-structure l = AllZip HoldsBoxes (take l.structure-index l.structures) l.all.items
