-- The invariants of the loops of `boxes_with_area` in `src/cut.rt`.
use Rattle.std.proofs.Common.{take}
use Rattle.mpw_geom.specs.Plane.{HasArea}
use Rattle.mpw_region.specs.Internal.Sweep.{HoldsJust}
use Rattle.mpw_region.proofs.cut.boxes_with_area.Given as goal

abbrev pub invariant-loop-b : goal.invariant-loop-b
invariant-loop-b l = HoldsJust (take l.b-index l.boxes) HasArea l.kept.items
