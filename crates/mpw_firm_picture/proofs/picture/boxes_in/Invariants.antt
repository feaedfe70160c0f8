-- The invariants of the loops of `boxes_in` in `src/picture.rt`.
use Rattle.std.proofs.Common.{◌≡◌, take}
use Rattle.mpw_firm_picture.specs.Drawn.{boxes_in}
use Rattle.mpw_firm_picture.proofs.picture.boxes_in.Given as goal

abbrev pub invariant-loop-area : goal.invariant-loop-area
invariant-loop-area l = l.found.items ≡ boxes_in l.window (take l.area-index l.boxes)
