-- The invariants of the loops of `marks_in` in `src/picture.rt`.
use Rattle.std.proofs.Common.{◌≡◌, take}
use Rattle.mpw_firm_picture.specs.Drawn.{marks_in}
use Rattle.mpw_firm_picture.proofs.picture.marks_in.Given as goal

abbrev pub invariant-loop-marker : goal.invariant-loop-marker
invariant-loop-marker l = l.marks.items ≡ marks_in l.window (take l.marker-index l.markers)
