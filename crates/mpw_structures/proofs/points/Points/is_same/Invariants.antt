-- The invariants of the loops of `Points::is_same` in `src/points.rt`.
use Rattle.std.proofs.Common.{◌≡◌, take}
use Rattle.mpw_structures.proofs.points.Points.is_same.Given as goal

-- the points before this one are the same
abbrev pub invariant-loop-index : goal.invariant-loop-index
invariant-loop-index l = take l.index l.self ≡ take l.index l.other
