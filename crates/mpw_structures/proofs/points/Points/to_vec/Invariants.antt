-- The invariants of the loops of `Points::to_vec` in `src/points.rt`.
use Rattle.std.proofs.Common.{◌≡◌, take}
use Rattle.mpw_structures.proofs.points.Points.to_vec.Given as goal

-- the points so far
abbrev pub invariant-loop-index : goal.invariant-loop-index
invariant-loop-index l = l.points.items ≡ take l.index l.self
