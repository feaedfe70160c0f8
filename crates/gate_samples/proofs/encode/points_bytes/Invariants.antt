-- The invariants of the loops of `points_bytes` in `src/encode.rt`.
use Rattle.std.proofs.Common.{◌≡◌, ◌++◌, drop}
use Rattle.gate_samples.specs.Text.{points_bytes}
use Rattle.gate_samples.proofs.encode.points_bytes.Given as goal

-- the points so far, and those that are left
abbrev pub invariant-loop-point : goal.invariant-loop-point
invariant-loop-point l =
    l.bytes.items ++ points_bytes (drop l.point-index l.points) ≡ points_bytes l.points
