-- The invariants of the loops of `take_in` in `src/sweep.rt`.
use Rattle.std.proofs.Common.{take, ◌≤ℤ◌, ◌<ℤ◌}
use Rattle.std.specs.Prelude.{All}
use Rattle.mpw_region.specs.Internal.Sweep.{HoldsJust}
use Rattle.mpw_region.proofs.sweep.take_in.Given as goal

abbrev pub invariant-loop-n : goal.invariant-loop-n
invariant-loop-n l = record {
  begun : All (λ b. b.y0 ≤ℤ l.fn.row) (take l.n l.boxes);
  active : HoldsJust (take l.n l.boxes) (λ b. l.fn.row <ℤ b.y1) l.active.items;
}
