-- The invariants of the loops of `drawn_count` in `src/density.rt`.
use Rattle.std.proofs.Common.{◌≡◌, ◌≤◌, ◌*◌, ◌^◌}
use Rattle.mpw_firm_picture.specs.Density.{drawn_count}
use Rattle.mpw_firm_picture.proofs.density.drawn_count.Given as goal

abbrev pub invariant-loop-place : goal.invariant-loop-place
invariant-loop-place l =
    (l.total ≡ drawn_count l.limit l.place l.marks) × (l.total ≤ l.place * 2 ^ 64)
