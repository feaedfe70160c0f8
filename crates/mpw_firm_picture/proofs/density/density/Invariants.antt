-- The invariants of the loops of `density` in `src/density.rt`.
use Rattle.std.proofs.Common.{◌≡◌, ◌<◌, ℕ, length, take, get_or}
use Rattle.mpw_firm_picture.specs.Density.{count_in, cell_count}
use Rattle.mpw_firm_picture.proofs.density.density.Given as goal

abbrev pub invariant-loop-mark : goal.invariant-loop-mark
invariant-loop-mark l =
    (length l.counts.items ≡ cell_count)
    × ((k : ℕ) → k < cell_count
    → get_or l.counts.items k 0 ≡ count_in l.window (take l.mark-index l.marks) k)
