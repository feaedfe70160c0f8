-- The invariants of the loops of `marks_from` in `src/met.rt`.
use Rattle.std.proofs.Common.{◌≡◌, ◌<◌, ◌+◌, ◌||◌, ℕ, false, drop}
use Rattle.std.specs.Prelude.{slice_index_or}
use Rattle.mpw_replies.specs.Ranks.{is_met_at}
use Rattle.mpw_replies.proofs.met.marks_from.Given as goal

abbrev pub invariant-loop-number : goal.invariant-loop-number
invariant-loop-number l = (i : ℕ) → i < 64
    → (slice_index_or l.marks i false || is_met_at l.fn.ranks (drop l.number-index l.fn.met)
    (l.fn.base + i))
    ≡ is_met_at l.fn.ranks l.fn.met (l.fn.base + i)
