-- The invariants of the loops of `Mask::add` in `src/mask.rt`.
use Rattle.std.proofs.Common.{◌≡◌, ℕ, ◌<◌, ◌≤◌, get_or}
use Rattle.std.specs.Prelude.{bit_or}
use Rattle.mpw_roles.proofs.mask.Mask.add.Given as goal

-- the words so far are joined, and the others are unchanged
abbrev pub invariant-words : goal.invariant-words
invariant-words l =
    ((j : ℕ) → j < l.k → get_or l.self.words j 0 ≡ bit_or (get_or l.fn.self.words j 0)
    (get_or l.other.words j 0))
    × ((j : ℕ) → l.k ≤ j → get_or l.self.words j 0 ≡ get_or l.fn.self.words j 0)
