-- The invariants of the loops of `Mask::meets` in `src/mask.rt`.
use Rattle.std.proofs.Common.{◌≡◌, ℕ, ◌<◌, get_or}
use Rattle.std.specs.Prelude.{bit_and}
use Rattle.mpw_roles.proofs.mask.Mask.meets.Given as goal

-- the words so far have no bit in common
abbrev pub invariant-words : goal.invariant-words
invariant-words l =
    (j : ℕ) → j < l.k → bit_and (get_or l.self.words j 0) (get_or l.other.words j 0) ≡ 0
