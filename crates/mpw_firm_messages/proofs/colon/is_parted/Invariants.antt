-- The invariants of the loops of `is_parted` in `src/colon.rt`.
use Rattle.std.proofs.Common.{◌≡◌, ◌==◌, drop}
use Rattle.std.specs.List.{list_any}
use Rattle.mpw_firm_messages.proofs.colon.is_parted.Given as goal

-- none of the bytes so far is a colon
abbrev pub invariant-loop-byte : goal.invariant-loop-byte
invariant-loop-byte l =
    list_any (λ b. b == 58) (drop l.byte-index l.word) ≡ list_any (λ b. b == 58) l.word
