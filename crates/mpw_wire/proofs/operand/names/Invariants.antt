-- The invariants of the loops of `names` in `src/operand.rt`.
use Rattle.std.proofs.Common.{◌≡◌, drop, map}
use Rattle.mpw_wire.specs.Request.{names_of}
use Rattle.mpw_wire.proofs.ReadingLemmas.{with_names}
use Rattle.mpw_wire.proofs.operand.names.Given as goal

-- the names so far, and those of the words that are left, are the names of all words
abbrev pub invariant-loop-word : goal.invariant-loop-word
invariant-loop-word l = with_names l.names
    (names_of l.origin (drop l.word-index (map (λ word. word.now) l.fn.words)))
    ≡ names_of l.origin (map (λ word. word.now) l.fn.words)
