-- The invariants of the loops of `keys` in `src/key.rt`.
use Rattle.std.proofs.Common.{◌≡◌, drop, map}
use Rattle.std.specs.Prelude.{All}
use Rattle.mpw_firm_parts.specs.Parts.{IsKeyOf}
use Rattle.mpw_firm_parts.specs.Reading.{all_of, column_key}
use Rattle.mpw_firm_parts.proofs.AllOf.{with_front}
use Rattle.mpw_firm_parts.proofs.key.keys.Given as goal

-- what was found so far is of the column, and with what is left is what all of them are
abbrev pub invariant-loop-word : goal.invariant-loop-word
invariant-loop-word l = All (IsKeyOf l.fn.column) l.keys.items
    × (with_front l.keys.items (all_of (column_key l.fn.column)
    (drop l.word-index (map (λ word. word.now) l.fn.words))) ≡ all_of (column_key l.fn.column)
    (map (λ word. word.now) l.fn.words))
