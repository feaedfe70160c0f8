-- The invariants of the loops of `first_beyond` in `src/deck.rt`.
use Rattle.std.proofs.Common.{◌≡◌, false, drop, take}
use Rattle.std.specs.List.{list_any}
use Rattle.mpw_firm_grid.specs.Decks.{first_beyond, is_beyond}
use Rattle.mpw_firm_grid.proofs.deck.first_beyond.Given as goal

-- none of the rules so far is beyond the limit
abbrev pub invariant-loop-rule : goal.invariant-loop-rule
invariant-loop-rule l =
    (first_beyond l.parts (drop l.rule-index l.deck.rules) ≡ first_beyond l.parts l.deck.rules)
    × (list_any (is_beyond l.parts) (take l.rule-index l.deck.rules) ≡ false)
