-- The invariants of the loops of `rules_on` in `src/deck.rt`.
use Rattle.std.proofs.Common.{◌≡◌, map, take}
use Rattle.mpw_firm_grid.specs.Decks.{rule_on}
use Rattle.mpw_firm_grid.proofs.deck.rules_on.Given as goal

-- the rules so far, on the grid
abbrev pub invariant-loop-rule : goal.invariant-loop-rule
invariant-loop-rule l = l.made.items ≡ map (rule_on l.parts) (take l.rule-index l.rules)
