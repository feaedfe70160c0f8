-- The invariants of the loops of `rules` in `src/read.rt`.
use Rattle.std.proofs.Common.{◌≡◌, ◌+◌, ◌≤◌, [], map, drop, length}
use Rattle.std.specs.Prelude.{All}
use Rattle.mpw_deck.specs.Decks.{IsRule}
use Rattle.mpw_deck.specs.Reading.{rules_of}
use Rattle.mpw_deck.proofs.read.rules.Given as goal

abbrev pub invariant-loop-i : goal.invariant-loop-i
invariant-loop-i l = record {
  read : rules_of (l.i + 2) l.rules.items (drop l.i (map (λ x. x.now) l.lines)) ≡ rules_of 2 []
      (map (λ x. x.now) l.lines);
  few : length l.rules.items ≤ 256;
  rules : All IsRule l.rules.items;
}
