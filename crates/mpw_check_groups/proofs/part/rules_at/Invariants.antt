-- The invariants of the loops of `rules_at` in `src/part.rt`.
use Rattle.std.proofs.Common.{take}
use Rattle.std.specs.Prelude.{All}
use Rattle.mpw_deck.specs.Decks.{IsRule}
use Rattle.mpw_check_groups.specs.Parts.{AreRulesAt}
use Rattle.mpw_check_groups.proofs.part.rules_at.Given as goal

abbrev pub invariant-loop-place : goal.invariant-loop-place
invariant-loop-place l =
    AreRulesAt l.rules (take l.place-index l.places) l.found.items × All IsRule l.found.items
