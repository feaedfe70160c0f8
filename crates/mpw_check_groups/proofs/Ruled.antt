-- The rules at indices, one by one.
use Rattle.std.proofs.Common.{◌≡◌, ◌∙◌, ℕ, ◌+◌, ◌<◌, List, [], ◌∷◌, ◌++◌, length, get_or, map, take, Some, sym, ap, subst}
use Rattle.std.specs.Prelude.{All, slice_get}
use Rattle.std.proofs.lemmas.List.{map-append, take_more}
use Rattle.std.proofs.lemmas.List.Elements.{All-contains, All-push}
use Rattle.mpw_deck.specs.Decks.{IsRule}
use Rattle.mpw_deck.specs.declared.rule.Rule.{Rule}
use Rattle.mpw_job.proofs.Tests.{get_contains}
use Rattle.mpw_check_groups.specs.Parts.{AreRulesAt}

pub rules_more : (all : List Rule) (places : List ℕ) (i d : ℕ) (found new : List Rule) (rule : Rule)
    → i < length places → new ≡ found ++ rule ∷ [] → slice_get all (get_or places i d) ≡ Some rule
    → All IsRule all → AreRulesAt all (take i places) found × All IsRule found
    → AreRulesAt all (take (i + 1) places) new × All IsRule new
rules_more all places i d found new rule inside pushed at each so_far = (
  ap (map (λ (r : Rule). Some r)) pushed
      ∙ map-append (λ (r : Rule). Some r) found (rule ∷ [])
      ∙ ap (λ os. os ++ Some rule ∷ []) so_far.0
      ∙ ap (λ o. map (slice_get all) (take i places) ++ o ∷ []) (sym at)
      ∙ sym (map-append (slice_get all) (take i places) (get_or places i d ∷ []))
      ∙ ap (map (slice_get all)) (sym (take_more places i d inside)),
  subst (All IsRule) (sym pushed)
      (All-push IsRule found rule so_far.1
      (All-contains IsRule all rule each (get_contains all (get_or places i d) rule at))),
)
