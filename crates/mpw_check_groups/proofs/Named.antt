-- The layers of rules.
use Rattle.std.proofs.Common.{◌≡◌, ◌∙◌, ℕ, ◌+◌, ◌<◌, ◌≤◌, Bool, true, false, List, [], ◌∷◌, ◌++◌, length, get_or, take, refl, sym, ap, subst}
use Rattle.std.specs.Prelude.{◌||◌}
use Rattle.std.proofs.lemmas.List.{take_all}
use Rattle.std.proofs.lemmas.List.Folds.{list_any-append, list_any_at, list_any_more}
use Rattle.mpw_geom.specs.declared.plane.Layer.{Layer}
use Rattle.mpw_geom.specs.Layers.{same_layer}
use Rattle.mpw_deck.specs.declared.rule.Rule.{Rule}
use Rattle.mpw_job.proofs.Tests.{same_from}
use Rattle.mpw_check_groups.specs.Layers.{is_among, is_named, is_of}

or-false : (a : Bool) → (a || false) ≡ a
or-false true = refl
or-false false = refl

or-true : (a : Bool) → (a || true) ≡ true
or-true true = refl
or-true false = refl

-- ---- one layer of a list

pub none_more : (layers : List Layer) (i : ℕ) (d layer : Layer) → i < length layers
    → is_among (take i layers) layer ≡ false → same_layer (get_or layers i d) layer ≡ false
    → is_among (take (i + 1) layers) layer ≡ false
none_more layers i d layer inside none other =
    list_any_more (λ (l : Layer). same_layer l layer) layers i d inside
    ∙ ap (λ b. b || same_layer (get_or layers i d) layer) none
    ∙ other

pub found_at : (layers : List Layer) (i : ℕ) (d layer : Layer) → i < length layers
    → same_layer (get_or layers i d) layer ≡ true → is_among layers layer ≡ true
found_at layers i d layer inside same =
    list_any_at (λ (l : Layer). same_layer l layer) layers i d inside same

pub none_left : (layers : List Layer) (i : ℕ) (layer : Layer) → length layers ≤ i
    → is_among (take i layers) layer ≡ false → is_among layers layer ≡ false
none_left layers i layer past none =
    ap (λ (ls : List Layer). is_among ls layer) (sym (take_all i layers past)) ∙ none

-- ---- layers that are added

-- a layer that the list has, and one that is added
pub had_already : (layers : List Layer) (layer other : Layer) → is_among layers layer ≡ true
    → is_among layers other ≡ (is_among layers other || same_layer layer other)
had_already layers layer other has = at (same_layer layer other) refl
  where
    at : (b : Bool) → same_layer layer other ≡ b
        → is_among layers other ≡ (is_among layers other || b)
    at false e = sym (or-false (is_among layers other))
    at true e =
        subst (λ (l : Layer). is_among layers l ≡ true) (same_from layer other e) has
        ∙ sym (or-true (is_among layers other))

pub has_pushed : (layers : List Layer) (layer other : Layer)
    → is_among (layers ++ layer ∷ []) other ≡ (is_among layers other || same_layer layer other)
has_pushed layers layer other =
    list_any-append (λ (own : Layer). same_layer own other) layers (layer ∷ [])
    ∙ ap (λ b. is_among layers other || b) (or-false (same_layer layer other))

-- the layers of one more rule, and of all
pub named_more : (rules : List Rule) (i : ℕ) (rule : Rule) (old new : List Layer)
    → i < length rules → rule ≡ get_or rules i rule
    → ((layer : Layer) → is_among new layer ≡ (is_among old layer || is_of rule.check layer))
    → ((layer : Layer) → is_among old layer ≡ is_named (take i rules) layer)
    → (layer : Layer) → is_among new layer ≡ is_named (take (i + 1) rules) layer
named_more rules i rule old new inside at adds so_far layer =
    adds layer ∙ ap (λ b. b || is_of rule.check layer) (so_far layer)
    ∙ ap (λ (r : Rule). is_named (take i rules) layer || is_of r.check layer) at
    ∙ sym (list_any_more (λ (r : Rule). is_of r.check layer) rules i rule inside)

pub named_all : (rules : List Rule) (i : ℕ) (layers : List Layer) → length rules ≤ i
    → ((layer : Layer) → is_among layers layer ≡ is_named (take i rules) layer)
    → (layer : Layer) → is_among layers layer ≡ is_named rules layer
named_all rules i layers past so_far layer =
    so_far layer ∙ ap (λ (rs : List Rule). is_named rs layer) (take_all i rules past)
