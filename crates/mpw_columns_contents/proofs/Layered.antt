-- Entries without the shapes on other layers.
use Rattle.std.proofs.Common.{◌≡◌, ℕ, ◌+◌, ◌<◌, length, get_or, take, inl, inr, List, [], ◌∷◌, ◌++◌, Bool, true, false, Option, Some, None, sym, ap, subst, ◌∙◌}
use Rattle.std.specs.Prelude.{All, Contains, IsSomeAnd, MatchBool}
use Rattle.std.proofs.lemmas.List.Concat.{flat_map-append}
use Rattle.std.proofs.lemmas.List.Elements.{All-nil, All-cons, All-append, All-push, Contains-append_left, Contains-append_right, Contains-append_cases}
use Rattle.std.proofs.lemmas.List.{append-nil, take_more}
use Rattle.mpw_geom.specs.declared.plane.Layer.{Layer}
use Rattle.mpw_geom.specs.declared.placing.Placing.{Placing}
use Rattle.mpw_structures.specs.declared.element.Element.{Element}
use Rattle.mpw_hier.specs.Items.{Item}
use Rattle.mpw_hier.specs.declared.submission.Submission.{Submission}
use Rattle.mpw_columns_contents.specs.declared.thing.Shape.{Shape}
use Rattle.mpw_columns_contents.specs.declared.thing.Thing.{Thing}
use Rattle.mpw_columns_contents.specs.declared.thing.Thing.TheVariants as things
use Rattle.mpw_columns_contents.specs.Contents.{IsBoxed, IsNear, IsOn, IsThingOn}
use Rattle.mpw_columns_contents.specs.Things.{drawn, element_in, thing_items, things_items}
use Rattle.mpw_columns_contents.specs.Internal.Layers.{ShowsNone, KeepsOn, AreLayered}
use Rattle.mpw_columns_contents.proofs.Members.{contains_none, contains_cases}

module _ (layers : List Layer) where
  keeps_same : (all : List Item) → KeepsOn layers all all
  keeps_same all = record { kept = λ i h on. h; sound = λ i h. h }

  keeps_none : (all : List Item) → ShowsNone layers all → KeepsOn layers all []
  keeps_none all none = record {
    kept = λ i h on. absurd (none i h on);
    sound = λ i h. absurd (contains_none i h);
  }

  keeps_both : (xs ys us vs : List Item) → KeepsOn layers xs us → KeepsOn layers ys vs
      → KeepsOn layers (xs ++ ys) (us ++ vs)
  keeps_both xs ys us vs h k = record {
    kept = λ i in' on. elim (Contains-append_cases xs ys i in') [
      | inl l ↦ Contains-append_left us vs i (h.kept i l on)
      | inr r ↦ Contains-append_right us vs i (k.kept i r on)
    ];
    sound = λ i in'. elim (Contains-append_cases us vs i in') [
      | inl l ↦ Contains-append_left xs ys i (h.sound i l)
      | inr r ↦ Contains-append_right xs ys i (k.sound i r)
    ];
  }

  -- an element that is on none of them
  pub drawn_none : (t : Placing) (e : Element) → (IsOn layers e → ⊥)
      → ShowsNone layers (drawn t (Some e))
  drawn_none t e none i h on =
      let item : Item = record { origin = 0; placing = t; element = e } in
      elim (contains_cases item i [] h) [
        | inl same ↦ none (subst (λ (j : Item). IsOn layers j.element) (sym same) on)
        | inr rest ↦ contains_none i rest
      ]

  pub nothing_drawn : (t : Placing) (o : Option Element) → o ≡ None → ShowsNone layers (drawn t o)
  nothing_drawn t o e i h on =
      contains_none i (subst (λ (p : Option Element). Contains (drawn t p) i) e h)

module _ (ss : List Submission) (layers : List Layer) (shape : Shape) (thing : Thing)
    (is : thing ≡ things.Shape shape) where
  -- whether a shape stays
  pub stays_some : (e : Element) (b : Bool)
      → element_in ss shape.structure shape.element ≡ Some e
      → MatchBool b (IsOn layers e) (IsOn layers e → ⊥)
      → MatchBool b (IsThingOn ss layers thing) (ShowsNone layers (thing_items ss thing))
  unfolding thing_items
  stays_some e b at h =
      subst (λ (t : Thing). MatchBool b (IsThingOn ss layers t)
      (ShowsNone layers (thing_items ss t))) (sym is) (go b h)
    where
      go : (b : Bool) → MatchBool b (IsOn layers e) (IsOn layers e → ⊥)
          → MatchBool b (IsThingOn ss layers (things.Shape shape))
          (ShowsNone layers (thing_items ss (things.Shape shape)))
      go true h = subst (λ (o : Option Element). IsSomeAnd o (IsOn layers)) (sym at) h
      go false h = subst (λ (o : Option Element). ShowsNone layers (drawn shape.placing o))
          (sym at) (drawn_none layers shape.placing e h)

  pub stays_none : element_in ss shape.structure shape.element ≡ None
      → ShowsNone layers (thing_items ss thing)
  unfolding thing_items
  stays_none at =
      subst (λ (t : Thing). ShowsNone layers (thing_items ss t)) (sym is)
      (nothing_drawn layers shape.placing (element_in ss shape.structure shape.element) at)

module _ (ss : List Submission) (layers : List Layer) where
  module _ (xs : List Thing) (i : ℕ) (d : Thing) (left : List Thing) (lt : i < length xs)
      (h : AreLayered ss layers (take i xs) left) where
    more : things_items ss (take (i + 1) xs) ≡ things_items ss (take i xs) ++ thing_items ss
        (get_or xs i d)
    unfolding things_items
    more =
        ap (things_items ss) (take_more xs i d lt)
        ∙ flat_map-append (thing_items ss) (take i xs) (get_or xs i d ∷ [])
        ∙ ap (λ ys. things_items ss (take i xs) ++ ys) (append-nil (thing_items ss (get_or xs i d)))

    pub layered_more : All IsNear xs → IsThingOn ss layers (get_or xs i d)
        → AreLayered ss layers (take (i + 1) xs) (left ++ get_or xs i d ∷ [])
    unfolding things_items
    layered_more all_near on =
        let x = get_or xs i d in
        let near : IsNear x = all_near i d lt in
        let shown : things_items ss (left ++ x ∷ []) ≡ things_items ss left ++ thing_items ss x =
        flat_map-append (thing_items ss) left (x ∷ [])
        ∙ ap (λ ys. things_items ss left ++ ys) (append-nil (thing_items ss x)) in
        record {
          keeps = subst (λ all. KeepsOn layers all (things_items ss (left ++ x ∷ []))) (sym more)
              (subst (KeepsOn layers (things_items ss (take i xs) ++ thing_items ss x)) (sym shown)
              (keeps_both layers (things_items ss (take i xs)) (thing_items ss x)
              (things_items ss left) (thing_items ss x) h.keeps
              (keeps_same layers (thing_items ss x))));
          near = All-append IsNear left (x ∷ []) h.near
              (All-cons IsNear x [] near (All-nil IsNear));
          on = All-append (IsThingOn ss layers) left (x ∷ []) h.on
              (All-cons (IsThingOn ss layers) x [] on (All-nil (IsThingOn ss layers)));
        }

    pub layered_less : ShowsNone layers (thing_items ss (get_or xs i d))
        → AreLayered ss layers (take (i + 1) xs) left
    layered_less none =
        let x = get_or xs i d in
        record {
          keeps = subst (λ all. KeepsOn layers all (things_items ss left)) (sym more)
              (subst (KeepsOn layers (things_items ss (take i xs) ++ thing_items ss x))
              (append-nil (things_items ss left))
              (keeps_both layers (things_items ss (take i xs)) (thing_items ss x)
              (things_items ss left) [] h.keeps (keeps_none layers (thing_items ss x) none)));
          near = h.near;
          on = h.on;
        }

  -- one more of the entries that have boxes
  pub boxed_more : (xs : List Thing) (i : ℕ) (d : Thing) (left : List Thing) → i < length xs
      → All (IsBoxed ss) xs → All (IsBoxed ss) left
      → All (IsBoxed ss) (left ++ get_or xs i d ∷ [])
  boxed_more xs i d left lt all boxed = All-push (IsBoxed ss) left (get_or xs i d) boxed (all i d lt)
