-- Adding entries adds their flat shapes.
use Rattle.std.proofs.Common.{◌≡◌, ◌+◌, ◌<◌, ℕ, length, get_or, take, Option, Some, None, inl, inr, List, [], ◌∷◌, ◌++◌, map, zero-add, refl, sym, ap, subst, ◌∙◌, append_assoc, true, false}
use Rattle.std.specs.Prelude.{All, Contains, IfSome, IsSomeAnd, option_map}
use Rattle.std.specs.List.{flat_map, range_with_len}
use Rattle.std.proofs.lemmas.List.Concat.{flat_map-append}
use Rattle.std.proofs.lemmas.List.Elements.{All-nil, All-cons, All-append, Contains-append_left, Contains-append_right, Contains-append_cases}
use Rattle.std.proofs.lemmas.List.{append-nil, map-append, take_more}
use Rattle.mpw_geom.specs.declared.plane.Box2.{Box2}
use Rattle.mpw_geom.specs.declared.placing.Placing.{Placing}
use Rattle.mpw_geom.specs.Plane.{IsOrdered}
use Rattle.mpw_structures.specs.declared.element.Element.{Element}
use Rattle.mpw_hier.specs.Boxes.{element_box, placed_box, item_box}
use Rattle.mpw_hier.specs.Items.{Item}
use Rattle.mpw_hier.proofs.Extents.{element_ordered}
use Rattle.mpw_walk.specs.Window.{do_meet, is_met}
use Rattle.mpw_columns_contents.specs.declared.layout.Layout.{Layout}
use Rattle.mpw_columns_contents.specs.declared.thing.Thing.{Thing}
use Rattle.mpw_columns_contents.specs.Boxes.{box_of}
use Rattle.mpw_columns_contents.specs.Contents.{IsBoxed}
use Rattle.mpw_columns_contents.specs.Things.{drawn, drawn_box, thing_items, things_items}
use Rattle.mpw_columns_contents.specs.Internal.Making.{IsThing, Shows, Adds}
use Rattle.mpw_columns_contents.specs.Internal.Own.{own_window}
use Rattle.mpw_columns_contents.proofs.Lists.{range_more}
use Rattle.mpw_columns_contents.proofs.Members.{contains_none, contains_cases}
use Rattle.mpw_columns_contents.proofs.Windows.{missed_placed}

module _ (window : Box2) where
  pub shows_same : (all shown : List Item) → all ≡ shown → Shows window all shown
  shows_same all shown e = record {
    whole = λ i h met. subst (λ xs. Contains xs i) e h;
    sound = λ i h. subst (λ xs. Contains xs i) (sym e) h;
  }

  pub shows_none : (all : List Item) → ((i : Item) → Contains all i
      → is_met window (item_box i) ≡ false) → Shows window all []
  shows_none all missed = record {
    whole = λ i h met. absurd (let f : true ≡ false = sym met ∙ missed i h in cc);
    sound = λ i h. absurd (contains_none i h);
  }

  pub shows_both : (xs ys us vs : List Item) → Shows window xs us → Shows window ys vs
      → Shows window (xs ++ ys) (us ++ vs)
  shows_both xs ys us vs h k = record {
    whole = λ i in' met. elim (Contains-append_cases xs ys i in') [
      | inl l ↦ Contains-append_left us vs i (h.whole i l met)
      | inr r ↦ Contains-append_right us vs i (k.whole i r met)
    ];
    sound = λ i in'. elim (Contains-append_cases us vs i in') [
      | inl l ↦ Contains-append_left xs ys i (h.sound i l)
      | inr r ↦ Contains-append_right xs ys i (k.sound i r)
    ];
  }

  pub shows_again : (xs ys zs : List Item) → Shows window xs ys → Shows window ys zs
      → Shows window xs zs
  shows_again xs ys zs h k = record {
    whole = λ i in' met. k.whole i (h.whole i in' met) met;
    sound = λ i in'. h.sound i (k.sound i in');
  }

module _ (l : Layout) where
  -- nothing was added, if no item touches the window
  pub adds_none : (items : List Item) (old : List Thing) → Shows l.window items []
      → Adds l items old old
  unfolding things_items
  adds_none items old h = record {
    made = [];
    is = sym (append-nil old);
    are = All-nil (IsThing l.nodes.now);
    boxed = All-nil (IsBoxed l.shelf.now);
    shows = h;
  }

  pub adds_one : (items : List Item) (old new : List Thing) (thing : Thing) → new ≡ old ++ thing
      ∷ [] → IsThing l.nodes.now thing → IsBoxed l.shelf.now thing
      → Shows l.window items (thing_items l.shelf.now thing) → Adds l items old new
  unfolding things_items
  adds_one items old new thing is near boxed h = record {
    made = thing ∷ [];
    is = is;
    are = All-cons (IsThing l.nodes.now) thing [] near (All-nil (IsThing l.nodes.now));
    boxed = All-cons (IsBoxed l.shelf.now) thing [] boxed (All-nil (IsBoxed l.shelf.now));
    shows = subst (Shows l.window items) (sym (append-nil (thing_items l.shelf.now thing))) h;
  }

  pub adds_both : (xs ys : List Item) (old mid new : List Thing) → Adds l xs old mid
      → Adds l ys mid new → Adds l (xs ++ ys) old new
  unfolding things_items
  adds_both xs ys old mid new h k = record {
    made = h.made ++ k.made;
    is = k.is ∙ ap (λ ts. ts ++ k.made) h.is ∙ append_assoc old h.made k.made;
    are = All-append (IsThing l.nodes.now) h.made k.made h.are k.are;
    boxed = All-append (IsBoxed l.shelf.now) h.made k.made h.boxed k.boxed;
    shows = subst (Shows l.window (xs ++ ys))
        (sym (flat_map-append (thing_items l.shelf.now) h.made k.made))
        (shows_both l.window xs ys (things_items l.shelf.now h.made)
        (things_items l.shelf.now k.made) h.shows k.shows);
  }

  pub adds_start : (old : List Thing) → Adds l [] old old
  adds_start old = adds_none [] old (shows_same l.window [] [] refl)

  pub adds_same : (xs ys : List Item) (old new : List Thing) → xs ≡ ys → Adds l xs old new
      → Adds l ys old new
  adds_same xs ys old new e h = subst (λ zs. Adds l zs old new) e h

  -- one more of a list, each of which has some items
  pub adds_more : {X : Type 0} (f : X → List Item) (xs : List X) (i : ℕ) (d : X)
      (old mid new : List Thing) → i < length xs
      → Adds l (flat_map f (take i xs)) old mid → Adds l (f (get_or xs i d)) mid new
      → Adds l (flat_map f (take (i + 1) xs)) old new
  adds_more f xs i d old mid new lt h k =
      let x = get_or xs i d in
      let e = ap (flat_map f) (take_more xs i d lt) ∙ flat_map-append f (take i xs) (x ∷ [])
      ∙ ap (λ ys. flat_map f (take i xs) ++ ys) (append-nil (f x)) in
      adds_same (flat_map f (take i xs) ++ f x) (flat_map f (take (i + 1) xs)) old new (sym e)
      (adds_both (flat_map f (take i xs)) (f x) old mid new h k)

  -- the same, if the list has another name
  pub adds_next : {X : Type 0} (f : X → List Item) (ys xs : List X) (i : ℕ) (d : X)
      (old mid new : List Thing) → ys ≡ xs → i < length ys
      → Adds l (flat_map f (take i xs)) old mid → Adds l (f (get_or ys i d)) mid new
      → Adds l (flat_map f (take (i + 1) xs)) old new
  adds_next {X = X} f ys xs i d old mid new e lt h k =
      adds_more f xs i d old mid new (subst (λ (zs : List X). i < length zs) e lt) h
      (subst (λ (zs : List X). Adds l (f (get_or zs i d)) mid new) e k)

  -- an element that may exist, and may miss the window
  pub nothing_drawn : (t : Placing) (o : Option Element) (old : List Thing) → o ≡ None
      → Adds l (drawn t o) old old
  nothing_drawn t o old e = adds_none (drawn t o) old
      (shows_same l.window (drawn t o) [] (ap (drawn t) e))

  pub drawn_out : (t : Placing) (o : Option Element) (e : Element) (old : List Thing) → o ≡ Some e
      → is_met l.window (option_map (placed_box t) (element_box e)) ≡ false
      → Adds l (drawn t o) old old
  drawn_out t o e old is away =
      let item : Item = record { origin = 0; placing = t; element = e } in
      adds_none (drawn t o) old (subst (λ items. Shows l.window items []) (ap (drawn t) (sym is))
      (shows_none l.window (item ∷ []) (λ i h. elim (contains_cases item i [] h) [
        | inl same ↦ subst (λ (j : Item). is_met l.window (item_box j) ≡ false) same away
        | inr none ↦ absurd (contains_none i none)
      ])))

  -- the box of an element that misses the window in the coordinates of the placed structure
  pub own_out : (t : Placing) (o : Option Element) (e : Element) (b : Box2) (own : Option Box2)
      (old : List Thing) → o ≡ Some e → element_box e ≡ Some b
      → IfSome own (λ w. w ≡ own_window t l.window) → IsSomeAnd own (λ w. do_meet b w ≡ false)
      → Adds l (drawn t o) old old
  own_out t o e b None old at is same away = absurd away
  own_out t o e b (Some w) old at is same away =
      let ordered = subst (λ x. IfSome x IsOrdered) is (element_ordered e) in
      drawn_out t o e old at (ap (λ x. is_met l.window (option_map (placed_box t) x)) is
      ∙ missed_placed t.by l.window b ordered t.orient (ap (do_meet b) (sym same) ∙ away))

  -- the stored box of it
  pub held_out : (t : Placing) (o : Option Element) (b : Box2) (own : Option Box2)
      (old : List Thing) → box_of o ≡ Some b
      → IfSome own (λ w. w ≡ own_window t l.window) → IsSomeAnd own (λ w. do_meet b w ≡ false)
      → Adds l (drawn t o) old old
  held_out t None b own old is same away = absurd cc
  held_out t (Some e) b own old is same away = own_out t (Some e) e b own old refl is same away

  -- an area that misses the window
  pub area_out : (t : Placing) (o : Option Element) (area : Option Box2) (old : List Thing)
      → IfSome area (λ b. drawn_box t o ≡ Some b)
      → IsSomeAnd area (λ b. do_meet b l.window ≡ false) → Adds l (drawn t o) old old
  area_out t o None old boxed away = absurd away
  area_out t None (Some b) old boxed away = nothing_drawn t None old refl
  area_out t (Some e) (Some b) old boxed away =
      drawn_out t (Some e) e old refl (ap (is_met l.window) boxed ∙ away)

-- the area of an element is its placed box, if there is one
pub area_is : (t : Placing) (o : Option Element) (e : Element) (b : Box2) (area : Option Box2)
    → o ≡ Some e → element_box e ≡ Some b → IfSome area (λ a. a ≡ placed_box t b)
    → IfSome area (λ a. drawn_box t o ≡ Some a)
area_is t o e b None at is placed = tt
area_is t o e b (Some a) at is placed =
    ap (drawn_box t) at ∙ ap (option_map (placed_box t)) is ∙ ap Some (sym placed)

module _ (l : Layout) {X : Type 0} (f : X → List Item) (old mid new : List Thing) (n : ℕ) where
  -- one more column of a row, and one more row
  pub adds_column : (g : ℕ → X) → Adds l (flat_map f (map g (range_with_len 0 n))) old mid
      → Adds l (f (g n)) mid new
      → Adds l (flat_map f (map g (range_with_len 0 (n + 1)))) old new
  adds_column g h k =
      let e = ap (λ ns. flat_map f (map g ns)) (range_more 0 n)
      ∙ ap (flat_map f) (map-append g (range_with_len 0 n) ((0 + n) ∷ []))
      ∙ flat_map-append f (map g (range_with_len 0 n)) (g (0 + n) ∷ [])
      ∙ ap (λ m. flat_map f (map g (range_with_len 0 n)) ++ flat_map f (g m ∷ [])) (zero-add n)
      ∙ ap (λ ys. flat_map f (map g (range_with_len 0 n)) ++ ys) (append-nil (f (g n))) in
      adds_same l _ _ old new (sym e) (adds_both l (flat_map f (map g (range_with_len 0 n)))
      (f (g n)) old mid new h k)

  pub adds_row : (g : ℕ → List X) → Adds l (flat_map f (flat_map g (range_with_len 0 n))) old mid
      → Adds l (flat_map f (g n)) mid new
      → Adds l (flat_map f (flat_map g (range_with_len 0 (n + 1)))) old new
  adds_row g h k =
      let before = flat_map g (range_with_len 0 n) in
      let e = ap (λ ns. flat_map f (flat_map g ns)) (range_more 0 n)
      ∙ ap (flat_map f) (flat_map-append g (range_with_len 0 n) ((0 + n) ∷ []))
      ∙ flat_map-append f before (flat_map g ((0 + n) ∷ []))
      ∙ ap (λ m. flat_map f before ++ flat_map f (flat_map g (m ∷ []))) (zero-add n)
      ∙ ap (λ ys. flat_map f before ++ flat_map f ys) (append-nil (g n)) in
      adds_same l _ _ old new (sym e) (adds_both l (flat_map f before) (flat_map f (g n)) old mid
      new h k)

module _ (l : Layout) where
  -- entries with the items of one list are added, and so with those of another that it includes
  pub adds_through : (xs ys : List Item) (old new : List Thing) → Shows l.window xs ys
      → Adds l ys old new → Adds l xs old new
  adds_through xs ys old new h k = record {
    made = k.made;
    is = k.is;
    are = k.are;
    boxed = k.boxed;
    shows = shows_again l.window xs ys (things_items l.shelf.now k.made) h k.shows;
  }

  -- all entries
  pub adds_all : (new : List Thing) → All (IsThing l.nodes.now) new
      → All (IsBoxed l.shelf.now) new → Adds l (things_items l.shelf.now new) [] new
  adds_all new h boxed = record {
    made = new;
    is = refl;
    are = h;
    boxed = boxed;
    shows = shows_same l.window (things_items l.shelf.now new) (things_items l.shelf.now new) refl;
  }

  -- a pass over what was made
  pub adds_again : (items : List Item) (mid new : List Thing) → Adds l items [] mid
      → Adds l (things_items l.shelf.now mid) [] new → Adds l items [] new
  adds_again items mid new h k = record {
    made = k.made;
    is = k.is;
    are = k.are;
    boxed = k.boxed;
    shows =
        shows_again l.window items (things_items l.shelf.now mid) (things_items l.shelf.now k.made)
        (subst (λ ts. Shows l.window items (things_items l.shelf.now ts)) (sym h.is) h.shows)
        k.shows;
  }

  pub adds_shows : (items : List Item) (new : List Thing) → Adds l items [] new
      → Shows l.window items (things_items l.shelf.now new)
  adds_shows items new h = subst (λ ts. Shows l.window items (things_items l.shelf.now ts))
      (sym h.is) h.shows
