-- Answers at their indices.
use Rattle.std.proofs.Common.{◌≡◌, ℕ, ◌+◌, ◌<◌, ◌≤◌, pos, List, [], ◌∷◌, ◌++◌, length, get_or, take, ◌⊎◌, inl, inr, refl, sym, subst, ap, ◌∙◌, arith, get_or-set_same, get_or-set_other}
use Rattle.std.specs.Prelude.{Contains, All, ◌↔◌, slice_set}
use Rattle.std.specs.List.Sorted.{IsPermutation}
use Rattle.std.proofs.lemmas.Int.{ints, clamps}
use Rattle.std.proofs.lemmas.List.Sorted.{Contains-permutation, IsPermutation-sym}
use Rattle.std.proofs.lemmas.Bool.{cases_eq}
use Rattle.std.proofs.lemmas.List.{take_more, take_all, get_or_default}
use Rattle.std.proofs.lemmas.List.Elements.{Contains-get_or, Contains-append_left, Contains-append_right, Contains-append_cases, Contains-push, Contains-push_cases}
use Rattle.std.proofs.Math.ListN.{length-set}
use Rattle.mpw_geom.specs.declared.plane.Box2.{Box2}
use Rattle.mpw_geom.specs.Plane.{IsOrdered, HasArea, joined}
use Rattle.mpw_markers.specs.declared.search.Rectangle.{Rectangle}
use Rattle.mpw_markers.specs.declared.search.Item.{Item}
use Rattle.mpw_markers.specs.Met.{IsAscending}
use Rattle.mpw_markers.specs.Origins.{AreMetOrigins}
use Rattle.mpw_markers.specs.Internal.Search.{IsMetBy, IsAnswer, Answers, IsWithin, AreAlikeIn, CanBeFilled, Fills, AreItemsOf}
use Rattle.mpw_markers.proofs.Shared.{met_is}

abbrev Lists : Type 0
Lists = List (List ℕ)

only : (i j : Item) → Contains (i ∷ []) j → i ≡ j
only i j c = elim (Contains-push_cases [] i j c) [ inl n ↦ absurd (omega (arith, n.1)) | inr e ↦ e ]

-- one write
pub Fills-one : (common : List ℕ) (rectangles : List Rectangle) (i : Item) (old new : Lists)
    (met : List ℕ) → i.place < length old → new ≡ slice_set old i.place met
    → Answers common rectangles i.area met → Fills common rectangles (i ∷ []) old new
Fills-one common rectangles i old new met l e a = record {
  count = ap length e ∙ length-set old i.place met;
  changed = λ k. elim (cases_eq k i.place) [
    | inl same ↦ inr (
      i,
      Contains-push [] i,
      sym same,
      subst (λ (n : ℕ). Answers common rectangles i.area (get_or new n [])) (sym same) here,
    )
    | inr other ↦ inl (ap (λ (xs : Lists). get_or xs k []) e
        ∙ get_or-set_other old i.place k met [] other)
  ];
  filled = λ j c. subst (λ (x : Item). (y : Item) × Contains (i ∷ []) y × (y.place ≡ x.place)
      × Answers common rectangles y.area (get_or new x.place [])) (only i j c)
      (i, Contains-push [] i, refl, here);
}
  where
    here : Answers common rectangles i.area (get_or new i.place [])
    here = subst (Answers common rectangles i.area)
        (sym (ap (λ (xs : Lists). get_or xs i.place []) e ∙ get_or-set_same old i.place met [] l)) a

-- one part after the other
pub Fills-then : (common : List ℕ) (rectangles : List Rectangle) (first second all : List Item)
    (a b c : Lists) → ((i : Item) → Contains all i ↔ (Contains first i ⊎ Contains second i))
    → Fills common rectangles first a b → Fills common rectangles second b c
    → Fills common rectangles all a c
Fills-then common rectangles first second all a b c same f g = record {
  count = g.count ∙ f.count;
  changed = λ k. elim (g.changed k) [
    | inl e ↦ elim (f.changed k) [
      | inl d ↦ inl (e ∙ d)
      | inr d ↦ inr (
        d.0,
        (same d.0).1 (inl d.1),
        d.2,
        subst (Answers common rectangles d.0.area)
            (sym e) d.3,
      )
    ]
    | inr e ↦ inr (e.0, (same e.0).1 (inr e.1), e.2, e.3)
  ];
  filled = λ i m. elim ((same i).0 m) [
    | inl l ↦ left i (f.filled i l) (g.changed i.place)
    | inr r ↦ let d = g.filled i r in (d.0, (same d.0).1 (inr d.1), d.2, d.3)
  ];
}
  where
    left : (i : Item) → (j : Item) × Contains first j × (j.place ≡ i.place)
        × Answers common rectangles j.area (get_or b i.place [])
        → (get_or c i.place [] ≡ get_or b i.place [])
        ⊎ ((j : Item) × Contains second j × (j.place ≡ i.place)
        × Answers common rectangles j.area (get_or c i.place [])) → (j : Item) × Contains all j
        × (j.place ≡ i.place) × Answers common rectangles j.area (get_or c i.place [])
    left i d (inl e) = (
      d.0,
      (same d.0).1 (inl d.1),
      d.2,
      subst (Answers common rectangles d.0.area)
          (sym e) d.3,
    )
    left i d (inr e) = (e.0, (same e.0).1 (inr e.1), e.2, e.3)

pub pushed : (xs : List Item) (y i : Item) → Contains (xs ++ y ∷ []) i
    ↔ (Contains xs i ⊎ Contains (y ∷ []) i)
pushed xs y i = (
  λ c. elim (Contains-push_cases xs y i c) [
    | inl d ↦ inl d
    | inr e ↦ inr (subst (λ (x : Item). Contains (y ∷ []) x) e
        (Contains-push [] y))
  ],
  λ c. elim c [
    | inl d ↦ Contains-append_left xs (y ∷ []) i d
    | inr d
        ↦ subst (λ (x : Item). Contains (xs ++ y ∷ []) x) (only y i d) (Contains-push xs y)
  ],
)

-- from what matters in the hull to the whole
pub Fills-near : (hull : Box2) (common other : List ℕ) (rectangles others : List Rectangle)
    (items : List Item) (old new : Lists) (n : ℕ) → AreAlikeIn hull common other rectangles others
    → ((i : Item) → Contains items i → IsWithin i.area hull) → CanBeFilled n items
    → Fills other others items old new → Fills common rectangles items old new
Fills-near hull common other rectangles others items old new n alike within can f = record {
  count = f.count;
  changed = λ k. elim (f.changed k) [
    | inl e ↦ inl e
    | inr d
        ↦ inr (d.0, d.1, d.2, answers d.0 d.1 (get_or new k []) d.3)
  ];
  filled =
      λ i c. let d = f.filled i c in (d.0, d.1, d.2, answers d.0 d.1 (get_or new i.place []) d.3);
}
  where
    answers : (i : Item) → Contains items i → (numbers : List ℕ)
        → Answers other others i.area numbers → Answers common rectangles i.area numbers
    answers i c numbers a = record {
      ascending = a.ascending;
      exact = λ origin.
          let s = alike i.area origin (can i c).1 (within i c) in
          (λ x. s.0 ((a.exact origin).0 x), λ x. (a.exact origin).1 (s.1 x));
    }

-- the answers of all boxes
pub all_answers : (rectangles : List Rectangle) (boxes : List Box2) (items : List Item)
    (old new : Lists) → All (λ (r : Rectangle). HasArea r.area) rectangles → AreItemsOf boxes items
    → length old ≡ length boxes → Fills [] rectangles items old new
    → AreMetOrigins rectangles boxes new
all_answers rectangles boxes items old new h are count f = record {
  count = f.count ∙ count;
  ascending = λ k d l. subst IsAscending (default k d l)
      (at k (let c = f.count in omega arith) box).ascending;
  met = λ k origin d l. let a = (at k l d).exact origin in (
    λ c. (met_is rectangles (get_or boxes k d) origin h).0 (some k origin d (a.0 c)),
    λ m. a.1 (inr ((met_is rectangles (get_or boxes k d) origin h).1 m)),
  );
}
  where
    box : Box2
    box = record { x0 = pos 0; y0 = pos 0; x1 = pos 0; y1 = pos 0 }

    at : (k : ℕ) → k < length boxes → (d : Box2)
        → Answers [] rectangles (get_or boxes k d) (get_or new k [])
    at k l d =
        let i = are.complete k d l in
        let g = f.filled i.0 i.1 in
        let s = are.sound g.0 g.1 in
        let place : g.0.place ≡ k = g.2 ∙ i.2 in
        let area : g.0.area ≡ get_or boxes k d = sym (s.1 d)
        ∙ ap (λ (n : ℕ). get_or boxes n d) place in
        subst (λ (b : Box2). Answers [] rectangles b (get_or new k [])) area
        (subst (λ (n : ℕ). Answers [] rectangles g.0.area (get_or new n [])) i.2 g.3)

    default : (k : ℕ) (d : List ℕ) → k < length new → get_or new k [] ≡ get_or new k d
    default k d l = get_or_default new k [] d l

    some : (k origin : ℕ) (d : Box2) → IsAnswer [] rectangles (get_or boxes k d) origin
        → IsMetBy rectangles (get_or boxes k d) origin
    some k origin d (inl c) = absurd (omega (arith, c.1))
    some k origin d (inr m) = m

-- ---- the items

-- the items so far, of the boxes before an index
pub record AreItemsBefore (boxes : List Box2) (n : ℕ) (items : List Item) : Type 0 where
  pub complete : (k : ℕ) → k < n → (i : Item) × Contains items i × (i.place ≡ k)
  pub sound : (i : Item) → Contains items i
      → (i.place < n) × ((d : Box2) → get_or boxes i.place d ≡ i.area)

pub AreItemsBefore-more : (boxes : List Box2) (n : ℕ) (items : List Item) (i : Item)
    → AreItemsBefore boxes n items → i.place ≡ n → ((d : Box2) → get_or boxes n d ≡ i.area)
    → AreItemsBefore boxes (n + 1) (items ++ i ∷ [])
AreItemsBefore-more boxes n items i h e f = record {
  complete = λ k l. elim (cases_eq k n) [
    | inl same ↦ (i, Contains-push items i, e ∙ sym same)
    | inr other ↦ let c = h.complete k (omega arith) in
        (c.0, Contains-append_left items (i ∷ []) c.0 c.1, c.2)
  ];
  sound = λ j c. elim (Contains-push_cases items i j c) [
    | inl d ↦ let s = h.sound j d in (omega (arith, s.0), s.1)
    | inr same ↦ subst (λ (x : Item). (x.place < n + 1)
        × ((d : Box2) → get_or boxes x.place d ≡ x.area)) same
        (omega (arith, e), λ d. ap (λ (k : ℕ). get_or boxes k d) e ∙ f d)
  ];
}

pub AreItemsOf-all : (boxes : List Box2) (n : ℕ) (items : List Item) → n ≡ length boxes
    → AreItemsBefore boxes n items → AreItemsOf boxes items
AreItemsOf-all boxes n items e h = record {
  complete = λ k d l. h.complete k (omega arith);
  sound = λ i c. let s = h.sound i c in (omega (arith, s.0), s.1);
}

pub items_can : (boxes : List Box2) (items : List Item) (n : ℕ) → n ≡ length boxes
    → All IsOrdered boxes → AreItemsOf boxes items → CanBeFilled n items
items_can boxes items n e o h i c =
    let s = h.sound i c in
    (omega (arith, s.0), subst IsOrdered (s.1 i.area) (o i.place i.area s.0))

-- ---- along the code's lists

abbrev pub no_item : Item
no_item = record { place = 0; area = record { x0 = pos 0; y0 = pos 0; x1 = pos 0; y1 = pos 0 } }

pub Fills-more : (common : List ℕ) (rectangles : List Rectangle) (items : List Item) (n : ℕ)
    (a b c : Lists) → n < length items → Fills common rectangles (take n items) a b
    → Fills common rectangles (get_or items n no_item ∷ []) b c
    → Fills common rectangles (take (n + 1) items) a c
Fills-more common rectangles items n a b c l f g =
    subst (λ (is : List Item). Fills common rectangles is a c) (sym (take_more items n no_item l))
    (Fills-then common rectangles (take n items) (get_or items n no_item ∷ [])
    (take n items ++ get_or items n no_item ∷ []) a b c
    (pushed (take n items) (get_or items n no_item)) f g)

pub can_at : (count now : ℕ) (items : List Item) (n : ℕ) → n < length items → now ≡ count
    → CanBeFilled count items → (get_or items n no_item).place < now
can_at count now items n l e can =
    let c = (can (get_or items n no_item) (Contains-get_or items n no_item l)).0 in omega (arith, c)

pub halves_are : (items low high a b : List Item) (median : Item)
    → IsPermutation items (low ++ median ∷ high) → a ≡ low → b ≡ median ∷ high → (i : Item)
    → Contains items i ↔ (Contains a i ⊎ Contains b i)
halves_are items low high a b median p h k i = (to, from)
  where
    whole : a ++ b ≡ low ++ median ∷ high
    whole = rw (h, k) refl

    to : Contains items i → Contains a i ⊎ Contains b i
    to c = Contains-append_cases a b i
        (subst (λ (xs : List Item). Contains xs i) (sym whole)
        (Contains-permutation items (low ++ median ∷ high) i p c))

    back : Contains (a ++ b) i → Contains items i
    back c = Contains-permutation (low ++ median ∷ high) items i
        (IsPermutation-sym items (low ++ median ∷ high) p)
        (subst (λ (xs : List Item). Contains xs i) whole c)

    from : Contains a i ⊎ Contains b i → Contains items i
    from (inl c) = back (Contains-append_left a b i c)
    from (inr c) = back (Contains-append_right a b i c)

within_chain : (a b c : Box2) → IsWithin a b → IsWithin b c → IsWithin a c
within_chain a b c f g = record {
  left = (let p = f.left in let q = g.left in omega (arith, ints));
  right = (let p = f.right in let q = g.right in omega (arith, ints));
  bottom = (let p = f.bottom in let q = g.bottom in omega (arith, ints));
  top = (let p = f.top in let q = g.top in omega (arith, ints));
}

within_more : (items : List Item) (n : ℕ) (hull new : Box2) → n < length items
    → ((i : Item) → Contains (take n items) i → IsWithin i.area hull) → IsWithin hull new
    → IsWithin (get_or items n no_item).area new → (i : Item) → Contains (take (n + 1) items) i
    → IsWithin i.area new
within_more items n hull new l h f g i c =
    elim (Contains-push_cases (take n items) (get_or items n no_item) i
    (subst (λ (xs : List Item). Contains xs i) (take_more items n no_item l) c)) [
      | inl d ↦ within_chain i.area hull new (h i d) f
      | inr e ↦ subst (λ (x : Item). IsWithin x.area new) e g
    ]

-- an item's box was joined
pub within_joined : (items : List Item) (n : ℕ) (hull new : Box2) → n < length items
    → ((i : Item) → Contains (take n items) i → IsWithin i.area hull)
    → new ≡ joined hull (get_or items n no_item).area → (i : Item) → Contains (take (n + 1) items) i
    → IsWithin i.area new
within_joined items n hull new l h e =
    within_more items n hull new l h (subst (IsWithin hull) (sym e) first)
    (subst (IsWithin area) (sym e) second)
  where
    area : Box2
    area = (get_or items n no_item).area

    first : IsWithin hull (joined hull area)
    first = record {
      left = omega (arith, ints, clamps);
      right = omega (arith, ints, clamps);
      bottom = omega (arith, ints, clamps);
      top = omega (arith, ints, clamps);
    }

    second : IsWithin area (joined hull area)
    second = record {
      left = omega (arith, ints, clamps);
      right = omega (arith, ints, clamps);
      bottom = omega (arith, ints, clamps);
      top = omega (arith, ints, clamps);
    }

pub within_all : (items : List Item) (n : ℕ) (hull : Box2) → length items ≤ n
    → ((i : Item) → Contains (take n items) i → IsWithin i.area hull) → (i : Item)
    → Contains items i → IsWithin i.area hull
within_all items n hull l h i c =
    h i (subst (λ (xs : List Item). Contains xs i) (sym (take_all n items l)) c)

-- a part of the items, with as many answers
pub can_part : (n m : ℕ) (items part : List Item) → m ≡ n
    → ((i : Item) → Contains part i → Contains items i) → CanBeFilled n items → CanBeFilled m part
can_part n m items part e in' can i c = let s = can i (in' i c) in (omega (arith, s.0), s.1)

pub alike_seen : (hull : Box2) (common : List ℕ) (rectangles : List Rectangle) (found seen : List ℕ)
    (some shown : List Rectangle) → seen ≡ found → shown ≡ some
    → AreAlikeIn hull common found rectangles some → AreAlikeIn hull common seen rectangles shown
alike_seen hull common rectangles found seen some shown e f h =
    subst (λ (xs : List ℕ). AreAlikeIn hull common xs rectangles shown) (sym e)
    (subst (λ (ys : List Rectangle). AreAlikeIn hull common found rectangles ys) (sym f) h)

pub within_seen : (items seen : List Item) (hull : Box2) → seen ≡ items
    → ((i : Item) → Contains seen i → IsWithin i.area hull) → (i : Item) → Contains items i
    → IsWithin i.area hull
within_seen items seen hull e h i c = h i (subst (λ (xs : List Item). Contains xs i) (sym e) c)
