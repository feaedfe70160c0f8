-- The list of a sweep: which boxes it contains.
use Rattle.std.proofs.Common.{◌≡◌, ℕ, ◌+◌, ◌<◌, ◌≤◌, ℤ, ◌≤ℤ◌, ◌<ℤ◌, Bool, true, false, List, [], ◌∷◌, ◌++◌, length, get_or, take, drop, ◌⊎◌, inl, inr, subst, sym, ap, ◌∙◌, refl, arith}
use Rattle.std.specs.Prelude.{All, AllPairs, Contains, filter, cond, int_lt}
use Rattle.std.specs.Ordering.{int_cmp, is_lt}
use Rattle.std.specs.List.Sorted.{IsPermutation, IsSortedByKey}
use Rattle.std.specs.Fn.{Called, ComputesKey}
use denote.Param.Members.{Mut}
use denote.Ref.{Bor}
use Rattle.std.proofs.lemmas.Fn.{always_returns_same}
use Rattle.std.proofs.lemmas.Int.{ints}
use Rattle.std.proofs.lemmas.Bool.{cases_lt}
use Rattle.std.proofs.lemmas.Cmp.{int_cmp_total}
use Rattle.std.proofs.lemmas.List.{take_more, take_all, take-append-drop, get_or-take, length-take, get_or_default}
use Rattle.std.proofs.lemmas.List.Elements.{All-contains, Contains-append_left, Contains-append_right, Contains-append_cases, Contains-push, Contains-push_cases}
use Rattle.std.proofs.lemmas.List.Sorted.{sorted_far, ranks_by, Contains-permutation, IsPermutation-sym}
use Rattle.mpw_geom.specs.declared.plane.Box2.{Box2}
use Rattle.mpw_geom.proofs.Tests.{lt_from_test, test_from_lt}
use Rattle.mpw_geom.proofs.Squares.{no_box}
use Rattle.mpw_region.specs.Internal.Sweep.{HasRow, HoldsJust, BeginsBelow}
use Rattle.mpw_region.proofs.Orderings.{not_after}
use Rattle.mpw_region.proofs.Held.{place_of}

-- ---- order after a sort by a number of each box

rising_from_sort : (key : Box2 → ℤ) (xs : List Box2) → IsSortedByKey key int_cmp xs
    → AllPairs (λ a b. key a ≤ℤ key b) xs
rising_from_sort key xs h i j d l b = not_after (key (get_or xs i d)) (key (get_or xs j d))
    (sorted_far (λ x y. is_lt (int_cmp (key x) (key y))) (ranks_by int_cmp_total key) xs h i j d
    (omega arith) b)

pub rising_from_sort_by_key : (key : Box2 → ℤ) {F : Type 0} {g : Mut F (Bor Box2 × Unit {0}) ℤ}
    {f : F} (xs : List Box2) → ((k : Box2 → ℤ) → ComputesKey g k f → IsSortedByKey k int_cmp xs)
    → ((a : Bor Box2 × Unit {0}) (r : ℤ) (f' : F) → Called g f a r f'
    → (r ≡ key a.0.now) × (f' ≡ f)) → AllPairs (λ a b. key a ≤ℤ key b) xs
rising_from_sort_by_key key {g = g} {f = f} xs up h =
    rising_from_sort key xs (up key (always_returns_same g (λ a r. r ≡ key a.0.now) f h))

-- ---- what a filter selects

cons_cases : {X : Type 0} (y : X) (ys : List X) (x : X) → Contains (y ∷ ys) x
    → (y ≡ x) ⊎ Contains ys x
cons_cases y ys x c = elim (Contains-append_cases (y ∷ []) ys x c) [
  | inl a ↦ elim (Contains-push_cases [] y x a) [
    | inl n ↦ absurd (omega (arith, n.1))
    | inr e
        ↦ inl e
  ]
  | inr b ↦ inr b
]

pub kept_from : {X : Type 0} (p : X → Bool) (xs : List X) (x : X) → Contains (filter p xs) x
    → Contains xs x × (p x ≡ true)
kept_from p [] x h = absurd (omega (arith, h.1))
kept_from {X} p (y ∷ ys) x h = go (λ c. kept_from p ys x c) (p y) refl h
  where
    go : (Contains (filter p ys) x → Contains ys x × (p x ≡ true)) → (b : Bool) → p y ≡ b
        → Contains (cond b (y ∷ filter p ys) (filter p ys)) x → Contains (y ∷ ys) x × (p x ≡ true)
    go later true e c = elim (cons_cases y (filter p ys) x c) [
      | inl same ↦ (
        subst (λ (z : X). Contains (y ∷ ys) z) same
            (Contains-append_left (y ∷ []) ys y (Contains-push [] y)),
        ap p (sym same) ∙ e,
      )
      | inr rest ↦ let r = later rest in (Contains-append_right (y ∷ []) ys x r.0, r.1)
    ]
    go later false e c = let r = later c in (Contains-append_right (y ∷ []) ys x r.0, r.1)

pub kept : {X : Type 0} (p : X → Bool) (xs : List X) (x : X) → Contains xs x → p x ≡ true
    → Contains (filter p xs) x
kept p [] x h e = absurd (omega (arith, h.1))
kept {X} p (y ∷ ys) x h e = go (λ c. kept p ys x c e) (p y) refl
  where
    go : (Contains ys x → Contains (filter p ys) x) → (b : Bool) → p y ≡ b
        → Contains (cond b (y ∷ filter p ys) (filter p ys)) x
    go later true f = elim (cons_cases y ys x h) [
      | inl same ↦ subst (λ (z : X). Contains (y ∷ filter p ys) z) same
          (Contains-append_left (y ∷ []) (filter p ys) y (Contains-push [] y))
      | inr rest ↦ Contains-append_right (y ∷ []) (filter p ys) x (later rest)
    ]
    go later false f = elim (cons_cases y ys x h) [
      | inl same ↦ let clash : true ≡ false = sym e ∙ ap p (sym same) ∙ f in cc
      | inr rest ↦ later rest
    ]

-- ---- the list

pub HoldsJust-none : (P : Box2 → Type 0) → HoldsJust [] P []
HoldsJust-none P = record {
  sound = λ b c. absurd (omega (arith, c.1));
  complete = λ b c p. absurd (omega (arith, c.1));
}

pub HoldsJust-drop : (boxes list : List Box2) (low row : ℤ) → low ≤ℤ row
    → HoldsJust boxes (λ b. low <ℤ b.y1) list
    → HoldsJust boxes (λ b. row <ℤ b.y1) (filter (λ b. int_lt row b.y1) list)
HoldsJust-drop boxes list low row l h = record {
  sound = λ b c. let k = kept_from (λ (x : Box2). int_lt row x.y1) list b c in let s =
      h.sound b k.0 in (s.0, lt_from_test row b.y1 k.1);
  complete = λ b c p. kept (λ (x : Box2). int_lt row x.y1) list b
      (h.complete b c (omega (arith, ints, l, p))) (test_from_lt row b.y1 p);
}

pub HoldsJust-moved : (boxes list moved : List Box2) (P : Box2 → Type 0) → IsPermutation list moved
    → HoldsJust boxes P list → HoldsJust boxes P moved
HoldsJust-moved boxes list moved P m h = record {
  sound = λ b c. h.sound b (Contains-permutation moved list b (IsPermutation-sym list moved m) c);
  complete = λ b c p. Contains-permutation list moved b m (h.complete b c p);
}

pub HoldsJust-push : (boxes list : List Box2) (P : Box2 → Type 0) (i : ℕ) (d : Box2)
    → i < length boxes → HoldsJust (take i boxes) P list → P (get_or boxes i d)
    → HoldsJust (take (i + 1) boxes) P (list ++ get_or boxes i d ∷ [])
HoldsJust-push boxes list P i d l h p = subst (λ bs. HoldsJust bs P (list ++ get_or boxes i d ∷ []))
    (sym (take_more boxes i d l)) (record {
      sound = λ b c. elim (Contains-push_cases list (get_or boxes i d) b c) [
        | inl old ↦ let s = h.sound b old in
            (Contains-append_left (take i boxes) (get_or boxes i d ∷ []) b s.0, s.1)
        | inr new ↦ subst (λ (x : Box2). Contains (take i boxes ++ get_or boxes i d ∷ []) x × P x)
            new
            (Contains-push (take i boxes) (get_or boxes i d), p)
      ];
      complete = λ b c q. elim (Contains-push_cases (take i boxes) (get_or boxes i d) b c) [
        | inl old ↦ Contains-append_left list (get_or boxes i d ∷ []) b (h.complete b old q)
        | inr new ↦ subst (λ (x : Box2). Contains (list ++ get_or boxes i d ∷ []) x) new
            (Contains-push list (get_or boxes i d))
      ];
    })

pub HoldsJust-skip : (boxes list : List Box2) (P : Box2 → Type 0) (i : ℕ) (d : Box2)
    → i < length boxes → HoldsJust (take i boxes) P list → (P (get_or boxes i d) → ⊥)
    → HoldsJust (take (i + 1) boxes) P list
HoldsJust-skip boxes list P i d l h never =
    subst (λ bs. HoldsJust bs P list) (sym (take_more boxes i d l)) (record {
      sound = λ b c. let s = h.sound b c in
          (Contains-append_left (take i boxes) (get_or boxes i d ∷ []) b s.0, s.1);
      complete = λ b c q. elim (Contains-push_cases (take i boxes) (get_or boxes i d) b c) [
        | inl old ↦ h.complete b old q
        | inr new ↦ absurd (never (subst P (sym new) q))
      ];
    })

pub HoldsJust-all : (boxes list : List Box2) (P : Box2 → Type 0) (i : ℕ) → length boxes ≤ i
    → HoldsJust (take i boxes) P list → HoldsJust boxes P list
HoldsJust-all boxes list P i l h = subst (λ bs. HoldsJust bs P list) (take_all i boxes l) h

-- if the boxes from index n on begin above the row, the list has exactly the boxes that have it
pub HoldsJust-row : (boxes list : List Box2) (row : ℤ) (n : ℕ)
    → HoldsJust (take n boxes) (λ b. row <ℤ b.y1) list → All (λ b. b.y0 ≤ℤ row) (take n boxes)
    → ((k : ℕ) (d : Box2) → n ≤ k → k < length boxes → row <ℤ (get_or boxes k d).y0)
    → HoldsJust boxes (λ b. HasRow b row) list
HoldsJust-row boxes list row n h begun ahead = record {
  sound = λ b c.
      let s = h.sound b c in (
        subst (λ bs. Contains bs b) (take-append-drop n boxes)
            (Contains-append_left (take n boxes) (drop n boxes) b s.0),
        (All-contains (λ (x : Box2). x.y0 ≤ℤ row) (take n boxes) b begun s.0, s.1),
      );
  complete = λ b c p. at b p (place_of boxes no_box b c);
}
  where
    at : (b : Box2) → HasRow b row → (k : ℕ) × (k < length boxes) × (get_or boxes k no_box ≡ b)
        → Contains list b
    at b p w = elim (cases_lt w.0 n) [
      | inl low ↦
          let e : get_or (take n boxes) w.0 b ≡ get_or boxes w.0 b = get_or-take n boxes w.0 b
          low in
          let is : get_or boxes w.0 b ≡ b = get_or_default boxes w.0 b no_box w.1 ∙ w.2 in
          h.complete b (w.0, omega (arith, length-take n boxes, low, w.1), e ∙ is) p.1
      | inr high ↦ absurd (let f = ahead w.0 no_box high w.1 in
          omega (arith, ints, ap (λ (x : Box2). x.y0) w.2, f, p.0))
    ]

-- what begins after one that begins above the row begins above it too
pub ahead : (boxes : List Box2) (row : ℤ) (n k : ℕ) (d : Box2) → AllPairs BeginsBelow boxes → n ≤ k
    → k < length boxes → row <ℤ (get_or boxes n no_box).y0 → row <ℤ (get_or boxes k d).y0
ahead boxes row n k d o l b h = elim (cases_lt n k) [
  | inl less ↦
      let first : row <ℤ (get_or boxes n d).y0 = subst (λ (x : Box2). row <ℤ x.y0)
      (get_or_default boxes n no_box d (omega (arith, less, b))) h in
      omega (arith, ints, first, o n k d less b)
  | inr more ↦
      let e : n ≡ k = omega arith in
      subst (λ (x : Box2). row <ℤ x.y0) (get_or_default boxes k no_box d b)
      (subst (λ (m : ℕ). row <ℤ (get_or boxes m no_box).y0) e h)
]

pub le_from_not_lt : (a b : ℤ) → int_lt a b ≡ false → b ≤ℤ a
le_from_not_lt a b h = grind (arith, ints)
