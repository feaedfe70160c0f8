-- Parts of a list, edges of bands, and the preconditions and results of a binary search over them.
use Rattle.std.proofs.Common.{◌≡◌, ℕ, ◌+◌, ◌<◌, ◌≤◌, ℤ, ◌≤ℤ◌, ◌<ℤ◌, Bool, true, false, List, [], ◌∷◌, length, get_or, take, drop, map, ◌⊎◌, inl, inr, subst, sym, ap, refl, arith}
use Rattle.std.specs.Prelude.{All, AllPairs, Contains, int_lt, int_le}
use Rattle.std.specs.List.{AllWithin}
use Rattle.std.specs.List.Sorted.{IsPartitionedBy, IsPartitionPoint}
use Rattle.std.specs.Fn.{Called, ComputesKey}
use denote.Param.Members.{Mut}
use denote.Ref.{Bor}
use Rattle.std.proofs.lemmas.Fn.{always_returns_same}
use Rattle.std.proofs.lemmas.Int.{ints}
use Rattle.std.proofs.lemmas.Bool.{cases_lt}
use Rattle.std.proofs.lemmas.List.{take-append-drop, get_or-take, get_or-drop, get_or-map, get_or_default, length-take, length-drop, length-map}
use Rattle.std.proofs.lemmas.List.Elements.{All-weaker, All-map, Contains-append_left, Contains-append_right, Contains-append_cases}
use Rattle.mpw_geom.specs.declared.plane.Box2.{Box2}
use Rattle.mpw_geom.specs.Plane.{HasArea}
use Rattle.mpw_geom.proofs.Tests.{lt_from_test, test_from_lt, le_from_test, test_from_le}
use Rattle.mpw_geom.proofs.Squares.{no_box}
use Rattle.mpw_region.specs.Banded.{StandsInBands, AreBands}
use Rattle.mpw_region.proofs.Held.{Held}
use Rattle.mpw_edges.specs.declared.edges.End.{End}
use Rattle.mpw_edges.specs.declared.edges.End.TheVariants.{Rise, Fall}
use Rattle.mpw_edges.specs.declared.pair.Edge.{Edge}
use Rattle.mpw_edges.specs.Internal.Pairs.{rise_of, fall_of, edge_of, IsEdgeBefore, AreEdges, IsLeftOf, HasRowsOf, IsBand}
use Rattle.mpw_edges.proofs.Tests.{gt_from_test, test_from_gt}
use Rattle.mpw_edges.proofs.Region.{no_edge}

-- ---- parts of a list

pub held_parts : {X : Type 0} (P : X → Type 0) (xs : List X) (n : ℕ) → Held P xs
    → Held P (take n xs) ⊎ Held P (drop n xs)
held_parts {X} P xs n h =
    elim (Contains-append_cases (take n xs) (drop n xs) h.0
    (subst (λ (ys : List X). Contains ys h.0) (sym (take-append-drop n xs)) h.1)) [
      | inl c ↦ inl (h.0, c, h.2)
      | inr c ↦ inr (h.0, c, h.2)
    ]

pub held_take : {X : Type 0} (P : X → Type 0) (xs : List X) (n : ℕ) → Held P (take n xs) → Held P xs
held_take {X} P xs n h = (
  h.0,
  subst (λ (ys : List X). Contains ys h.0) (take-append-drop n xs)
      (Contains-append_left (take n xs) (drop n xs) h.0 h.1),
  h.2,
)

pub held_drop : {X : Type 0} (P : X → Type 0) (xs : List X) (n : ℕ) → Held P (drop n xs) → Held P xs
held_drop {X} P xs n h = (
  h.0,
  subst (λ (ys : List X). Contains ys h.0) (take-append-drop n xs)
      (Contains-append_right (take n xs) (drop n xs) h.0 h.1),
  h.2,
)

pub all_taken : {X : Type 0} (P : X → Type 0) (xs : List X) (n : ℕ) → AllWithin P xs 0 n
    → All P (take n xs)
all_taken P xs n h k d l = subst P (sym (get_or-take n xs k d (omega (arith, l, length-take n xs))))
    (h k d (omega arith) (omega (arith, l, length-take n xs)))

all_dropped : {X : Type 0} (P : X → Type 0) (xs : List X) (n : ℕ) → AllWithin P xs n (length xs)
    → All P (drop n xs)
all_dropped P xs n h k d l = subst P (sym (get_or-drop n xs k d))
    (h (n + k) d (omega arith) (omega (arith, l, length-drop n xs)))

-- ---- edges of bands

pairs_map : {X Y : Type 0} (R : Y → Y → Type 0) (f : X → Y) (xs : List X) (e : X)
    → AllPairs (λ a b. R (f a) (f b)) xs → AllPairs R (map f xs)
pairs_map R f xs e h i j d l b =
    let inside : j < length xs = omega (arith, b, length-map xs f) in
    subst (λ y. R y (get_or (map f xs) j d))
    (sym (get_or-map f xs i e d (omega (arith, l, inside))))
    (subst (λ y. R (f (get_or xs i e)) y) (sym (get_or-map f xs j e d inside)) (h i j e l inside))

rises_ordered : (boxes : List Box2) → AreBands boxes → AreEdges (map rise_of boxes)
rises_ordered boxes h = record {
  filled = All-map (λ (e : Edge). e.y0 <ℤ e.y1) rise_of boxes
      (All-weaker HasArea (λ b. b.y0 <ℤ b.y1) (λ b a. a.height) boxes h.filled);
  ordered = pairs_map IsEdgeBefore rise_of boxes no_box
      (λ i j d l b. before (get_or boxes i d) (get_or boxes j d)
      (h.filled i d (omega (arith, l, b))) (h.ordered i j d l b));
}
  where
    before : (p q : Box2) → HasArea p → StandsInBands p q → IsEdgeBefore (rise_of p) (rise_of q)
    before p q a (inl below) = inl below
    before p q a (inr s) = inr (s.0, s.1, omega (arith, ints, a.width, s.2))

falls_ordered : (boxes : List Box2) → AreBands boxes → AreEdges (map fall_of boxes)
falls_ordered boxes h = record {
  filled = All-map (λ (e : Edge). e.y0 <ℤ e.y1) fall_of boxes
      (All-weaker HasArea (λ b. b.y0 <ℤ b.y1) (λ b a. a.height) boxes h.filled);
  ordered = pairs_map IsEdgeBefore fall_of boxes no_box
      (λ i j d l b. before (get_or boxes i d) (get_or boxes j d) (h.filled j d b)
      (h.ordered i j d l b));
}
  where
    before : (p q : Box2) → HasArea q → StandsInBands p q → IsEdgeBefore (fall_of p) (fall_of q)
    before p q a (inl below) = inl below
    before p q a (inr s) = inr (s.0, s.1, omega (arith, ints, a.width, s.2))

pub edges_ordered : (end : End) (boxes : List Box2) → AreBands boxes
    → AreEdges (map (edge_of end) boxes)
edges_ordered Rise boxes h = rises_ordered boxes h
edges_ordered Fall boxes h = falls_ordered boxes h

-- ---- preconditions and results of a binary search

pub partitioned_by_x : (edges : List Edge) (x : ℤ) → AllPairs IsLeftOf edges
    → IsPartitionedBy (λ e. int_lt e.x x) edges
partitioned_by_x edges x h i j d l b t = elim (cases_lt i j) [
  | inl less ↦ let s = h i j d less b in let u = lt_from_test (get_or edges j d).x x t in
      test_from_lt (get_or edges i d).x x (omega (arith, ints, s, u))
  | inr more ↦ subst (λ (m : ℕ). int_lt (get_or edges m d).x x ≡ true)
      (let e : j ≡ i = omega arith in e) t
]

pub no_lower : (edges : List Edge) (i j : ℕ) (d : Edge) → AreEdges edges → i < j → j < length edges
    → (get_or edges i d).y0 ≤ℤ (get_or edges j d).y0
no_lower edges i j d h l b = elim (h.ordered i j d l b) [
  | inl below ↦ let f = h.filled i d (omega (arith, l, b)) in omega (arith, ints, below, f)
  | inr s ↦ omega (arith, ints, s.0)
]

pub partitioned_by_row : (edges : List Edge) (y : ℤ) → AreEdges edges
    → IsPartitionedBy (λ e. int_le e.y0 y) edges
partitioned_by_row edges y h i j d l b t = elim (cases_lt i j) [
  | inl less ↦ let s = no_lower edges i j d h less b in let u = le_from_test (get_or edges j d).y0 y
      t in test_from_le (get_or edges i d).y0 y (omega (arith, ints, s, u))
  | inr more ↦ subst (λ (m : ℕ). int_le (get_or edges m d).y0 y ≡ true)
      (let e : j ≡ i = omega arith in e) t
]

pub computed : (test : Edge → Bool) {F : Type 0} {g : Mut F (Bor Edge × Unit {0}) Bool} {f : F}
    (edges : List Edge) (r : ℕ)
    → ((p : Edge → Bool) → ComputesKey g p f → IsPartitionedBy p edges
    → IsPartitionPoint (λ y. p y ≡ true) (λ y. p y ≡ false) edges r)
    → ((a : Bor Edge × Unit {0}) (b : Bool) (f' : F) → Called g f a b f'
    → (b ≡ test a.0.now) × (f' ≡ f)) → IsPartitionedBy test edges
    → IsPartitionPoint (λ y. test y ≡ true) (λ y. test y ≡ false) edges r
computed test {g = g} {f = f} edges r h calls parted =
    h test (always_returns_same g (λ a b. b ≡ test a.0.now) f calls) parted

pub left_of_place : (edges : List Edge) (x : ℤ) (r : ℕ)
    → IsPartitionPoint (λ e. int_lt e.x x ≡ true) (λ e. int_lt e.x x ≡ false) edges r
    → All (λ e. e.x <ℤ x) (take r edges)
left_of_place edges x r h = all_taken (λ (e : Edge). e.x <ℤ x) edges r
    (λ k d l b. lt_from_test (get_or edges k d).x x (h.0 k d l b))

-- an edge that begins no higher than the first has its rows, otherwise it lies above it
same_rows : (edges : List Edge) (k : ℕ) (d : Edge) → AreEdges edges → k < length edges
    → (get_or edges k d).y0 ≤ℤ (get_or edges 0 d).y0
    → HasRowsOf (get_or edges 0 d) (get_or edges k d)
same_rows edges k d h b low = elim (cases_lt 0 k) [
  | inl less ↦ elim (h.ordered 0 k d less b) [
    | inl below ↦ absurd (let f = h.filled 0 d (omega (arith, less, b)) in
        omega (arith, ints, f, below, low))
    | inr s ↦ (sym s.0, sym s.1)
  ]
  | inr more ↦ subst (λ (m : ℕ). HasRowsOf (get_or edges 0 d) (get_or edges m d))
      (let e : 0 ≡ k = omega arith in e) (refl, refl)
]

higher : (edges : List Edge) (k : ℕ) (d : Edge) → AreEdges edges → k < length edges
    → (get_or edges 0 d).y0 <ℤ (get_or edges k d).y0
    → (get_or edges 0 d).y1 ≤ℤ (get_or edges k d).y0
higher edges k d h b up = elim (cases_lt 0 k) [
  | inl less ↦ elim (h.ordered 0 k d less b) [
    | inl below ↦ below
    | inr s ↦ absurd (omega (arith, ints, up, s.0))
  ]
  | inr more ↦ absurd (let e : k ≡ 0 = omega arith in
      omega (arith, ints, up, ap (λ (m : ℕ). (get_or edges m d).y0) e))
]

pub at_default : (edges : List Edge) (k : ℕ) (d e : Edge) → k < length edges
    → get_or edges k d ≡ get_or edges k e
at_default edges k d e l = get_or_default edges k d e l

pub IsBand-from_search : (edges : List Edge) (r : ℕ) → AreEdges edges → 1 ≤ length edges
    → r ≤ length edges → IsPartitionPoint (λ e. int_le e.y0 (get_or edges 0 no_edge).y0 ≡ true)
    (λ e. int_le e.y0 (get_or edges 0 no_edge).y0 ≡ false) edges r → IsBand edges r
IsBand-from_search edges r h some within p = record {
  some = elim (cases_lt 0 r) [
    | inl less ↦ omega (arith, less)
    | inr none ↦ absurd (let f = gt_from_test (get_or edges 0 no_edge).y0
        (get_or edges 0 no_edge).y0 (p.1 0 no_edge (omega (arith, none)) (omega (arith, some))) in
        omega (arith, ints, f))
  ];
  within = within;
  rows = λ d. all_taken (HasRowsOf (get_or edges 0 d)) edges r (λ k e l b.
      let inside : k < length edges = omega (arith, b, within) in
      let low = le_from_test (get_or edges k no_edge).y0 (get_or edges 0 no_edge).y0
      (p.0 k no_edge l b) in
      subst (λ (x : Edge). HasRowsOf x (get_or edges k e))
      (at_default edges 0 no_edge d (omega (arith, some)))
      (subst (λ (x : Edge). HasRowsOf (get_or edges 0 no_edge) x)
      (at_default edges k no_edge e inside) (same_rows edges k no_edge h inside low)));
  left = λ i j d l b.
      let g = length-take r edges in
      let first = get_or-take r edges i d (omega (arith, l, b, g)) in
      let second = get_or-take r edges j d (omega (arith, b, g)) in
      let low = le_from_test (get_or edges j no_edge).y0 (get_or edges 0 no_edge).y0
      (p.0 j no_edge (omega arith) (omega (arith, b, g))) in
      let start = bottom i (omega (arith, l, b, g)) in
      subst (λ x. IsLeftOf x (get_or (take r edges) j d)) (sym first)
      (subst (λ x. IsLeftOf (get_or edges i d) x) (sym second)
      (beside i j d l (omega (arith, b, g)) low start));
  above = λ d. all_dropped (λ e. (get_or edges 0 d).y1 ≤ℤ e.y0) edges r (λ k e l b.
      let up = gt_from_test (get_or edges k no_edge).y0 (get_or edges 0 no_edge).y0
      (p.1 k no_edge l b) in
      subst (λ (x : Edge). x.y1 ≤ℤ (get_or edges k e).y0)
      (at_default edges 0 no_edge d (omega (arith, some)))
      (subst (λ (x : Edge). (get_or edges 0 no_edge).y1 ≤ℤ x.y0) (at_default edges k no_edge e b)
      (higher edges k no_edge h b up)));
}
  where
    bottom : (i : ℕ) → i < length edges → (get_or edges 0 no_edge).y0 ≤ℤ (get_or edges i no_edge).y0
    bottom i b = elim (cases_lt 0 i) [
      | inl less ↦ no_lower edges 0 i no_edge h less b
      | inr more ↦ subst (λ (m : ℕ). (get_or edges 0 no_edge).y0 ≤ℤ (get_or edges m no_edge).y0)
          (let e : 0 ≡ i = omega arith in e) (omega (arith, ints))
    ]

    beside : (i j : ℕ) (d : Edge) → i < j → j < length edges
        → (get_or edges j no_edge).y0 ≤ℤ (get_or edges 0 no_edge).y0
        → (get_or edges 0 no_edge).y0 ≤ℤ (get_or edges i no_edge).y0
        → IsLeftOf (get_or edges i d) (get_or edges j d)
    beside i j d l b low start =
        let at_i = ap (λ (x : Edge). x.y0) (at_default edges i d no_edge (omega (arith, l, b))) in
        let at_j = ap (λ (x : Edge). x.y0) (at_default edges j d no_edge b) in
        elim (h.ordered i j d l b) [
          | inl below ↦ absurd (let f = h.filled i d (omega (arith, l, b)) in
              omega (arith, ints, f, below, low, start, at_i, at_j))
          | inr s ↦ s.2
        ]

-- edges tested one by one: all begin no higher than the first, and the next one does
pub IsBand-from_steps : (edges : List Edge) (n : ℕ) → AreEdges edges → 1 ≤ length edges
    → n < length edges → All (λ e. e.y0 ≤ℤ (get_or edges 0 no_edge).y0) (take n edges)
    → (get_or edges 0 no_edge).y0 <ℤ (get_or edges n no_edge).y0 → IsBand edges n
IsBand-from_steps edges n h some within low up =
    IsBand-from_search edges n h some (omega (arith, within)) (
      λ k d l b. test_from_le (get_or edges k d).y0 (get_or edges 0 no_edge).y0
          (subst (λ (e : Edge). e.y0 ≤ℤ (get_or edges 0 no_edge).y0) (get_or-take n edges k d b)
          (low k d (omega (arith, b, within, length-take n edges)))),
      λ k d l b. test_from_gt (get_or edges k d).y0 (get_or edges 0 no_edge).y0 (higher_on k d l b),
    )
  where
    higher_on : (k : ℕ) (d : Edge) → n ≤ k → k < length edges
        → (get_or edges 0 no_edge).y0 <ℤ (get_or edges k d).y0
    higher_on k d l b =
        let at_n = ap (λ (x : Edge). x.y0) (at_default edges n no_edge d within) in
        elim (cases_lt n k) [
          | inl less ↦ omega (arith, ints, up, at_n, no_lower edges n k d h less b)
          | inr more ↦
              let e : n ≡ k = omega (arith, l, more) in
              let same = ap (λ (m : ℕ). (get_or edges m d).y0) e in
              omega (arith, ints, up, at_n, same)
        ]

-- the first edge begins no higher than itself
pub only_first : (edges : List Edge)
    → All (λ e. e.y0 ≤ℤ (get_or edges 0 no_edge).y0) (take 1 edges)
only_first [] k d l = absurd (omega (arith, l))
only_first (x ∷ xs) k d l =
    let z : k ≡ 0 = omega (arith, l) in
    let is = ap (λ (m : ℕ). (get_or (x ∷ []) m d).y0) z in
    omega (arith, ints, is)

-- what is left of an edge is left of those after it
pub left_of_later : (froms tos : List Edge) (i n : ℕ) → AllPairs IsLeftOf froms → i < length froms
    → All (λ to. to.x <ℤ (get_or froms i no_edge).x) (take n tos) → (k : ℕ) (d : Edge) → i + 1 ≤ k
    → k < length froms → All (λ to. to.x <ℤ (get_or froms k d).x) (take n tos)
left_of_later froms tos i n h within left k d l b =
    let near = h i k d (omega (arith, l)) b in
    let same = ap (λ (x : Edge). x.x) (at_default froms i no_edge d within) in
    All-weaker (λ (to : Edge). to.x <ℤ (get_or froms i no_edge).x)
    (λ (to : Edge). to.x <ℤ (get_or froms k d).x) (λ to p. omega (arith, ints, p, near, same))
    (take n tos) left
