-- Names in a library and places in its graph.
use Rattle.std.proofs.Common.{◌≡◌, ℕ, zero, suc, ◌+◌, ◌<◌, ◌≤◌, Bool, true, false, cond, ◌||◌, ◌⊎◌, inl, inr, List, [], ◌∷◌, length, get_or, take, map, Option, Some, None, refl, sym, ap, subst, ◌∙◌, arith, Contains, length-take, get_or-take}
use Rattle.std.specs.Prelude.{slice_get, nat_eq}
use Rattle.std.specs.Cmp.Lexicographic.{pointwise, bytes_decides}
use Rattle.std.proofs.lemmas.Option.{slice_get_within, slice_get_cases}
use Rattle.std.proofs.lemmas.List.{length-map}
use Rattle.std.proofs.lemmas.List.Elements.{Contains-append_right, Contains-append_cases, Contains-get_or}
use Rattle.mpw_geom.specs.Names.{name_eq, contains_name}
use Rattle.mpw_structures.specs.declared.structures.Structure.{Structure}
use Rattle.mpw_structures.specs.Places.{place_from, place_of}
use Rattle.mpw_hier.specs.Structures.{referenced_names, refers, IsReachable, itself, chain, IsCyclic}
use Rattle.mpw_hier.specs.Outside.{places_of, known_before, names_outside, unknown_before, places_from, graph_of}
use Rattle.mpw_hier.specs.Graph.{targets, Leads, here, on, IsFromBelow}
use Rattle.mpw_hier.specs.Internal.Graph.{IsGraph, HasCycle}
use Rattle.mpw_hier.proofs.Leading.{place_among}

-- ---- names

pub same_name : (xs ys : List ℕ) → name_eq xs ys ≡ true → xs ≡ ys
same_name xs ys e = (bytes_decides xs ys).0 e

pub name_itself : (xs : List ℕ) → name_eq xs xs ≡ true
name_itself xs = (bytes_decides xs xs).1 refl

pub or_left : (a b : Bool) → a ≡ true → (a || b) ≡ true
or_left true b e = refl
or_left false b e = absurd cc

pub or_right : (a b : Bool) → b ≡ true → (a || b) ≡ true
or_right true b e = refl
or_right false b e = e

pub or_cases : (a b : Bool) → (a || b) ≡ true → (a ≡ true) ⊎ (b ≡ true)
or_cases true b e = inl refl
or_cases false b e = inr e

pub alone : (j i : ℕ) → Contains (j ∷ []) i → j ≡ i
alone j i h = let z : h.0 ≡ 0 = omega (arith, h.1) in sym (ap (λ k. get_or (j ∷ []) k i) z) ∙ h.2

-- ---- the place of a name

found_from : (k : ℕ) (ss : List Structure) (name : List ℕ) (i : ℕ) → place_from k ss name ≡ Some i
    → (j : ℕ) × (s : Structure) × (i ≡ k + j) × (slice_get ss j ≡ Some s) × (s.name ≡ name)
found_from k [] name i e = absurd cc
found_from k (s ∷ ss) name i e =
    go (λ h. found_from (k + 1) ss name i h) (pointwise nat_eq s.name name) refl e
  where
    go : (place_from (k + 1) ss name ≡ Some i → (j : ℕ) × (t : Structure) × (i ≡ (k + 1) + j)
        × (slice_get ss j ≡ Some t) × (t.name ≡ name)) → (b : Bool)
        → pointwise nat_eq s.name name ≡ b → cond b (Some k) (place_from (k + 1) ss name) ≡ Some i
        → (j : ℕ) × (t : Structure) × (i ≡ k + j) × (slice_get (s ∷ ss) j ≡ Some t)
        × (t.name ≡ name)
    go later true q e = let same : k ≡ i = cc in
        (0, s, omega (arith, same), refl, same_name s.name name q)
    go later false q e = let r = later e in (suc r.0, r.1, omega (arith, r.2), r.3, r.4)

-- the structure at the place of a name has that name
pub found_at : (ss : List Structure) (name : List ℕ) (i : ℕ) → place_of ss name ≡ Some i
    → (s : Structure) × (slice_get ss i ≡ Some s) × (s.name ≡ name)
found_at ss name i e =
    let r = found_from 0 ss name i e in
    let same : r.0 ≡ i = omega (arith, r.2) in
    (r.1, subst (λ j. slice_get ss j ≡ Some r.1) same r.3, r.4)

pub place_within : (ss : List Structure) (name : List ℕ) (i : ℕ) → place_of ss name ≡ Some i
    → i < length ss
place_within ss name i e = let r = found_at ss name i e in slice_get_within ss i r.0 r.1

-- ---- the places and names of references

pub among_places : (ss : List Structure) (names : List (List ℕ)) (name : List ℕ) (i : ℕ)
    → contains_name names name ≡ true → place_of ss name ≡ Some i → Contains (places_of ss names) i
unfolding places_of
among_places ss [] name i c e = absurd cc
among_places ss (m ∷ ms) name i c e = elim (or_cases (name_eq name m) (contains_name ms name) c) [
  | inl q ↦
      let at : place_of ss m ≡ Some i = ap (place_of ss) (sym (same_name name m q)) ∙ e in
      rw at (0, omega arith, refl)
  | inr q ↦ behind (place_of ss m) (among_places ss ms name i q e)
]
  where
    behind : (o : Option ℕ) → Contains (places_of ss ms) i
        → Contains (known_before o (places_of ss ms)) i
    behind None h = h
    behind (Some j) h = Contains-append_right (j ∷ []) (places_of ss ms) i h

pub name_of_place : (ss : List Structure) (names : List (List ℕ)) (i : ℕ)
    → Contains (places_of ss names) i → (name : List ℕ) × (contains_name names name ≡ true)
    × (place_of ss name ≡ Some i)
unfolding places_of
name_of_place ss [] i c = absurd (omega (arith, c.1))
name_of_place ss (m ∷ ms) i c = go (λ h. name_of_place ss ms i h) (place_of ss m) refl c
  where
    later : (name : List ℕ) × (contains_name ms name ≡ true) × (place_of ss name ≡ Some i)
        → (name : List ℕ) × (contains_name (m ∷ ms) name ≡ true) × (place_of ss name ≡ Some i)
    later r = (r.0, or_right (name_eq r.0 m) (contains_name ms r.0) r.1, r.2)

    go : (Contains (places_of ss ms) i → (name : List ℕ) × (contains_name ms name ≡ true)
        × (place_of ss name ≡ Some i)) → (o : Option ℕ) → place_of ss m ≡ o
        → Contains (known_before o (places_of ss ms)) i
        → (name : List ℕ) × (contains_name (m ∷ ms) name ≡ true) × (place_of ss name ≡ Some i)
    go more None q c = later (more c)
    go more (Some j) q c = elim (Contains-append_cases (j ∷ []) (places_of ss ms) i c) [
      | inl h ↦ (
        m,
        or_left (name_eq m m) (contains_name ms m) (name_itself m),
        q
            ∙ ap (λ k. Some k) (alone j i h),
      )
      | inr h ↦ later (more h)
    ]

pub among_outside : (ss : List Structure) (names : List (List ℕ)) (name : List ℕ)
    → contains_name names name ≡ true → place_of ss name ≡ None
    → contains_name (names_outside ss names) name ≡ true
unfolding names_outside
among_outside ss [] name c e = c
among_outside ss (m ∷ ms) name c e = elim (or_cases (name_eq name m) (contains_name ms name) c) [
  | inl q ↦
      let at : place_of ss m ≡ None = ap (place_of ss) (sym (same_name name m q)) ∙ e in
      rw at (or_left (name_eq name m) (contains_name (names_outside ss ms) name) q)
  | inr q ↦ behind (place_of ss m) (among_outside ss ms name q e)
]
  where
    behind : (o : Option ℕ) → contains_name (names_outside ss ms) name ≡ true
        → contains_name (unknown_before o m (names_outside ss ms)) name ≡ true
    behind None h = or_right (name_eq name m) (contains_name (names_outside ss ms) name) h
    behind (Some j) h = h

pub outside_is : (ss : List Structure) (names : List (List ℕ)) (name : List ℕ)
    → contains_name (names_outside ss names) name ≡ true → (contains_name names name ≡ true)
    × (place_of ss name ≡ None)
unfolding names_outside
outside_is ss [] name c = absurd cc
outside_is ss (m ∷ ms) name c = go (λ h. outside_is ss ms name h) (place_of ss m) refl c
  where
    later : (contains_name ms name ≡ true) × (place_of ss name ≡ None)
        → (contains_name (m ∷ ms) name ≡ true) × (place_of ss name ≡ None)
    later r = (or_right (name_eq name m) (contains_name ms name) r.0, r.1)

    go : (contains_name (names_outside ss ms) name ≡ true → (contains_name ms name ≡ true)
        × (place_of ss name ≡ None)) → (o : Option ℕ) → place_of ss m ≡ o
        → contains_name (unknown_before o m (names_outside ss ms)) name ≡ true
        → (contains_name (m ∷ ms) name ≡ true) × (place_of ss name ≡ None)
    go more None q c = elim (or_cases (name_eq name m) (contains_name (names_outside ss ms) name) c) [
      | inl h ↦ (
        or_left (name_eq name m) (contains_name ms name) h,
        ap (place_of ss) (same_name name m h) ∙ q,
      )
      | inr h ↦ later (more h)
    ]
    go more (Some j) q c = later (more c)

-- ---- the graph

at_map : {X Y : Type 0} (f : X → Y) (xs : List X) (i : ℕ) (x : X) (d : Y) → slice_get xs i ≡ Some x
    → get_or (map f xs) i d ≡ f x
at_map f [] i x d e = absurd cc
at_map f (y ∷ ys) zero x d e = let same : y ≡ x = cc in ap f same
at_map f (y ∷ ys) (suc i) x d e = at_map f ys i x d e

pub targets_at : (ss : List Structure) (i : ℕ) (s : Structure) → slice_get ss i ≡ Some s
    → targets (graph_of ss) i ≡ places_of ss (referenced_names s.elements)
unfolding graph_of
targets_at ss i s e = at_map (places_from ss) ss i s [] e

-- the structure of a name refers to what its elements name
pub refers_to : (ss : List Structure) (from to : List ℕ) (i : ℕ) (s : Structure)
    → place_of ss from ≡ Some i → slice_get ss i ≡ Some s
    → refers ss from to ≡ contains_name (referenced_names s.elements) to
refers_to ss from to i s e h = rw (e, h) refl

pub graph_length : (ss : List Structure) → length (graph_of ss) ≡ length ss
unfolding graph_of
graph_length ss = length-map ss (places_from ss)

pub graph_within : (ss : List Structure) → IsGraph (graph_of ss)
graph_within ss place index hp hi =
    let n = graph_length ss in
    elim (slice_get_cases ss place).1 [
      | inl r ↦
          let is = targets_at ss place r.0 r.2 in
          let c = Contains-get_or (targets (graph_of ss) place) index 0 hi in
          let q = name_of_place ss (referenced_names r.0.elements)
          (get_or (targets (graph_of ss) place) index 0)
          (subst (λ ps. Contains ps (get_or (targets (graph_of ss) place) index 0)) is c) in
          omega (arith, n, place_within ss q.0 (get_or (targets (graph_of ss) place) index 0) q.2)
      | inr r ↦ absurd (omega (arith, n, hp, r.0))
    ]

-- the places to which a named structure leads are those of the names to which it refers
pub edge_named : (ss : List Structure) (from : List ℕ) (i j : ℕ) → place_of ss from ≡ Some i
    → Contains (targets (graph_of ss) i) j → (to : List ℕ) × (refers ss from to ≡ true)
    × (place_of ss to ≡ Some j)
edge_named ss from i j e edge =
    let f = found_at ss from i e in
    let q = name_of_place ss (referenced_names f.0.elements) j
    (subst (λ ps. Contains ps j) (targets_at ss i f.0 f.1) edge) in
    (q.0, refers_to ss from q.0 i f.0 e f.1 ∙ q.1, q.2)

pub named_edge : (ss : List Structure) (from to : List ℕ) (i j : ℕ) → place_of ss from ≡ Some i
    → place_of ss to ≡ Some j → refers ss from to ≡ true → Contains (targets (graph_of ss) i) j
named_edge ss from to i j e h r =
    let f = found_at ss from i e in
    subst (λ ps. Contains ps j) (sym (targets_at ss i f.0 f.1))
    (among_places ss (referenced_names f.0.elements) to j
    (sym (refers_to ss from to i f.0 e f.1) ∙ r) h)

pub named_way : (ss : List Structure) {i j : ℕ} → Leads (graph_of ss) i j → (from : List ℕ)
    → place_of ss from ≡ Some i → (to : List ℕ) × (place_of ss to ≡ Some j) × IsReachable ss from to
named_way ss here from e = (from, e, itself)
named_way ss (on {from = i} {next = k} edge way) from e =
    let q = edge_named ss from i k e edge in
    let r = named_way ss way q.0 q.2 in
    (r.0, r.1, chain q.1 r.2)

one_name : (ss : List Structure) (a b : List ℕ) (i : ℕ) → place_of ss a ≡ Some i
    → place_of ss b ≡ Some i → a ≡ b
one_name ss a b i e h =
    let f = found_at ss a i e in
    let g = found_at ss b i h in
    let both : Some f.0 ≡ Some g.0 = sym f.1 ∙ g.1 in
    let same : f.0 ≡ g.0 = cc in
    sym f.2 ∙ ap (λ (s : Structure). s.name) same ∙ g.2

pub cycle_named : (ss : List Structure) (top : List ℕ) (place : ℕ) → place_of ss top ≡ Some place
    → HasCycle (graph_of ss) place → IsCyclic ss top
cycle_named ss top place e h =
    let down = named_way ss h.found top e in
    let q = edge_named ss down.0 h.place h.next down.1 h.edge in
    let up = named_way ss h.back q.0 q.2 in
    record {
      structure = down.0;
      next = q.0;
      below = down.2;
      reference = q.1;
      back = subst (IsReachable ss q.0) (one_name ss up.0 down.0 h.place up.1 down.1) up.2;
    }

-- ---- what lies below the top

-- a name outside the library leads only to itself
pub outside_end : (ss : List Structure) {from to : List ℕ} → IsReachable ss from to
    → place_of ss from ≡ None → from ≡ to
outside_end ss itself e = refl
outside_end ss (chain {from = from} {middle = middle} r way) e =
    let none : refers ss from middle ≡ false = rw e refl in
    absurd (let q = sym none ∙ r in cc)

-- if a property passes from a place to each place to which it leads, it holds for all that is reached
pub kept_below : (ss : List Structure) (P : ℕ → Type 0)
    → ((i j : ℕ) → P i → Contains (targets (graph_of ss) i) j → P j) → {from to : List ℕ}
    → IsReachable ss from to → (i j : ℕ) → place_of ss from ≡ Some i → place_of ss to ≡ Some j → P i
    → P j
kept_below ss P closed itself i j e h p =
    let both : Some i ≡ Some j = sym e ∙ h in let same : i ≡ j = cc in subst P same p
kept_below ss P closed (chain {from = from} {middle = middle} r way) i j e h p =
    go (λ k q c. kept_below ss P closed way k j q h c) (place_of ss middle) refl
  where
    go : ((k : ℕ) → place_of ss middle ≡ Some k → P k → P j) → (o : Option ℕ)
        → place_of ss middle ≡ o → P j
    go more (Some k) q = more k q (closed i k p (named_edge ss from middle i k e q r))
    go more None q = absurd (let z = sym (ap (place_of ss) (outside_end ss way q) ∙ h) ∙ q in cc)

in_front : (xs : List ℕ) (k x : ℕ) → Contains (take k xs) x → Contains xs x
in_front xs k x c =
    let n = length-take k xs in
    let lt : c.0 < k = omega (arith, c.1, n) in
    (c.0, omega (arith, c.1, n), sym (get_or-take k xs c.0 x lt) ∙ c.2)

further : (xs : List ℕ) (m k x : ℕ) → m ≤ k → Contains (take m xs) x → Contains (take k xs) x
further xs m k x le c =
    let n = length-take m xs in
    let p = length-take k xs in
    let lt : c.0 < m = omega (arith, c.1, n) in
    let lt2 : c.0 < k = omega (arith, lt, le) in (
      c.0,
      omega (arith, c.1, n, p, le),
      get_or-take k xs c.0 x lt2 ∙ sym (get_or-take m xs c.0 x lt)
          ∙ c.2,
    )

module _ (g : List (List ℕ)) (top : ℕ) (order : List ℕ) (o : IsFromBelow g top order) where
  pub order_closed : (i j : ℕ) → Contains order i → Contains (targets g i) j → Contains order j
  order_closed i j c edge =
      let at = place_among order i c in
      in_front order at.0 j (o.below at.0 j at.1
      (subst (λ p. Contains (targets g p) j) (sym at.2) edge))

  pub front_closed : (k : ℕ) → k ≤ length order → (i j : ℕ) → Contains (take k order) i
      → Contains (targets g i) j → Contains (take k order) j
  front_closed k le i j c edge =
      let n = length-take k order in
      let at = place_among (take k order) i c in
      let lt : at.0 < k = omega (arith, at.1, n) in
      let is : get_or order at.0 0 ≡ i = sym (get_or-take k order at.0 0 lt) ∙ at.2 in
      further order at.0 k j (omega (arith, lt))
      (o.below at.0 j (omega (arith, lt, le))
      (subst (λ p. Contains (targets g p) j) (sym is) edge))

  -- no place of the order is one of those before it that it needs
  pub not_before : (i j : ℕ) → Contains (targets g i) j
      → ((k : ℕ) → k ≤ length order → Contains (take k order) j → Contains (take k order) i)
      → (most k : ℕ) → k < most → k < length order → get_or order k 0 ≡ i → ⊥
  not_before i j edge back zero k lt within is = absurd (omega (arith, lt))
  not_before i j edge back (suc most) k lt within is =
      let before = back k (omega (arith, within))
      (o.below k j within (subst (λ p. Contains (targets g p) j) (sym is) edge)) in
      let at = place_among (take k order) i before in
      let n = length-take k order in
      let less : at.0 < k = omega (arith, at.1, n) in
      not_before i j edge back most at.0 (omega (arith, less, lt)) (omega (arith, less, within))
      (sym (get_or-take k order at.0 0 less) ∙ at.2)

-- ---- the top of a library

module _ (ss : List Structure) (top : List ℕ) (place : ℕ) (e : place_of ss top ≡ Some place)
    (order : List ℕ) (o : IsFromBelow (graph_of ss) place order) where
  local : (name : List ℕ) (i : ℕ) → IsReachable ss top name → place_of ss name ≡ Some i
      → Contains order i
  local name i way h = kept_below ss (Contains order) (order_closed (graph_of ss) place order o) way
      place i e h o.whole

  pub acyclic : IsCyclic ss top → ⊥
  acyclic c = go (place_of ss c.structure) refl (place_of ss c.next) refl
    where
      go : (a : Option ℕ) → place_of ss c.structure ≡ a → (b : Option ℕ) → place_of ss c.next ≡ b
          → ⊥
      go None p b q = let none : refers ss c.structure c.next ≡ false = rw p refl in
          absurd (let z = sym none ∙ c.reference in cc)
      go (Some i) p None q = absurd (let z = sym (ap (place_of ss) (outside_end ss c.back q) ∙ p)
          ∙ q in cc)
      go (Some i) p (Some j) q =
          let at = place_among order i (local c.structure i c.below p) in
          let edge = named_edge ss c.structure c.next i j p q c.reference in
          not_before (graph_of ss) place order o i j edge
          (λ k le before. kept_below ss (Contains (take k order))
          (front_closed (graph_of ss) place order o k le) c.back j i q p before) (suc at.0) at.0
          (omega arith) at.1 at.2
