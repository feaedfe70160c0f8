-- The tests of what a top reaches are true exactly if the relations hold.
use Rattle.std.proofs.Common.{◌≡◌, ℕ, zero, suc, ◌+◌, Bool, true, false, cond, not, ◌&&◌, inl, inr, List, [], ◌∷◌, Option, Some, None, refl, sym, ap, subst, ◌∙◌, arith, true≢false}
use Rattle.std.specs.Prelude.{slice_get, nat_eq, ◌↔◌, filter}
use Rattle.std.specs.Cmp.Lexicographic.{pointwise}
use Rattle.std.specs.List.{list_any, flat_map}
use Rattle.std.proofs.lemmas.Bool.{and_parts}
use Rattle.std.proofs.lemmas.List.Folds.{list_any-append}
use Rattle.std.proofs.lemmas.Map.Views.{any-filter_same}
use Rattle.mpw_geom.specs.declared.plane.Box2.{Box2}
use Rattle.mpw_geom.specs.Names.{name_eq, contains_name}
use Rattle.mpw_geom.specs.Links.{linked, is_linked, Leads, same as link_same, chain as link_chain}
use Rattle.mpw_geom.proofs.Linked.{leads-sound, leads-complete, some_name, any_name}
use Rattle.mpw_geom.proofs.NamesLemmas.{in_by_name, by_name-same}
use Rattle.mpw_structures.specs.declared.structures.Structure.{Structure}
use Rattle.mpw_structures.specs.Places.{place_from, place_of}
use Rattle.mpw_hier.specs.declared.submission.Submission.{Submission}
use Rattle.mpw_hier.specs.Structures.{structure_at, structure_of, referenced_names, target_names, refers, IsReachable, itself, chain, IsCyclic, IsOutside}
use Rattle.mpw_hier.specs.Outside.{names_outside, AreExternals}
use Rattle.mpw_hier.specs.Boxes.{extent_of, is_box_near}
use Rattle.mpw_hier.specs.Values.{structure_items, flats}
use Rattle.mpw_hier.specs.Limits.{IsFar}
use Rattle.mpw_hier.specs.Reach.{links_of, reaches, leads_back, is_cyclic, external_names, is_beyond, is_far}
use Rattle.mpw_hier.proofs.Linking.{same_name, name_itself, or_left, or_right, or_cases, found_at, among_outside, outside_is, outside_end}

-- ---- lists

pub any_at : {A : Type 0} (p : A → Bool) (xs : List A) (i : ℕ) (x : A) → slice_get xs i ≡ Some x
    → p x ≡ true → list_any p xs ≡ true
any_at p [] i x is h = absurd cc
any_at p (y ∷ ys) zero x is h = let one : y ≡ x = cc in or_left (p y) (list_any p ys) (ap p one ∙ h)
any_at p (y ∷ ys) (suc i) x is h = or_right (p y) (list_any p ys) (any_at p ys i x is h)

pub some_at : {A : Type 0} (p : A → Bool) (xs : List A) → list_any p xs ≡ true
    → (i : ℕ) × (x : A) × (slice_get xs i ≡ Some x) × (p x ≡ true)
some_at p [] h = absurd cc
some_at p (y ∷ ys) h = elim (or_cases (p y) (list_any p ys) h) [
  | inl here ↦ (0, y, refl, here)
  | inr later ↦ let r = some_at p ys later in (suc r.0, r.1, r.2, r.3)
]

both : (a b : Bool) → a ≡ true → b ≡ true → (a && b) ≡ true
both a b e h = rw (e, h) refl

-- ---- links

name_alike : (a b : List ℕ) → name_eq a b ≡ name_eq b a
name_alike a b = go (name_eq a b) refl (name_eq b a) refl
  where
    go : (p : Bool) → name_eq a b ≡ p → (q : Bool) → name_eq b a ≡ q → name_eq a b ≡ name_eq b a
    go true e true h = e ∙ sym h
    go false e false h = e ∙ sym h
    go true e false h = absurd (true≢false
        (sym (ap (λ x. name_eq b x) (same_name a b e) ∙ name_itself b) ∙ h))
    go false e true h = absurd (true≢false
        (sym (ap (λ x. name_eq a x) (same_name b a h) ∙ name_itself a) ∙ e))

linked_at : (k : ℕ) (ss : List Structure) (name : List ℕ) (i : ℕ) → place_from k ss name ≡ Some i
    → (j : ℕ) × (s : Structure) × (i ≡ k + j) × (slice_get ss j ≡ Some s)
    × (linked (links_of ss) name ≡ referenced_names s.elements)
linked_at k [] name i e = absurd cc
linked_at k (s ∷ ss) name i e =
    go (λ h. linked_at (k + 1) ss name i h) (pointwise nat_eq s.name name) refl e
  where
    here : (b : Bool) → pointwise nat_eq s.name name ≡ b
        → linked (links_of (s ∷ ss)) name ≡ cond b (referenced_names s.elements)
        (linked (links_of ss) name)
    here b q = ap (λ c. cond c (referenced_names s.elements) (linked (links_of ss) name))
        (name_alike name s.name ∙ q)

    go : (place_from (k + 1) ss name ≡ Some i → (j : ℕ) × (t : Structure) × (i ≡ (k + 1) + j)
        × (slice_get ss j ≡ Some t) × (linked (links_of ss) name ≡ referenced_names t.elements))
        → (b : Bool) → pointwise nat_eq s.name name ≡ b
        → cond b (Some k) (place_from (k + 1) ss name) ≡ Some i → (j : ℕ) × (t : Structure)
        × (i ≡ k + j) × (slice_get (s ∷ ss) j ≡ Some t)
        × (linked (links_of (s ∷ ss)) name ≡ referenced_names t.elements)
    go later true q e = let same : k ≡ i = cc in (0, s, omega (arith, same), refl, here true q)
    go later false q e = let r = later e in
        (suc r.0, r.1, omega (arith, r.2), r.3, here false q ∙ r.4)

linked_none : (k : ℕ) (ss : List Structure) (name : List ℕ) → place_from k ss name ≡ None
    → linked (links_of ss) name ≡ []
linked_none k [] name e = refl
linked_none k (s ∷ ss) name e =
    go (λ h. linked_none (k + 1) ss name h) (pointwise nat_eq s.name name) refl e
  where
    go : (place_from (k + 1) ss name ≡ None → linked (links_of ss) name ≡ []) → (b : Bool)
        → pointwise nat_eq s.name name ≡ b → cond b (Some k) (place_from (k + 1) ss name) ≡ None
        → linked (links_of (s ∷ ss)) name ≡ []
    go later true q e = absurd cc
    go later false q e = ap (λ c. cond c (referenced_names s.elements) (linked (links_of ss) name))
        (name_alike name s.name ∙ q) ∙ later e

-- the links of a name are what its structure refers to
linked_is : (ss : List Structure) (name : List ℕ)
    → linked (links_of ss) name ≡ target_names (structure_of ss name)
linked_is ss name = go (place_of ss name) refl
  where
    go : (o : Option ℕ) → place_of ss name ≡ o
        → linked (links_of ss) name ≡ target_names (structure_of ss name)
    go None e = linked_none 0 ss name e ∙ sym (ap (λ o. target_names (structure_at ss o)) e)
    go (Some i) e =
        let r = linked_at 0 ss name i e in
        let same : r.0 ≡ i = omega (arith, r.2) in
        let at : structure_of ss name ≡ Some r.1 = ap (structure_at ss) e
        ∙ subst (λ j. slice_get ss j ≡ Some r.1) same r.3 in
        r.4 ∙ sym (ap target_names at)

refers_is : (ss : List Structure) (from to : List ℕ)
    → is_linked (links_of ss) from to ≡ refers ss from to
refers_is ss from to = ap (λ names. contains_name names to) (linked_is ss from)

way_down : (ss : List Structure) {from to : List ℕ} → IsReachable ss from to
    → Leads (links_of ss) from to
way_down ss itself = link_same
way_down ss (chain {from = from} {middle = middle} r way) =
    link_chain (refers_is ss from middle ∙ r) (way_down ss way)

way_up : (ss : List Structure) {from to : List ℕ} → Leads (links_of ss) from to
    → IsReachable ss from to
way_up ss link_same = itself
way_up ss (link_chain {from = from} {middle = middle} r way) =
    chain (sym (refers_is ss from middle) ∙ r) (way_up ss way)

pub reached : (ss : List Structure) (from to : List ℕ) → reaches ss from to ≡ true
    → IsReachable ss from to
reached ss from to e = way_up ss (leads-sound (links_of ss) from to e)

pub reaching : (ss : List Structure) (from to : List ℕ) → IsReachable ss from to
    → reaches ss from to ≡ true
reaching ss from to way = leads-complete (links_of ss) from to (way_down ss way)

-- a name that refers to others is a structure's
referring : (ss : List Structure) (from to : List ℕ) → refers ss from to ≡ true
    → (i : ℕ) × (s : Structure) × (place_of ss from ≡ Some i) × (slice_get ss i ≡ Some s)
    × (s.name ≡ from) × (contains_name (referenced_names s.elements) to ≡ true)
referring ss from to r = go (place_of ss from) refl
  where
    go : (o : Option ℕ) → place_of ss from ≡ o → (i : ℕ) × (s : Structure)
        × (place_of ss from ≡ Some i) × (slice_get ss i ≡ Some s) × (s.name ≡ from)
        × (contains_name (referenced_names s.elements) to ≡ true)
    go None e = absurd (true≢false (sym r
        ∙ ap (λ o. contains_name (target_names (structure_at ss o)) to) e))
    go (Some i) e =
        let f = found_at ss from i e in
        let at : structure_of ss from ≡ Some f.0 = ap (structure_at ss) e ∙ f.1 in
        (i, f.0, e, f.1, f.2, sym (ap (λ o. contains_name (target_names o) to) at) ∙ r)

-- ---- cycles

cyclic_true : (ss : List Structure) (top : List ℕ) → IsCyclic ss top → is_cyclic ss top ≡ true
unfolding is_cyclic
cyclic_true ss top c =
    let f = referring ss c.structure c.next c.reference in
    let down : reaches ss top f.1.name ≡ true = ap (reaches ss top) f.4
    ∙ reaching ss top c.structure c.below in
    let link : contains_name (linked (links_of ss) f.1.name) c.next ≡ true =
    ap (λ n. contains_name (linked (links_of ss) n) c.next) f.4
    ∙ refers_is ss c.structure c.next ∙ c.reference in
    let up : reaches ss c.next f.1.name ≡ true = ap (reaches ss c.next) f.4
    ∙ reaching ss c.next c.structure c.back in
    let back : leads_back ss f.1.name ≡ true = any_name (λ next. reaches ss next f.1.name)
    (linked (links_of ss) f.1.name) c.next link up in
    any_at (λ s. reaches ss top s.name && leads_back ss s.name) ss f.0 f.1 f.3 (both _ _ down back)

cyclic_is : (ss : List Structure) (top : List ℕ) → is_cyclic ss top ≡ true → IsCyclic ss top
unfolding is_cyclic
cyclic_is ss top e =
    let f = some_at (λ s. reaches ss top s.name && leads_back ss s.name) ss e in
    let p = and_parts (reaches ss top f.1.name) (leads_back ss f.1.name) f.3 in
    let n = some_name (λ next. reaches ss next f.1.name) (linked (links_of ss) f.1.name) p.1 in
    record {
      structure = f.1.name;
      next = n.0;
      below = reached ss top f.1.name p.0;
      reference = sym (refers_is ss f.1.name n.0) ∙ n.1;
      back = reached ss n.0 f.1.name n.2;
    }

pub cycles_found : (ss : List Structure) (top : List ℕ) → (is_cyclic ss top ≡ true)
    ↔ IsCyclic ss top
cycles_found ss top = (cyclic_is ss top, cyclic_true ss top)

-- ---- names outside

abbrev all_names : List Structure → List (List ℕ)
all_names ss = flat_map (λ (s : Structure). referenced_names s.elements) ss

in_all : (ss : List Structure) (i : ℕ) (t : Structure) (q : List ℕ) → slice_get ss i ≡ Some t
    → contains_name (referenced_names t.elements) q ≡ true → contains_name (all_names ss) q ≡ true
in_all [] i t q is c = absurd cc
in_all (s ∷ ss) zero t q is c =
    let one : s ≡ t = cc in
    list_any-append (name_eq q) (referenced_names s.elements) (all_names ss)
    ∙ or_left _ _ (ap (λ x. contains_name (referenced_names x.elements) q) one ∙ c)
in_all (s ∷ ss) (suc i) t q is c =
    list_any-append (name_eq q) (referenced_names s.elements) (all_names ss)
    ∙ or_right (contains_name (referenced_names s.elements) q) _ (in_all ss i t q is c)

missing : (ss : List Structure) (name : List ℕ) → structure_of ss name ≡ None
    → place_of ss name ≡ None
missing ss name h = go (place_of ss name) refl
  where
    go : (o : Option ℕ) → place_of ss name ≡ o → o ≡ None
    go None e = refl
    go (Some i) e = let f = found_at ss name i e in let at : structure_of ss name ≡ Some f.0 =
        ap (structure_at ss) e ∙ f.1 in absurd (let z = sym h ∙ at in cc)

-- what is reached outside is named in some structure
named_in : (ss : List Structure) {from to : List ℕ} → IsReachable ss from to → place_of ss to ≡ None
    → (i : ℕ) → place_of ss from ≡ Some i → (k : ℕ) × (t : Structure) × (slice_get ss k ≡ Some t)
    × (contains_name (referenced_names t.elements) to ≡ true)
named_in ss itself none i some = absurd (let z = sym none ∙ some in cc)
named_in ss (chain {from = from} {middle = middle} {to = to} r way) none i some =
    go (λ j e. named_in ss way none j e) (place_of ss middle) refl
  where
    go : ((j : ℕ) → place_of ss middle ≡ Some j → (k : ℕ) × (t : Structure)
        × (slice_get ss k ≡ Some t) × (contains_name (referenced_names t.elements) to ≡ true))
        → (o : Option ℕ) → place_of ss middle ≡ o → (k : ℕ) × (t : Structure)
        × (slice_get ss k ≡ Some t) × (contains_name (referenced_names t.elements) to ≡ true)
    go more (Some j) e = more j e
    go more None e =
        let f =
        referring ss from to (subst (λ n. refers ss from n ≡ true) (outside_end ss way e) r) in
        (f.0, f.1, f.3, f.5)

among_external : (ss : List Structure) (top q : List ℕ)
    → contains_name (external_names ss top) q
    ≡ (reaches ss top q && contains_name (names_outside ss (all_names ss)) q)
unfolding external_names
among_external ss top q =
    in_by_name q (filter (reaches ss top) (names_outside ss (all_names ss)))
    ∙ any-filter_same (name_eq q) (reaches ss top) (reaches ss top q)
    (λ k e. ap (reaches ss top) (sym (same_name q k e))) (names_outside ss (all_names ss))

pub outside_found : (ss : List Structure) (top : List ℕ) (place : ℕ) → place_of ss top ≡ Some place
    → (q : List ℕ) → (contains_name (external_names ss top) q ≡ true) ↔ IsOutside ss top q
outside_found ss top place found q = (is, holds)
  where
    is : contains_name (external_names ss top) q ≡ true → IsOutside ss top q
    is e =
        let p = and_parts (reaches ss top q) _ (sym (among_external ss top q) ∙ e) in
        let o = outside_is ss (all_names ss) q p.1 in
        record { below = reached ss top q p.0; missing = ap (structure_at ss) o.1 }

    holds : IsOutside ss top q → contains_name (external_names ss top) q ≡ true
    holds h =
        let none = missing ss q h.missing in
        let n = named_in ss h.below none place found in
        among_external ss top q ∙ both _ _ (reaching ss top q h.below)
        (among_outside ss (all_names ss) q (in_all ss n.0 n.1 q n.2 n.3) none)

alike : (a b : Bool) → (a ≡ true → b ≡ true) → (b ≡ true → a ≡ true) → a ≡ b
alike true b f g = sym (f refl)
alike false true f g = g refl
alike false false f g = refl

pub externals_one : (ss : List Structure) (top : List ℕ) (names : List (List ℕ))
    → AreExternals ss top names → names ≡ external_names ss top
unfolding external_names
externals_one ss top names x =
    let found = outside_found ss top x.place x.found in
    let here : (q : List ℕ) → contains_name x.by_name.given q ≡ contains_name names q =
    λ q. sym (in_by_name q x.by_name.given)
    ∙ ap (λ l. contains_name l q) (sym x.by_name.same) in
    let listed = filter (reaches ss top) (names_outside ss (all_names ss)) in
    x.by_name.same ∙ by_name-same x.by_name.given listed
    (λ q. here q ∙ alike _ _ (λ e. (found q).1 ((x.outside q).0 e))
    (λ e. (x.outside q).1 ((found q).0 e)) ∙ in_by_name q listed)

-- ---- extents

has_place : (k : ℕ) (ss : List Structure) (i : ℕ) (t : Structure) → slice_get ss i ≡ Some t
    → (j : ℕ) × (place_from k ss t.name ≡ Some j)
has_place k [] i t is = absurd cc
has_place k (s ∷ ss) zero t is = let one : s ≡ t = cc in (
  k,
  ap (λ b. cond b (Some k) (place_from (k + 1) ss t.name))
      (ap (λ (x : Structure). name_eq x.name t.name) one ∙ name_itself t.name),
)
has_place k (s ∷ ss) (suc i) t is = go (has_place (k + 1) ss i t is) (name_eq s.name t.name)
  where
    go : (j : ℕ) × (place_from (k + 1) ss t.name ≡ Some j) → (b : Bool)
        → (j : ℕ) × (cond b (Some k) (place_from (k + 1) ss t.name) ≡ Some j)
    go r true = (k, refl)
    go r false = r

far_true : (ss : List Submission) (s : Submission) → IsFar ss s → is_far ss s ≡ true
unfolding is_far
far_true ss s x =
    let f = found_at s.library x.structure x.place x.inside in
    let down : reaches s.library s.top f.0.name ≡ true = ap (reaches s.library s.top) f.2
    ∙ reaching s.library s.top x.structure x.below in
    let beyond : is_beyond (extent_of (structure_items (flats ss) s f.0.name)) ≡ true =
    ap (λ n. is_beyond (extent_of (structure_items (flats ss) s n))) f.2 ∙ ap is_beyond x.extent
    ∙ ap not x.far in
    any_at (λ (t : Structure). reaches s.library s.top t.name
    && is_beyond (extent_of (structure_items (flats ss) s t.name))) s.library x.place f.0 f.1
    (both _ _ down beyond)

beyond_is : (o : Option Box2) → is_beyond o ≡ true → (b : Box2) × (o ≡ Some b)
    × (is_box_near b ≡ false)
beyond_is None e = absurd cc
beyond_is (Some b) e = (b, refl, go (is_box_near b) e)
  where
    go : (t : Bool) → not t ≡ true → t ≡ false
    go true h = absurd cc
    go false h = refl

far_is : (ss : List Submission) (s : Submission) → is_far ss s ≡ true → IsFar ss s
unfolding is_far
far_is ss s e =
    let f = some_at (λ (t : Structure). reaches s.library s.top t.name
    && is_beyond (extent_of (structure_items (flats ss) s t.name))) s.library e in
    let p = and_parts (reaches s.library s.top f.1.name) _ f.3 in
    let b = beyond_is (extent_of (structure_items (flats ss) s f.1.name)) p.1 in
    let place = has_place 0 s.library f.0 f.1 f.2 in
    record {
      structure = f.1.name;
      place = place.0;
      inside = place.1;
      below = reached s.library s.top f.1.name p.0;
      box = b.0;
      extent = b.1;
      far = b.2;
    }

pub far_found : (ss : List Submission) (s : Submission) → (is_far ss s ≡ true) ↔ IsFar ss s
far_found ss s = (far_is ss s, far_true ss s)
