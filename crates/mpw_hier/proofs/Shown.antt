-- The names outside a library that its top reaches.
use Rattle.std.proofs.Common.{◌≡◌, ℕ, true, inl, inr, List, [], ◌∷◌, ◌++◌, ◌+◌, ◌<◌, length, get_or, take, Option, Some, None, refl, sym, ap, subst, ◌∙◌, arith, Contains}
use Rattle.std.specs.Prelude.{slice_get}
use Rattle.std.specs.List.{flat_map}
use Rattle.std.proofs.lemmas.Option.{slice_get_read}
use Rattle.std.proofs.lemmas.List.{take_more, flat_map_more}
use Rattle.std.proofs.lemmas.List.Folds.{list_any-append}
use Rattle.std.proofs.lemmas.List.Elements.{Contains-append_right, Contains-append_cases, All-contains}
use Rattle.mpw_geom.specs.Names.{name_eq, contains_name}
use Rattle.mpw_structures.specs.declared.structures.Structure.{Structure}
use Rattle.mpw_structures.specs.Places.{place_of}
use Rattle.mpw_hier.specs.Structures.{structure_of, referenced_names, target_names, refers, IsReachable, itself, chain, IsOutside}
use Rattle.mpw_hier.specs.Outside.{names_outside, graph_of}
use Rattle.mpw_hier.specs.Internal.Outside.{outside_from, outside_from_all}
use Rattle.mpw_hier.specs.Graph.{Leads, IsFromBelow}
use Rattle.mpw_hier.proofs.Linking.{or_left, or_right, or_cases, alone, found_at, among_outside, outside_is, named_way, named_edge, outside_end, order_closed}

-- ---- lists of lists

any_flat : (f : ℕ → List (List ℕ)) (xs : List ℕ) (q : List ℕ)
    → contains_name (flat_map f xs) q ≡ true → (i : ℕ) × (Contains xs i)
    × (contains_name (f i) q ≡ true)
any_flat f [] q c = absurd cc
any_flat f (x ∷ xs) q c = elim (or_cases (contains_name (f x) q) (contains_name (flat_map f xs) q)
    (sym (list_any-append (name_eq q) (f x) (flat_map f xs)) ∙ c)) [
      | inl h ↦ (x, (0, omega arith, refl), h)
      | inr h ↦ let r = any_flat f xs q h in (r.0, Contains-append_right (x ∷ []) xs r.0 r.1, r.2)
    ]

flat_any : (f : ℕ → List (List ℕ)) (xs : List ℕ) (q : List ℕ) (i : ℕ) → Contains xs i
    → contains_name (f i) q ≡ true → contains_name (flat_map f xs) q ≡ true
flat_any f [] q i c h = absurd (omega (arith, c.1))
flat_any f (x ∷ xs) q i c h =
    list_any-append (name_eq q) (f x) (flat_map f xs) ∙ elim (Contains-append_cases (x ∷ []) xs i c) [
      | inl d ↦ or_left (contains_name (f x) q) (contains_name (flat_map f xs) q)
          (ap (λ k. contains_name (f k) q) (alone x i d) ∙ h)
      | inr d ↦ or_right (contains_name (f x) q) (contains_name (flat_map f xs) q)
          (flat_any f xs q i d h)
    ]

-- one place more
pub outside_next : (ss : List Structure) (places : List ℕ) (i : ℕ) (s : Structure)
    → i < length places → get_or places i 0 < length ss → s ≡ get_or ss (get_or places i 0) s
    → outside_from_all ss (take (i + 1) places) ≡ outside_from_all ss (take i places)
    ++ names_outside ss (referenced_names s.elements)
unfolding outside_from_all
outside_next ss places i s h within is =
    let place = get_or places i 0 in
    let at : slice_get ss place ≡ Some s = slice_get_read ss (length ss) place s refl within is in
    ap (flat_map (outside_from ss)) (take_more places i 0 h)
    ∙ sym (flat_map_more (outside_from ss) [] (take i places) place)
    ∙ ap (λ o. flat_map (outside_from ss) (take i places) ++ names_outside ss (target_names o))
    at

-- ---- what is reached outside

module _ (ss : List Structure) (top : List ℕ) (place : ℕ) (e : place_of ss top ≡ Some place)
    (order : List ℕ) (o : IsFromBelow (graph_of ss) place order) where
  from_place : (from : List ℕ) (i : ℕ) → place_of ss from ≡ Some i → (name : List ℕ)
      → contains_name (outside_from ss i) name ≡ contains_name
      (names_outside ss (target_names (structure_of ss from))) name
  from_place from i h name = rw h refl

  reached : {from to : List ℕ} → IsReachable ss from to → (i : ℕ) → place_of ss from ≡ Some i
      → Contains order i → place_of ss to ≡ None → contains_name (outside_from_all ss order) to
      ≡ true
  unfolding outside_from_all
  reached itself i h c none = absurd (let q = sym h ∙ none in cc)
  reached (chain {from = from} {middle = middle} {to = to} r way) i h c none =
      go (λ j q d. reached way j q d none) (place_of ss middle) refl
    where
      go : ((j : ℕ) → place_of ss middle ≡ Some j → Contains order j
          → contains_name (flat_map (outside_from ss) order) to ≡ true) → (a : Option ℕ)
          → place_of ss middle ≡ a → contains_name (flat_map (outside_from ss) order) to ≡ true
      go more (Some j) q = more j q (order_closed (graph_of ss) place order o i j c
          (named_edge ss from middle i j h q r))
      go more None q =
          let same = outside_end ss way q in
          flat_any (outside_from ss) order to i c
          (from_place from i h to ∙ among_outside ss (target_names (structure_of ss from)) to
          (subst (λ n. refers ss from n ≡ true) same r) none)

  missing_place : (name : List ℕ) → structure_of ss name ≡ None → place_of ss name ≡ None
  missing_place name h = go (place_of ss name) refl
    where
      go : (a : Option ℕ) → place_of ss name ≡ a → a ≡ None
      go None q = refl
      go (Some i) q = let f = found_at ss name i q in let at : structure_of ss name ≡ Some f.0 =
          rw q f.1 in absurd (let z = sym h ∙ at in cc)

  pub shown : (name : List ℕ) → IsOutside ss top name
      → contains_name (outside_from_all ss order) name ≡ true
  shown name h = reached h.below place e o.whole (missing_place name h.missing)

  pub only_shown : (name : List ℕ) → contains_name (outside_from_all ss order) name ≡ true
      → IsOutside ss top name
  unfolding outside_from_all
  only_shown name c =
      let r = any_flat (outside_from ss) order name c in
      let down =
      named_way ss (All-contains (Leads (graph_of ss) place) order r.0 o.found r.1) top e in
      let f = outside_is ss (target_names (structure_of ss down.0)) name
      (sym (from_place down.0 r.0 down.1 name) ∙ r.2) in
      record { below = reach_more down.2 f.0; missing = rw f.1 refl }
    where
      reach_more : {a b c : List ℕ} → IsReachable ss a b → refers ss b c ≡ true → IsReachable ss a c
      reach_more itself r = chain r itself
      reach_more (chain s way) r = chain s (reach_more way r)
