-- The masks of an operation after a grant is added or removed.
use Rattle.std.proofs.Common.{[], ◌≡◌, ℕ, zero, suc, ◌<◌, Bool, true, false, cond, not, ◌||◌, ◌&&◌, inl, inr, List, ◌∷◌, ◌++◌, filter, length, get_or, eqb, eq-eqb, Some, refl, sym, ap, ◌∙◌, true≢false, arith}
use Rattle.std.specs.Prelude.{nat_lt, position}
use Rattle.std.specs.List.{list_any}
use Rattle.std.specs.Cmp.{both_ways}
use Rattle.std.proofs.lemmas.Bool.{cases_eq, lt-ltb, ltb-true, ne_eqb}
use Rattle.std.proofs.lemmas.List.Quantifiers.{position-Some}
use Rattle.mpw_geom.specs.Names.{name_eq, contains_name}
use Rattle.mpw_roles.specs.declared.mask.Mask.{Mask}
use Rattle.mpw_roles.specs.Hierarchy.{Name}
use Rattle.mpw_roles.specs.Mask.{has}
use Rattle.mpw_roles.specs.Order.{are_distinct}
use Rattle.mpw_roles.proofs.CallerLemmas.{same_name, name_eq-refl, or_right, or_cases}
use Rattle.mpw_roles.proofs.BoolLemmas.{and_true, and_false, and_or, or_assoc, or_false}
use Rattle.mpw_permissions.specs.Grant.{operation_index, operation_eq, object_eq, grant_eq}
use Rattle.mpw_permissions.specs.Internal.Holders.{Buckets, is_grant_of, holds, IsHeld}
use Rattle.mpw_permissions.specs.declared.permission.Grant.{Grant}
use Rattle.mpw_permissions.specs.declared.permission.Object.{Object}
use Rattle.mpw_permissions.proofs.ObjectLemmas.{same_object, other_way}
use Rattle.mpw_roles.proofs.BoolLemmas.{refuted, and_both as both, and_parts as parts}

any-last : {X : Type 0} (f : X → Bool) (xs : List X) (y : X)
    → list_any f (xs ++ y ∷ []) ≡ (list_any f xs || f y)
any-last f [] y = or_false (f y)
any-last f (x ∷ xs) y =
    ap (λ b. f x || b) (any-last f xs y) ∙ or_assoc (f x) (list_any f xs) (f y)

-- the mask of one object is set, with one more index
pub put-more : (old new : Buckets) (mask : Mask) (object : Object) (place : ℕ)
    → ((q : ℕ) → has mask q ≡ (holds old object q || eqb q place))
    → ((other : Object) (q : ℕ) → holds new other q ≡ cond (object_eq object other) (has mask q)
    (holds old other q))
    → (other : Object) (q : ℕ) → holds new other q
    ≡ (holds old other q || (object_eq other object && eqb q place))
put-more old new mask object place is put other q = put other q
    ∙ elim (object_eq object other) as (λ b. object_eq object other ≡ b
    → cond b (has mask q) (holds old other q)
    ≡ (holds old other q || (object_eq other object && eqb q place))) [
      | true ↦ λ here.
          is q
          ∙ ap (λ o. holds old o q || eqb q place) (same_object object other here)
          ∙ ap (λ b. holds old other q || (b && eqb q place))
          (sym (sym (other_way object other) ∙ here))
      | false ↦ λ apart. sym (ap (λ b. holds old other q || (b && eqb q place))
          (sym (other_way object other) ∙ apart) ∙ or_false (holds old other q))
    ] refl

-- and with one fewer
pub put-less : (old new : Buckets) (mask : Mask) (object : Object) (place : ℕ)
    → ((q : ℕ) → has mask q ≡ (holds old object q && not (eqb q place)))
    → ((other : Object) (q : ℕ) → holds new other q ≡ cond (object_eq object other) (has mask q)
    (holds old other q))
    → (other : Object) (q : ℕ) → holds new other q
    ≡ (holds old other q && not (object_eq other object && eqb q place))
put-less old new mask object place is put other q = put other q
    ∙ elim (object_eq object other) as (λ b. object_eq object other ≡ b
    → cond b (has mask q) (holds old other q)
    ≡ (holds old other q && not (object_eq other object && eqb q place))) [
      | true ↦ λ here.
          is q
          ∙ ap (λ o. holds old o q && not (eqb q place)) (same_object object other here)
          ∙ ap (λ b. holds old other q && not (b && eqb q place))
          (sym (sym (other_way object other) ∙ here))
      | false ↦ λ apart. sym (ap (λ b. holds old other q && not (b && eqb q place))
          (sym (other_way object other) ∙ apart) ∙ and_true (holds old other q))
    ] refl

-- one more grant
held-more : (roles : List Name) (done : List Grant) (g : Grant) (operation : ℕ) (old new : Buckets)
    → ((object : Object) (place : ℕ) → holds new object place
    ≡ (holds old object place || (nat_lt place (length roles)
    && is_grant_of operation object (get_or roles place []) g)))
    → IsHeld roles done operation old → IsHeld roles (done ++ g ∷ []) operation new
held-more roles done g operation old new step held = record {
  exact = λ object place.
      step object place
      ∙ ap (λ b. b || (nat_lt place (length roles)
      && is_grant_of operation object (get_or roles place []) g)) (held.exact object place)
      ∙ sym (and_or (nat_lt place (length roles))
      (list_any (is_grant_of operation object (get_or roles place [])) done)
      (is_grant_of operation object (get_or roles place []) g))
      ∙ ap (λ b. nat_lt place (length roles) && b)
      (sym (any-last (is_grant_of operation object (get_or roles place [])) done g));
}

-- one that isn't of the operation, or is to no role
pub held-same : (roles : List Name) (done : List Grant) (g : Grant) (operation : ℕ)
    (table : Buckets)
    → ((object : Object) (place : ℕ) → (nat_lt place (length roles)
    && is_grant_of operation object (get_or roles place []) g) ≡ false)
    → IsHeld roles done operation table → IsHeld roles (done ++ g ∷ []) operation table
held-same roles done g operation table none held =
    held-more roles done g operation table table
    (λ object place. sym (ap (λ b. holds table object place || b) (none object place)
    ∙ or_false (holds table object place))) held

pub contains-at : (names : List Name) (i : ℕ) (r : Name) → i < length names
    → name_eq r (get_or names i []) ≡ true → contains_name names r ≡ true
contains-at [] i r inside is = absurd (omega arith)
contains-at (x ∷ xs) zero r inside is = ap (λ b. b || contains_name xs r) is
contains-at (x ∷ xs) (suc i) r inside is =
    or_right (name_eq r x) (contains_name xs r) (contains-at xs i r (omega arith) is)

turned : (a b : Name) → name_eq a b ≡ true → name_eq b a ≡ true
turned a b is = ap (λ n. name_eq b n) (same_name a b is) ∙ name_eq-refl b

pub strange : (roles : List Name) (g : Grant) (operation : ℕ) → contains_name roles g.role ≡ false
    → (object : Object) (place : ℕ) → (nat_lt place (length roles)
    && is_grant_of operation object (get_or roles place []) g) ≡ false
strange roles g operation none object place = refuted _ (λ is.
    let inside = parts (nat_lt place (length roles)) _ is in
    let grant = parts (eqb operation (operation_index g.operation)) _ inside.1 in
    let at = parts (object_eq object g.object) _ grant.1 in
    true≢false (sym (contains-at roles place g.role (ltb-true place (length roles) inside.0)
    (turned (get_or roles place []) g.role at.1)) ∙ none))

-- a name that occurs once has one index
place-once : (names : List Name) → are_distinct names ≡ true → (i j : ℕ) → i < length names
    → j < length names → name_eq (get_or names i []) (get_or names j []) ≡ true → i ≡ j
place-once [] once i j a b is = absurd (omega arith)
place-once (x ∷ xs) once zero zero a b is = refl
place-once (x ∷ xs) once zero (suc j) a b is =
    absurd (true≢false (sym (parts (not (contains_name xs x)) (are_distinct xs) once).0
    ∙ ap not (contains-at xs j x (omega arith) is)))
place-once (x ∷ xs) once (suc i) zero a b is =
    absurd (true≢false (sym (parts (not (contains_name xs x)) (are_distinct xs) once).0
    ∙ ap not (contains-at xs i x (omega arith) (turned (get_or xs i []) x is))))
place-once (x ∷ xs) once (suc i) (suc j) a b is =
    ap suc (place-once xs (parts (not (contains_name xs x)) (are_distinct xs) once).1 i j
    (omega arith) (omega arith) is)

-- the index of a role that was found is that of its name
pub place-is : (names : List Name) → are_distinct names ≡ true → (r : Name) (i : ℕ)
    → Some i ≡ position (name_eq r) names → (q : ℕ)
    → eqb q i ≡ (nat_lt q (length names) && name_eq (get_or names q []) r)
place-is names once r i found q =
    let at = position-Some (name_eq r) names i [] (sym found) in
    both_ways (eqb q i) (nat_lt q (length names) && name_eq (get_or names q []) r)
    (λ is. elim (cases_eq q i) [
      | inl same ↦ both (nat_lt q (length names)) (name_eq (get_or names q []) r)
          (lt-ltb q (length names) (let inside = at.0 in omega arith))
          (ap (λ k. name_eq (get_or names k []) r) same ∙ turned r (get_or names i []) at.1)
      | inr other ↦ absurd (true≢false (sym is ∙ ne_eqb q i other))
    ])
    (λ is.
    let p = parts (nat_lt q (length names)) (name_eq (get_or names q []) r) is in
    eq-eqb q i (place-once names once q i (ltb-true q (length names) p.0) at.0
    (ap (λ n. name_eq n (get_or names i [])) (same_name (get_or names q []) r p.1) ∙ at.1)))

pub put_in : (l e o n k : Bool) → e ≡ true → k ≡ (l && n) → (o && k) ≡ (l && (e && (o && n)))
put_in true true o n k is at = ap (λ b. o && b) at
put_in false true o n k is at = ap (λ b. o && b) at ∙ and_false o
put_in l false o n k is at = absurd (true≢false (sym is))

pub held-place : (roles : List Name) → are_distinct roles ≡ true
    → (done : List Grant) (g : Grant) (operation : ℕ) (old new : Buckets) (i : ℕ)
    → operation_index g.operation ≡ operation → Some i ≡ position (name_eq g.role) roles
    → ((object : Object) (place : ℕ) → holds new object place
    ≡ (holds old object place || (object_eq object g.object && eqb place i)))
    → IsHeld roles done operation old → IsHeld roles (done ++ g ∷ []) operation new
held-place roles once done g operation old new i of found put held =
    held-more roles done g operation old new
    (λ object place. put object place ∙ ap (λ b. holds old object place || b)
    (put_in (nat_lt place (length roles)) (eqb operation (operation_index g.operation))
    (object_eq object g.object) (name_eq (get_or roles place []) g.role) (eqb place i)
    (eq-eqb operation (operation_index g.operation) (sym of))
    (place-is roles once g.role i found place)))
    held

-- grants that are equal are of the same operation and object, to the same role
same-grant : (operation : ℕ) (object : Object) (role : Name) (a b : Grant) → grant_eq a b ≡ true
    → is_grant_of operation object role a ≡ is_grant_of operation object role b
same-grant operation object role a b is =
    let f = parts (operation_eq a.operation b.operation) (object_eq a.object b.object
    && name_eq a.role b.role) is in
    let s = parts (object_eq a.object b.object) (name_eq a.role b.role) f.1 in
    let index : operation_index a.operation ≡ operation_index b.operation =
    elim (cases_eq (operation_index a.operation) (operation_index b.operation)) [
      | inl same ↦ same
      | inr other ↦ absurd (true≢false (sym f.0
          ∙ ne_eqb (operation_index a.operation) (operation_index b.operation) other))
    ] in
    λ i. eqb operation (index i) && (object_eq object (same_object a.object b.object s.0 i)
    && name_eq role (same_name a.role b.role s.1 i))

-- the index of a role
pub place_of : (names : List Name) (r : Name) → contains_name names r ≡ true
    → (i : ℕ) × (i < length names) × (get_or names i [] ≡ r)
place_of [] r there = absurd (true≢false (sym there))
place_of (x ∷ xs) r there = elim (or_cases (name_eq r x) (contains_name xs r) there) [
  | inl here ↦ (zero, omega arith, sym (same_name r x here))
  | inr later ↦ let rest = place_of xs r later in
      (suc rest.0, (let inside = rest.1 in omega arith), rest.2)
]

-- what passes for some item passes for it in any test
pub any-found : {X : Type 0} (p : X → Bool) (xs : List X) → list_any p xs ≡ true
    → (x : X) × (p x ≡ true) × ((q : X → Bool) → q x ≡ true → list_any q xs ≡ true)
any-found p [] is = absurd (true≢false (sym is))
any-found p (x ∷ xs) is = elim (or_cases (p x) (list_any p xs) is) [
  | inl here ↦ (x, here, λ q t. ap (λ b. b || list_any q xs) t)
  | inr later ↦ let found = any-found p xs later in
      (found.0, found.1, λ q t. or_right (q x) (list_any q xs) (found.2 q t))
]

-- grants of one operation and object to one role are equal
same-key : (operation : ℕ) (object : Object) (role : Name) (a b : Grant)
    → is_grant_of operation object role a ≡ true → is_grant_of operation object role b ≡ true
    → grant_eq a b ≡ true
same-key operation object role a b one other =
    let x = parts (eqb operation (operation_index a.operation)) _ one in
    let y = parts (eqb operation (operation_index b.operation)) _ other in
    let u = parts (object_eq object a.object) _ x.1 in
    let v = parts (object_eq object b.object) _ y.1 in
    both (operation_eq a.operation b.operation) _
    (eq-eqb (operation_index a.operation) (operation_index b.operation)
    (sym (same-number operation (operation_index a.operation) x.0)
    ∙ same-number operation (operation_index b.operation) y.0))
    (both (object_eq a.object b.object) _
    (ap (λ o. object_eq o b.object) (sym (same_object object a.object u.0)) ∙ v.0)
    (ap (λ n. name_eq n b.role) (sym (same_name role a.role u.1)) ∙ v.1))
  where
    same-number : (i k : ℕ) → eqb i k ≡ true → i ≡ k
    same-number i k is = elim (cases_eq i k) [
      | inl same ↦ same
      | inr apart
          ↦ absurd (true≢false (sym is ∙ ne_eqb i k apart))
    ]

-- what a filter leaves
any-kept : {X : Type 0} (p k : X → Bool) → ((x : X) → p x ≡ true → k x ≡ true) → (xs : List X)
    → list_any p (filter k xs) ≡ list_any p xs
any-kept p k keeps [] = refl
any-kept p k keeps (x ∷ xs) = elim (k x) as (λ b. k x ≡ b
    → list_any p (cond b (x ∷ filter k xs) (filter k xs)) ≡ (p x || list_any p xs)) [
      | true ↦ λ _. ap (λ b. p x || b) (any-kept p k keeps xs)
      | false ↦ λ is. any-kept p k keeps xs
          ∙ ap (λ b. b || list_any p xs) (sym
          (refuted (p x) (λ t. true≢false (sym (keeps x t) ∙ is))))
    ] refl

any-gone : {X : Type 0} (p k : X → Bool) → ((x : X) → k x ≡ true → p x ≡ false) → (xs : List X)
    → list_any p (filter k xs) ≡ false
any-gone p k gone [] = refl
any-gone p k gone (x ∷ xs) =
    elim (k x) as (λ b. k x ≡ b → list_any p (cond b (x ∷ filter k xs) (filter k xs)) ≡ false) [
      | true ↦ λ is. ap (λ b. b || list_any p (filter k xs)) (gone x is) ∙ any-gone p k gone xs
      | false ↦ λ _. any-gone p k gone xs
    ] refl

less_in : (l a f t : Bool) → (t ≡ true → f ≡ false) → (t ≡ false → f ≡ a)
    → ((l && a) && not (l && t)) ≡ (l && f)
less_in true a f true gone kept = and_false a ∙ sym (gone refl)
less_in true a f false gone kept = and_true a ∙ sym (kept refl)
less_in false a f t gone kept = refl

-- one grant fewer
pub held-less : (roles : List Name) (done : List Grant) (g : Grant) (operation : ℕ)
    (old new : Buckets)
    → ((object : Object) (place : ℕ) → holds new object place
    ≡ (holds old object place && not (nat_lt place (length roles)
    && is_grant_of operation object (get_or roles place []) g)))
    → IsHeld roles done operation old → IsHeld roles (filter (λ other. not (grant_eq g other)) done)
    operation new
held-less roles done g operation old new step held = record {
  exact = λ object place.
      let t = is_grant_of operation object (get_or roles place []) in
      let k : Grant → Bool = λ other. not (grant_eq g other) in
      step object place
      ∙ ap (λ b. b && not (nat_lt place (length roles) && t g)) (held.exact object place)
      ∙ less_in (nat_lt place (length roles)) (list_any t done) (list_any t (filter k done)) (t g)
      (λ is. any-gone t k (λ x left. refuted (t x)
      (λ also. true≢false (sym left ∙ ap not (same-key operation object (get_or roles place [])
      g x is also)))) done)
      (λ none. any-kept t k (λ x is. ap not (refuted (grant_eq g x)
      (λ same. true≢false (sym is ∙ sym (same-grant operation object (get_or roles place []) g x
      same) ∙ none)))) done);
}

-- an item that is there is the one at its index, whatever the default is
pub there : {X : Type 0} (xs : List X) (i : ℕ) (a b : X) → i < length xs
    → get_or xs i a ≡ get_or xs i b
there [] i a b inside = absurd (omega arith)
there (x ∷ xs) zero a b inside = refl
there (x ∷ xs) (suc i) a b inside = there xs i a b (omega arith)
