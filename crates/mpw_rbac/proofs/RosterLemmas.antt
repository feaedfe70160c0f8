-- Names with the data of each: the table of users.
use Rattle.std.proofs.Common.{◌≡◌, ℕ, zero, suc, ◌≤◌, Bool, true, false, cond, not, ◌||◌, inl, inr, List, [], ◌∷◌, ◌++◌, length, map, take, drop, Option, None, Some, is_some, refl, sym, ap, ◌∙◌, true≢false, arith}
use Rattle.std.specs.Prelude.{position, slice_get, slice_set, zip}
use Rattle.std.specs.Option.{option_map}
use Rattle.mpw_geom.specs.Names.{name_eq, contains_name, without_name}
use Rattle.mpw_geom.proofs.Linked.{same_name, or_cases}
use Rattle.mpw_roles.specs.Hierarchy.{Name}
use Rattle.mpw_roles.specs.Order.{are_distinct}
use Rattle.mpw_roles.proofs.PositionLemmas.{position-any, position-cons}
use Rattle.mpw_rbac.specs.Policy.{assigned_lists}
use Rattle.mpw_rbac.specs.Table.{has_key, value_at, without_key, insert_entry}
use Rattle.mpw_rbac.specs.declared.session.User.{User}
use Rattle.mpw_rbac.proofs.SeparationLemmas.{any-map, refuted, both, parts, not_true}

abbrev pub key_of : Name × User → Name
key_of entry = entry.0

abbrev pub value_of : Name × User → User
value_of entry = entry.1

-- the parts of the pairs
pub zip-names : (ns : List Name) (us : List User) → length ns ≡ length us
    → map key_of (zip ns us) ≡ ns
zip-names [] us long = refl
zip-names (n ∷ ns) [] long = absurd (omega arith)
zip-names (n ∷ ns) (u ∷ us) long = ap (λ (l : List Name). n ∷ l) (zip-names ns us (omega arith))

pub zip-values : (ns : List Name) (us : List User) → length ns ≡ length us
    → map value_of (zip ns us) ≡ us
zip-values [] [] long = refl
zip-values [] (u ∷ us) long = absurd (omega arith)
zip-values (n ∷ ns) [] long = absurd (omega arith)
zip-values (n ∷ ns) (u ∷ us) long = ap (λ (l : List User). u ∷ l) (zip-values ns us (omega arith))

pub zip-roles : (ns : List Name) (us : List User) → length ns ≡ length us
    → assigned_lists (zip ns us) ≡ map (λ (u : User). u.roles) us
zip-roles [] [] long = refl
zip-roles [] (u ∷ us) long = absurd (omega arith)
zip-roles (n ∷ ns) [] long = absurd (omega arith)
zip-roles (n ∷ ns) (u ∷ us) long =
    ap (λ (l : List (List Name)). u.roles ∷ l) (zip-roles ns us (omega arith))

pub zip-length : (ns : List Name) (us : List User) → length ns ≡ length us
    → length us ≡ length (zip ns us)
zip-length [] [] long = refl
zip-length [] (u ∷ us) long = absurd (omega arith)
zip-length (n ∷ ns) [] long = absurd (omega arith)
zip-length (n ∷ ns) (u ∷ us) long = ap suc (zip-length ns us (omega arith))

pub zip-mapped : (f : User → User) (ns : List Name) (us : List User)
    → zip ns (map f us) ≡ map (λ (e : Name × User). (e.0, f e.1)) (zip ns us)
zip-mapped f [] us = refl
zip-mapped f (n ∷ ns) [] = refl
zip-mapped f (n ∷ ns) (u ∷ us) =
    ap (λ (l : List (Name × User)). (n, f u) ∷ l) (zip-mapped f ns us)

pub nothing-past : (us : List User) (i : ℕ) → length us ≤ i → None ≡ slice_get us i
nothing-past [] i past = refl
nothing-past (u ∷ us) zero past = absurd (omega arith)
nothing-past (u ∷ us) (suc i) past = nothing-past us i (omega arith)

-- there is an index exactly if there is the key
pub key-place : (es : List (Name × User)) (n : Name)
    → is_some (position (name_eq n) (map key_of es)) ≡ has_key name_eq es n
key-place es n = position-any (name_eq n) (map key_of es) ∙ any-map key_of (name_eq n) es

-- the value at the index of a key
pub value-at-place : (es : List (Name × User)) (n : Name) (i : ℕ)
    → Some i ≡ position (name_eq n) (map key_of es)
    → slice_get (map value_of es) i ≡ value_at name_eq es n
value-at-place [] n i at = cc
value-at-place (e ∷ es) n i at =
    elim (name_eq n e.0) as
    (λ b. Some i ≡ cond b (Some 0) (option_map suc (position (name_eq n) (map key_of es)))
    → slice_get (e.1 ∷ map value_of es) i ≡ cond b (Some e.1) (value_at name_eq es n)) [
      | true ↦ λ is. let first : i ≡ 0 = cc in ap (slice_get (e.1 ∷ map value_of es)) first
      | false ↦ λ is. later (position (name_eq n) (map key_of es))
          (λ j found. value-at-place es n j (sym found)) refl is
    ] (at ∙ position-cons (name_eq n) e.0 (map key_of es))
  where
    later : (o : Option ℕ)
        → ((j : ℕ) → position (name_eq n) (map key_of es) ≡ Some j
        → slice_get (map value_of es) j ≡ value_at name_eq es n)
        → position (name_eq n) (map key_of es) ≡ o → Some i ≡ option_map suc o
        → slice_get (e.1 ∷ map value_of es) i ≡ value_at name_eq es n
    later None found at is = cc
    later (Some j) found at is = let next : i ≡ suc j = cc in
        ap (slice_get (e.1 ∷ map value_of es)) next ∙ found j at

pub value-nowhere : (es : List (Name × User)) (n : Name)
    → None ≡ position (name_eq n) (map key_of es) → None ≡ value_at name_eq es n
value-nowhere [] n none = refl
value-nowhere (e ∷ es) n none =
    elim (name_eq n e.0) as
    (λ b. None ≡ cond b (Some 0) (option_map suc (position (name_eq n) (map key_of es)))
    → None ≡ cond b (Some e.1) (value_at name_eq es n)) [
      | true ↦ λ is. cc
      | false ↦ λ is. value-nowhere es n (behind (position (name_eq n) (map key_of es)) is)
    ] (none ∙ position-cons (name_eq n) e.0 (map key_of es))
  where
    behind : (o : Option ℕ) → None ≡ option_map suc o → None ≡ o
    behind None is = refl
    behind (Some i) is = cc

-- other data of an existing user
pub put-present : (ns : List Name) (us : List User) (n : Name) (v : User) (i : ℕ)
    → length ns ≡ length us → Some i ≡ position (name_eq n) ns
    → zip ns (slice_set us i v) ≡ insert_entry name_eq (zip ns us) n v
put-present [] us n v i long at = cc
put-present (m ∷ ms) [] n v i long at = absurd (omega arith)
put-present (m ∷ ms) (u ∷ us) n v i long at =
    elim (name_eq n m) as
    (λ b. Some i ≡ cond b (Some 0) (option_map suc (position (name_eq n) ms))
    → zip (m ∷ ms) (slice_set (u ∷ us) i v)
    ≡ cond b ((m, v) ∷ zip ms us) ((m, u) ∷ insert_entry name_eq (zip ms us) n v)) [
      | true ↦ λ is. let first : i ≡ 0 = cc in
          ap (λ j. zip (m ∷ ms) (slice_set (u ∷ us) j v)) first
      | false ↦ λ is. later (position (name_eq n) ms)
          (λ j found. put-present ms us n v j (omega arith) (sym found)) refl is
    ] (at ∙ position-cons (name_eq n) m ms)
  where
    later : (o : Option ℕ)
        → ((j : ℕ) → position (name_eq n) ms ≡ Some j
        → zip ms (slice_set us j v) ≡ insert_entry name_eq (zip ms us) n v)
        → position (name_eq n) ms ≡ o → Some i ≡ option_map suc o
        → zip (m ∷ ms) (slice_set (u ∷ us) i v)
        ≡ (m, u) ∷ insert_entry name_eq (zip ms us) n v
    later None found at is = cc
    later (Some j) found at is = let next : i ≡ suc j = cc in
        ap (λ k. zip (m ∷ ms) (slice_set (u ∷ us) k v)) next
        ∙ ap (λ (l : List (Name × User)). (m, u) ∷ l) (found j at)

-- one more user
pub put-new : (ns : List Name) (us : List User) (n : Name) (v : User) → length ns ≡ length us
    → contains_name ns n ≡ false
    → zip (ns ++ n ∷ []) (us ++ v ∷ []) ≡ insert_entry name_eq (zip ns us) n v
put-new [] [] n v long none = refl
put-new [] (u ∷ us) n v long none = absurd (omega arith)
put-new (m ∷ ms) [] n v long none = absurd (omega arith)
put-new (m ∷ ms) (u ∷ us) n v long none =
    elim (name_eq n m) as (λ b. (b || contains_name ms n) ≡ false
    → (m, u) ∷ zip (ms ++ n ∷ []) (us ++ v ∷ [])
    ≡ cond b ((m, v) ∷ zip ms us) ((m, u) ∷ insert_entry name_eq (zip ms us) n v)) [
      | true ↦ λ is. absurd (true≢false is)
      | false ↦ λ is. ap (λ (l : List (Name × User)). (m, u) ∷ l)
          (put-new ms us n v (omega arith) is)
    ] none

-- one user fewer
absent-names : (ns : List Name) (n : Name) → contains_name ns n ≡ false → without_name ns n ≡ ns
absent-names [] n none = refl
absent-names (m ∷ ms) n none =
    elim (name_eq n m) as (λ b. (b || contains_name ms n) ≡ false
    → cond (not b) (m ∷ without_name ms n) (without_name ms n) ≡ m ∷ ms) [
      | true ↦ λ is. absurd (true≢false is)
      | false ↦ λ is. ap (λ (l : List Name). m ∷ l) (absent-names ms n is)
    ] none

pub absent-users : (ns : List Name) (us : List User) (n : Name) → contains_name ns n ≡ false
    → without_key name_eq (zip ns us) n ≡ zip ns us
absent-users [] us n none = refl
absent-users (m ∷ ms) [] n none = refl
absent-users (m ∷ ms) (u ∷ us) n none =
    elim (name_eq n m) as (λ b. (b || contains_name ms n) ≡ false
    → cond (not b) ((m, u) ∷ without_key name_eq (zip ms us) n) (without_key name_eq (zip ms us) n)
    ≡ (m, u) ∷ zip ms us) [
      | true ↦ λ is. absurd (true≢false is)
      | false ↦ λ is. ap (λ (l : List (Name × User)). (m, u) ∷ l) (absent-users ms us n is)
    ] none

pub users-fewer : (ns : List Name) (us : List User) (n : Name) (i : ℕ) → length ns ≡ length us
    → are_distinct ns ≡ true → Some i ≡ position (name_eq n) ns
    → (zip (without_name ns n) (take i us ++ drop (suc i) us) ≡ without_key name_eq (zip ns us) n)
    × (length (without_name ns n) ≡ length (take i us ++ drop (suc i) us))
users-fewer [] us n i long once at = cc
users-fewer (m ∷ ms) [] n i long once at = absurd (omega arith)
users-fewer (m ∷ ms) (u ∷ us) n i long once at =
    let p = parts (not (contains_name ms m)) (are_distinct ms) once in
    let apart : name_eq n m ≡ true → contains_name ms n ≡ false = λ equal.
    ap (contains_name ms) (same_name n m equal) ∙ not_true (contains_name ms m) p.0 in
    elim (name_eq n m) as (λ b. name_eq n m ≡ b
    → Some i ≡ cond b (Some 0) (option_map suc (position (name_eq n) ms))
    → (zip (cond (not b) (m ∷ without_name ms n) (without_name ms n))
    (take i (u ∷ us) ++ drop (suc i) (u ∷ us))
    ≡ cond (not b) ((m, u) ∷ without_key name_eq (zip ms us) n)
    (without_key name_eq (zip ms us) n))
    × (length (cond (not b) (m ∷ without_name ms n) (without_name ms n))
    ≡ length (take i (u ∷ us) ++ drop (suc i) (u ∷ us)))) [
      | true ↦ λ equal is. let first : i ≡ 0 = cc in
          let left = absent-names ms n (apart equal) in (
            (λ t. zip (left t) (take (first t) (u ∷ us) ++ drop (suc (first t)) (u ∷ us)))
                ∙ sym (absent-users ms us n (apart equal)),
            ap length left ∙ (omega arith)
                ∙ ap (λ j. length (take j (u ∷ us) ++ drop (suc j) (u ∷ us))) (sym first),
          )
      | false ↦ λ other is. later (position (name_eq n) ms)
          (λ j found. users-fewer ms us n j (omega arith) p.1 (sym found)) refl is
    ] refl (at ∙ position-cons (name_eq n) m ms)
  where
    later : (o : Option ℕ)
        → ((j : ℕ) → position (name_eq n) ms ≡ Some j
        → (zip (without_name ms n) (take j us ++ drop (suc j) us)
        ≡ without_key name_eq (zip ms us) n)
        × (length (without_name ms n) ≡ length (take j us ++ drop (suc j) us)))
        → position (name_eq n) ms ≡ o → Some i ≡ option_map suc o
        → (zip (m ∷ without_name ms n) (take i (u ∷ us) ++ drop (suc i) (u ∷ us))
        ≡ (m, u) ∷ without_key name_eq (zip ms us) n)
        × (length (m ∷ without_name ms n) ≡ length (take i (u ∷ us) ++ drop (suc i) (u ∷ us)))
    later None found at is = cc
    later (Some j) found at is =
        let next : i ≡ suc j = cc in
        let rest = found j at in (
          ap (λ k. zip (m ∷ without_name ms n) (take k (u ∷ us) ++ drop (suc k) (u ∷ us))) next
              ∙ ap (λ (l : List (Name × User)). (m, u) ∷ l) rest.0,
          ap suc rest.1
              ∙ ap (λ k. length (take k (u ∷ us) ++ drop (suc k) (u ∷ us))) (sym next),
        )

-- a name occurs only once in a smaller list too
left-of : (xs : List Name) (r b : Name) → contains_name (without_name xs r) b ≡ true
    → contains_name xs b ≡ true
left-of [] r b there = there
left-of (x ∷ xs) r b there =
    elim (name_eq r x) as (λ t. contains_name (cond (not t) (x ∷ without_name xs r)
    (without_name xs r)) b ≡ true → (name_eq b x || contains_name xs b) ≡ true) [
      | true ↦ λ later. right (name_eq b x) (contains_name xs b) (left-of xs r b later)
      | false ↦ λ kept. elim (or_cases (name_eq b x) (contains_name (without_name xs r) b) kept) [
        | inl here ↦ ap (λ t. t || contains_name xs b) here
        | inr later ↦ right (name_eq b x) (contains_name xs b) (left-of xs r b later)
      ]
    ] there
  where
    right : (s t : Bool) → t ≡ true → (s || t) ≡ true
    right true t is = refl
    right false t is = is

pub distinct-left : (xs : List Name) (r : Name) → are_distinct xs ≡ true
    → are_distinct (without_name xs r) ≡ true
distinct-left [] r once = refl
distinct-left (x ∷ xs) r once =
    let p = parts (not (contains_name xs x)) (are_distinct xs) once in
    let first : contains_name (without_name xs r) x ≡ false =
    refuted (contains_name (without_name xs r) x)
    (λ is. true≢false (sym (left-of xs r x is) ∙ not_true (contains_name xs x) p.0)) in
    elim (name_eq r x) as (λ t. are_distinct
    (cond (not t) (x ∷ without_name xs r) (without_name xs r)) ≡ true) [
      | true ↦ distinct-left xs r p.1
      | false ↦ both (not (contains_name (without_name xs r) x)) _ (ap not first)
          (distinct-left xs r p.1)
    ]
