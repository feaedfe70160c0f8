-- What marks say of the roles, by the roles' names.
use Rattle.std.proofs.Common.{◌≡◌, ℕ, zero, suc, ◌+◌, ◌<◌, ◌≤◌, true, false, cond, ◌||◌, inl, inr, List, [], ◌∷◌, length, drop, add-one, get_or, Some, refl, sym, ap, ◌∙◌, true≢false, arith}
use Rattle.std.specs.Prelude.{slice_get, unwrap_or}
use Rattle.std.specs.List.{IsDistinct, AllByRecursion}
use Rattle.std.specs.Cmp.Lexicographic.{bytes_decides}
use Rattle.std.proofs.lemmas.Map.Keys.{IsDistinct-head, IsDistinct-tail}
use Rattle.mpw_geom.specs.Names.{name_eq, contains_name}
use Rattle.mpw_roles.specs.Hierarchy.{Name, Hierarchy, role_names, is_role}
use Rattle.mpw_roles.specs.Marks.{Marks, marked_names}
use Rattle.mpw_roles.specs.Internal.Marks.{is_marked}
use Rattle.mpw_geom.proofs.Linked.{same_name, name_eq-refl, or_right, or_cases}

-- by the index of the first entry of a role
pub read-first : (h : Hierarchy) (ms : Marks) (r : Name) (i : ℕ) → i < length (role_names h)
    → i < length ms → name_eq r (get_or (role_names h) i []) ≡ true
    → ((k : ℕ) → k < i → name_eq r (get_or (role_names h) k []) ≡ false)
    → get_or ms i false ≡ is_marked h ms r
read-first [] ms r i inside long at first = absurd (omega arith)
read-first (e ∷ es) [] r i inside long at first = absurd (omega arith)
read-first (e ∷ es) (m ∷ ms) r zero inside long at first =
    ap (λ b. cond b m (is_marked es ms r)) (sym at)
read-first (e ∷ es) (m ∷ ms) r (suc i) inside long at first =
    read-first es ms r i (omega arith) (omega arith) at (λ k h. first (suc k) (omega arith))
    ∙ ap (λ b. cond b m (is_marked es ms r)) (sym (first zero (omega arith)))

-- a name that is no role is not marked
pub is_marked-none : (h : Hierarchy) (ms : Marks) (r : Name) → is_role h r ≡ false
    → is_marked h ms r ≡ false
is_marked-none [] ms r none = refl
is_marked-none (e ∷ es) [] r none = refl
is_marked-none (e ∷ es) (m ∷ ms) r none =
    elim (name_eq r e.0) as (λ b. (b || is_role es r) ≡ false
    → cond b m (is_marked es ms r) ≡ false) [
      | true ↦ λ is. absurd (true≢false is)
      | false ↦ λ is. is_marked-none es ms r is
    ] none

pub apart-later : (e : Name) (names : List Name) (q : Name)
    → AllByRecursion (λ y. name_eq e y ≡ false) names → contains_name names q ≡ true
    → name_eq q e ≡ false
apart-later e [] q all there = absurd (true≢false (sym there))
apart-later e (x ∷ xs) q all there = elim (or_cases _ _ there) [
  | inl here ↦ elim (name_eq q e) as (λ b. name_eq q e ≡ b → b ≡ false) [
    | true ↦ λ also. absurd (true≢false
        (sym ((bytes_decides e x).1 (sym (same_name q e also) ∙ same_name q x here)) ∙ all.0))
    | false ↦ λ _. refl
  ] refl
  | inr later ↦ apart-later e xs q all.1 later
]

-- whether a role is among the marked names
pub contains-marked_names : (es : Hierarchy) (ms : Marks) (r : Name)
    → IsDistinct name_eq (role_names es) → length es ≤ length ms
    → is_marked es ms r ≡ contains_name (marked_names es ms) r
contains-marked_names [] ms r apart long = refl
contains-marked_names (e ∷ es) [] r apart long = refl
contains-marked_names (e ∷ es) (m ∷ ms) r apart long =
    let rest = contains-marked_names es ms r (IsDistinct-tail _ _ _ apart) (omega arith) in
    elim (name_eq r e.0) as (λ b. name_eq r e.0 ≡ b
    → cond b m (is_marked es ms r) ≡ contains_name
    (cond m (e.0 ∷ marked_names es ms) (marked_names es ms)) r) [
      | true ↦ λ here. elim m as (λ b. b ≡ contains_name
          (cond b (e.0 ∷ marked_names es ms) (marked_names es ms)) r) [
            | true ↦ ap (λ b. b || contains_name (marked_names es ms) r) (sym here)
            | false ↦ sym (is_marked-none es ms r (gone here)) ∙ rest
          ]
      | false ↦ λ other. elim m as (λ b. is_marked es ms r ≡ contains_name
          (cond b (e.0 ∷ marked_names es ms) (marked_names es ms)) r) [
            | true ↦ rest ∙ ap (λ b. b || contains_name (marked_names es ms) r) (sym other)
            | false ↦ rest
          ]
    ] refl
  where
    gone : name_eq r e.0 ≡ true → is_role es r ≡ false
    gone here = elim (is_role es r) as (λ b. is_role es r ≡ b → b ≡ false) [
      | true ↦ λ there. absurd (true≢false
          (sym here ∙ apart-later e.0 (role_names es) r (IsDistinct-head _ _ _ apart) there))
      | false ↦ λ _. refl
    ] refl

-- the name at an index is not among those before it
pub distinct-first : (names : List Name) → IsDistinct name_eq names → (i k : ℕ) → i < length names
    → k < i → name_eq (get_or names i []) (get_or names k []) ≡ false
distinct-first [] apart i k inside below = absurd (omega arith)
distinct-first (x ∷ xs) apart zero k inside below = absurd (omega arith)
distinct-first (x ∷ xs) apart (suc i) zero inside below =
    apart-later x xs (get_or xs i []) (IsDistinct-head _ _ _ apart) (at-place xs i (omega arith))
  where
    at-place : (ys : List Name) (j : ℕ) → j < length ys → contains_name ys (get_or ys j []) ≡ true
    at-place [] j h = absurd (omega arith)
    at-place (y ∷ ys) zero h = ap (λ b. b || contains_name ys y) (name_eq-refl y)
    at-place (y ∷ ys) (suc j) h = or_right _ _ (at-place ys j (omega arith))
distinct-first (x ∷ xs) apart (suc i) (suc k) inside below =
    distinct-first xs (IsDistinct-tail _ _ _ apart) i k (omega arith) (omega arith)

pub length-names : (h : Hierarchy) → length (role_names h) ≡ length h
length-names [] = refl
length-names (e ∷ es) = ap suc (length-names es)

-- one index further
pub marked_names-drop : (h : Hierarchy) (ms : Marks) (i : ℕ) (n : Name)
    → slice_get (role_names h) i ≡ Some n → i < length ms
    → marked_names (drop i h) (drop i ms) ≡ cond (get_or ms i false)
    (n ∷ marked_names (drop (i + 1) h) (drop (i + 1) ms))
    (marked_names (drop (i + 1) h) (drop (i + 1) ms))
marked_names-drop [] ms i n at long = cc
marked_names-drop (x ∷ xs) [] i n at long = absurd (omega arith)
marked_names-drop (x ∷ xs) (m ∷ ms) zero n at long =
    ap (λ o. cond m (unwrap_or o [] ∷ marked_names xs ms) (marked_names xs ms)) at
marked_names-drop (x ∷ xs) (m ∷ ms) (suc i) n at long =
    let rest = marked_names-drop xs ms i n at (omega arith) in
    rw add-one (rw add-one at rest)
