-- Grants in blocks, and the slots of their objects and roles.
use Rattle.std.proofs.Common.{◌≡◌, ℕ, zero, suc, ◌+◌, ◌<◌, ◌≤◌, take, get_or, arith, Bool, true, false, cond, not, ◌||◌, ◌&&◌, eqb, eq-eqb, List, [], ◌∷◌, ◌++◌, filter, length, refl, sym, ap, ◌∙◌, true≢false, append_assoc, append-nil}
use Rattle.std.specs.Prelude.{◌%◌, nat_lt}
use Rattle.std.specs.List.{list_any, list_all, flat_map}
use Rattle.std.proofs.lemmas.Bool.{ltb-true}
use Rattle.std.proofs.lemmas.List.{length-append}
use Rattle.std.proofs.lemmas.List.Folds.{list_any-append}
use Rattle.mpw_roles.specs.declared.mask.Mask.{Mask}
use Rattle.mpw_roles.specs.Mask.{has}
use Rattle.mpw_permissions.specs.Grant.{operation_eq, object_eq, grant_eq, without_grant}
use Rattle.mpw_permissions.specs.Internal.Grants.{AreCovered, IsCovered, object_slot, role_slot}
use Rattle.mpw_permissions.specs.Internal.Holders.{hash, name_hash}
use Rattle.mpw_roles.proofs.CallerLemmas.{same_name}
use Rattle.mpw_geom.specs.Names.{name_eq}
use Rattle.mpw_permissions.specs.declared.permission.Grant.{Grant}
use Rattle.mpw_permissions.proofs.ObjectLemmas.{same_object}
use Rattle.mpw_roles.proofs.BoolLemmas.{refuted, and_both as both, and_parts as parts}

-- equal grants have the same slots
parts_of : (g x : Grant) → grant_eq g x ≡ true
    → (object_eq g.object x.object ≡ true) × (name_eq g.role x.role ≡ true)
parts_of g x is =
    let f = parts (operation_eq g.operation x.operation) (object_eq g.object x.object
    && name_eq g.role x.role) is in
    parts (object_eq g.object x.object) (name_eq g.role x.role) f.1

same_object_slot : (g x : Grant) → grant_eq g x ≡ true → object_slot g ≡ object_slot x
unfolding object_slot
same_object_slot g x is =
    ap (λ o. hash o % 512) (same_object g.object x.object (parts_of g x is).0)

same_role_slot : (g x : Grant) → grant_eq g x ≡ true → role_slot g ≡ role_slot x
unfolding role_slot
same_role_slot g x is = ap (λ r. name_hash r % 512) (same_name g.role x.role (parts_of g x is).1)

module _ (slot : Grant → ℕ) where
  -- a grant whose slot isn't there is none of them
  none_covered : ((g x : Grant) → grant_eq g x ≡ true → slot g ≡ slot x) → (mask : Mask)
      (grants : List Grant) (g : Grant) → IsCovered slot mask grants
      → has mask (slot g) ≡ false → list_any (grant_eq g) grants ≡ false
  none_covered same mask [] g covered none = refl
  none_covered same mask (x ∷ xs) g covered none =
      let p = parts (has mask (slot x)) (list_all (λ y. has mask (slot y)) xs) covered in
      ap (λ b. b || list_any (grant_eq g) xs)
      (refuted (grant_eq g x) (λ is.
      true≢false (sym p.0 ∙ ap (has mask) (sym (same g x is)) ∙ none)))
      ∙ none_covered same mask xs g p.1 none

  -- one more slot and one more grant
  pub covered-more : (mask wider : Mask) (grants : List Grant) (g : Grant) (at : ℕ)
      → at ≡ slot g → ((q : ℕ) → has wider q ≡ (has mask q || eqb q at))
      → IsCovered slot mask grants → IsCovered slot wider (grants ++ g ∷ [])
  covered-more mask wider [] g at here is covered = both (has wider (slot g)) true
      (is (slot g) ∙ right (has mask (slot g)) (eqb (slot g) at)
      (ap (eqb (slot g)) here ∙ eq-eqb (slot g) (slot g) refl)) refl
    where
      right : (a b : Bool) → b ≡ true → (a || b) ≡ true
      right true b t = refl
      right false b t = t
  covered-more mask wider (x ∷ xs) g at here is covered =
      let p = parts (has mask (slot x)) (list_all (λ y. has mask (slot y)) xs) covered in
      both (has wider (slot x)) _
      (is (slot x) ∙ ap (λ b. b || eqb (slot x) at) p.0)
      (covered-more mask wider xs g at here is p.1)

  -- fewer grants
  covered_less : (mask : Mask) (k : Grant → Bool) (grants : List Grant)
      → IsCovered slot mask grants → IsCovered slot mask (filter k grants)
  covered_less mask k [] covered = refl
  covered_less mask k (x ∷ xs) covered =
      let p = parts (has mask (slot x)) (list_all (λ y. has mask (slot y)) xs) covered in
      elim (k x) as (λ b. IsCovered slot mask (cond b (x ∷ filter k xs) (filter k xs))) [
        | true ↦ both (has mask (slot x)) _ p.0 (covered_less mask k xs p.1)
        | false ↦ covered_less mask k xs p.1
      ]

pub no-object : (mask : Mask) (grants : List Grant) (g : Grant)
    → IsCovered object_slot mask grants → has mask (object_slot g) ≡ false
    → list_any (grant_eq g) grants ≡ false
no-object = none_covered object_slot same_object_slot

pub no-role : (mask : Mask) (grants : List Grant) (g : Grant)
    → IsCovered role_slot mask grants → has mask (role_slot g) ≡ false
    → list_any (grant_eq g) grants ≡ false
no-role = none_covered role_slot same_role_slot

pub covered-less : (objects roles : Mask) (k : Grant → Bool) (grants : List Grant)
    → AreCovered objects roles grants → AreCovered objects roles (filter k grants)
covered-less objects roles k grants covered = (
  covered_less object_slot objects k grants covered.0,
  covered_less role_slot roles k grants covered.1,
)

-- a filter that removes nothing
pub without-none : (grants : List Grant) (g : Grant) → list_any (grant_eq g) grants ≡ false
    → grants ≡ without_grant grants g
without-none [] g none = refl
without-none (x ∷ xs) g none =
    elim (grant_eq g x) as (λ b. (b || list_any (grant_eq g) xs) ≡ false
    → x ∷ xs ≡ cond (not b) (x ∷ without_grant xs g) (without_grant xs g)) [
      | true ↦ λ is. absurd (true≢false is)
      | false ↦ λ later. ap (λ l. x ∷ l) (without-none xs g later)
    ] none

-- one more block at the end
pub flat_last : (blocks : List (List Grant)) (block : List Grant)
    → flat_map (λ b. b) (blocks ++ block ∷ []) ≡ flat_map (λ b. b) blocks ++ block
flat_last [] block = append-nil block
flat_last (b ∷ bs) block =
    ap (λ l. b ++ l) (flat_last bs block) ∙ sym (append_assoc b (flat_map (λ x. x) bs) block)

pub filter_append : (k : Grant → Bool) (xs ys : List Grant) → filter k (xs ++ ys) ≡ filter k xs
    ++ filter k ys
filter_append k [] ys = refl
filter_append k (x ∷ xs) ys = elim (k x) as
    (λ b. cond b (x ∷ filter k (xs ++ ys)) (filter k (xs ++ ys)) ≡ cond b (x ∷ filter k xs)
    (filter k xs) ++ filter k ys) [
      | true ↦ ap (λ l. x ∷ l) (filter_append k xs ys)
      | false ↦ filter_append k xs ys
    ]

-- what is in a block is in all
pub among : (p : Grant → Bool) (blocks : List (List Grant)) (i : ℕ) (b d : List Grant)
    → i < length blocks → b ≡ get_or blocks i d → list_any p b ≡ true
    → list_any p (flat_map (λ x. x) blocks) ≡ true
among p [] i b d inside at is = absurd (omega arith)
among p (x ∷ xs) zero b d inside at is = list_any-append p x (flat_map (λ y. y) xs)
    ∙ ap (λ t. t || list_any p (flat_map (λ y. y) xs)) (ap (list_any p) (sym at) ∙ is)
among p (x ∷ xs) (suc i) b d inside at is = list_any-append p x (flat_map (λ y. y) xs)
    ∙ ap (λ t. list_any p x || t) (among p xs i b d (omega arith) at is) ∙ or_true (list_any p x)
  where
    or_true : (t : Bool) → (t || true) ≡ true
    or_true true = refl
    or_true false = refl

-- and all are at least as many as it and those before it
pub flat-long : (blocks : List (List Grant)) (i : ℕ) (b d : List Grant) → i < length blocks
    → b ≡ get_or blocks i d → length (flat_map (λ x. x) (take i blocks)) + length b ≤ length
    (flat_map (λ x. x) blocks)
flat-long [] i b d inside at = absurd (omega arith)
flat-long (x ∷ xs) zero b d inside at = let same = ap length at in let sum =
    length-append x (flat_map (λ y. y) xs) in omega (arith, same, sum)
flat-long (x ∷ xs) (suc i) b d inside at =
    let rest = flat-long xs i b d (omega arith) at in
    let one = length-append x (flat_map (λ y. y) xs) in
    let two = length-append x (flat_map (λ y. y) (take i xs)) in
    omega (arith, rest, one, two)

pub not_less : (a b : ℕ) → b ≤ a → nat_lt a b ≡ false
not_less a b le = refuted (nat_lt a b) (λ is. let less = ltb-true a b is in omega (arith, le, less))

-- what stays of one more block
kept-suc : (k : Grant → Bool) (blocks : List (List Grant)) (i : ℕ) (b d : List Grant)
    → i < length blocks → b ≡ get_or blocks i d
    → filter k (flat_map (λ x. x) (take i blocks))
    ++ filter k b ≡ filter k (flat_map (λ x. x) (take (suc i) blocks))
kept-suc k [] i b d inside at = absurd (omega arith)
kept-suc k (x ∷ xs) zero b d inside at = ap (filter k) (at ∙ sym (append-nil x))
kept-suc k (x ∷ xs) (suc i) b d inside at =
    ap (λ l. l ++ filter k b) (filter_append k x (flat_map (λ y. y) (take i xs)))
    ∙ append_assoc (filter k x) (filter k (flat_map (λ y. y) (take i xs))) (filter k b)
    ∙ ap (λ l. filter k x ++ l) (kept-suc k xs i b d (omega arith) at)
    ∙ sym (filter_append k x (flat_map (λ y. y) (take (suc i) xs)))

pub kept-next : (k : Grant → Bool) (blocks : List (List Grant)) (i : ℕ) (b d : List Grant)
    → i < length blocks → b ≡ get_or blocks i d
    → filter k (flat_map (λ x. x) (take i blocks))
    ++ filter k b ≡ filter k (flat_map (λ x. x) (take (i + 1) blocks))
kept-next k blocks i b d inside at =
    let next : suc i ≡ i + 1 = omega arith in
    kept-suc k blocks i b d inside at ∙ ap (λ n. filter k (flat_map (λ x. x) (take n blocks))) next
