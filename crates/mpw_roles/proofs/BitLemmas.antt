-- The bits of masks and the roles at their indexes.
use Rattle.std.proofs.Common.{[], ◌≡◌, ℕ, zero, suc, ◌+◌, ◌<◌, ◌≤◌, Bool, true, false, cond, ◌||◌, ◌&&◌, inl, inr, List, ◌∷◌, length, filter, get_or, Some, refl, sym, ap, subst, ◌∙◌, true≢false, arith, zero-add}
use Rattle.std.specs.Prelude.{nat_lt, position}
use Rattle.std.specs.Cmp.Lexicographic.{bytes_decides}
use Rattle.std.specs.Cmp.{both_ways}
use Rattle.std.proofs.lemmas.List.Quantifiers.{position-Some}
use Rattle.std.proofs.lemmas.Bool.{lt-ltb, ltb-true}
use Rattle.mpw_geom.specs.Names.{name_eq}
use Rattle.mpw_geom.specs.Links.{same, chain}
use Rattle.mpw_geom.proofs.Linked.{same_name, name_eq-refl, leads-sound, leads-complete}
use Rattle.mpw_roles.specs.declared.mask.Mask.{Mask}
use Rattle.mpw_roles.specs.Hierarchy.{Name, Hierarchy, role_names, is_role}
use Rattle.mpw_roles.specs.Marks.{Marks, marked_names}
use Rattle.mpw_roles.specs.Mask.{has}
use Rattle.mpw_roles.specs.Order.{at_least, IsAtLeast, IsHierarchy}
use Rattle.mpw_roles.specs.Places.{name_at, is_place_under, marks_from, mask_at, IsMasked}
use Rattle.mpw_roles.proofs.HierarchyLemmas.{junior_role}
use Rattle.mpw_roles.proofs.RoleLemmas.{first_role}
use Rattle.mpw_roles.proofs.BoolLemmas.{refuted}
use Rattle.mpw_roles.proofs.MarksLemmas.{length-names}

-- the marks of a mask
pub length-marks_from : (place n : ℕ) (m : Mask) → length (marks_from place n m) ≡ n
length-marks_from place zero m = refl
length-marks_from place (suc n) m = ap suc (length-marks_from (suc place) n m)

marks_from-at : (place n : ℕ) (m : Mask) (i : ℕ) → i < n
    → get_or (marks_from place n m) i false ≡ has m (place + i)
marks_from-at place zero m i inside = absurd (omega arith)
marks_from-at place (suc n) m zero inside = let p : place ≡ place + 0 = omega arith in ap (has m) p
marks_from-at place (suc n) m (suc i) inside = let p : suc place + i ≡ place + suc i =
    omega arith in marks_from-at (suc place) n m i (omega arith) ∙ ap (has m) p

pub mark-at : (n : ℕ) (m : Mask) (i : ℕ) → i < n → get_or (marks_from 0 n m) i false ≡ has m i
mark-at n m i inside = marks_from-at 0 n m i inside ∙ ap (has m) (zero-add i)

-- if the marks are a test of the name at each index, the marked names are those that pass
pub marked_names-places : (p : Name → Bool) (h : Hierarchy) (ms : Marks) → length h ≤ length ms
    → ((i : ℕ) → i < length h → get_or ms i false ≡ p (name_at h i))
    → marked_names h ms ≡ filter p (role_names h)
marked_names-places p [] ms long is = refl
marked_names-places p (e ∷ es) [] long is = absurd (omega arith)
marked_names-places p (e ∷ es) (m ∷ ms) long is =
    let rest = marked_names-places p es ms (omega arith) (λ i inside. is (suc i) (omega arith)) in
    ap (λ b. cond b (e.0 ∷ marked_names es ms) (marked_names es ms)) (is zero (omega arith))
    ∙ ap (λ l. cond (p e.0) (e.0 ∷ l) l) rest

-- the role at an index that was found
pub name-found : (h : Hierarchy) (r : Name) (i : ℕ) → Some i ≡ position (name_eq r) (role_names h)
    → (i < length h) × (name_at h i ≡ r)
name-found h r i found =
    let at = position-Some (name_eq r) (role_names h) i [] (sym found) in
    let inside = at.0 in
    (omega (arith, length-names h), sym (same_name r (name_at h i) at.1))

pub name-is_role : (h : Hierarchy) (i : ℕ) → i < length h → is_role h (name_at h i) ≡ true
name-is_role [] i inside = absurd (omega arith)
name-is_role (e ∷ es) zero inside = ap (λ b. b || is_role es e.0) (name_eq-refl e.0)
name-is_role (e ∷ es) (suc i) inside =
    or_later (name_eq (name_at es i) e.0) _ (name-is_role es i (omega arith))
  where
    or_later : (a b : Bool) → b ≡ true → (a || b) ≡ true
    or_later true b e = refl
    or_later false b e = e

-- a name that is no role is at least itself alone
alone : (h : Hierarchy) (a b : Name) → is_role h a ≡ false → IsAtLeast h a b → name_eq a b ≡ true
alone h a b none same = name_eq-refl a
alone h a b none (chain {middle = m} pair rest) =
    absurd (true≢false (sym (first_role h a m pair) ∙ none))

pub stranger-above : (h : Hierarchy) (a b : Name) → is_role h a ≡ false
    → name_eq a b ≡ at_least h a b
stranger-above h a b none = both_ways _ _
    (λ equal. leads-complete h a b (subst (IsAtLeast h a) (same_name a b equal) same))
    (λ down. alone h a b none (leads-sound h a b down))

-- and only it is at least it
pub stranger-below : (h : Hierarchy) → IsHierarchy h → (a b : Name) → is_role h b ≡ false
    → name_eq a b ≡ at_least h a b
stranger-below h is a b none = both_ways _ _
    (λ equal. leads-complete h a b (subst (IsAtLeast h a) (same_name a b equal) same))
    (λ down. elim (junior_role h is a b (leads-sound h a b down)) [
      | inl equal ↦ (bytes_decides a b).1 equal
      | inr there ↦ absurd (true≢false (sym there ∙ none))
    ])

-- a mask's bit is the order
pub bit-at_least : (h : Hierarchy) (ms : List Mask) → IsMasked h ms → (a b : Name) (i j : ℕ)
    → Some i ≡ position (name_eq a) (role_names h) → Some j ≡ position (name_eq b) (role_names h)
    → has (mask_at ms i) j ≡ at_least h a b
bit-at_least h ms masked a b i j at_a at_b =
    let above = name-found h a i at_a in
    let below = name-found h b j at_b in
    masked.exact i above.0 j
    ∙ ap (λ t. t && at_least h (name_at h i) (name_at h j)) (lt-ltb j (length h) below.0)
    ∙ (λ k. at_least h (above.1 k) (below.1 k))

under-none : (h : Hierarchy) (a : Name) (p : ℕ) → is_role h a ≡ false → is_place_under h a p ≡ false
under-none h a p none = elim (nat_lt p (length h)) as (λ b. nat_lt p (length h) ≡ b
    → (b && at_least h a (name_at h p)) ≡ false) [
      | true ↦ λ inside. refuted (at_least h a (name_at h p)) (λ down.
          let there = name-is_role h p (ltb-true p (length h) inside) in
          true≢false (sym there ∙ ap (is_role h)
          (sym (same_name a (name_at h p) (stranger-above h a (name_at h p) none ∙ down))) ∙ none))
      | false ↦ λ _. refl
    ] refl

pub mask-none : (h : Hierarchy) (a : Name) (p : ℕ) → is_role h a ≡ false
    → false ≡ is_place_under h a p
mask-none h a p none = sym (under-none h a p none)
