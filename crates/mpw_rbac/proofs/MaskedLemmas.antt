-- The masks of users and sessions stay right.
use Rattle.std.proofs.Common.{◌≡◌, ℕ, zero, suc, ◌+◌, ◌<◌, Bool, true, false, cond, ◌&&◌, ◌||◌, List, [], ◌∷◌, ◌++◌, length, map, Option, None, Some, option_map, refl, sym, ap, subst, ◌∙◌, arith}
use Rattle.std.specs.Prelude.{nat_lt, position, slice_get, slice_index_or, slice_set}
use Rattle.std.specs.Option.{option_map_or}
use Rattle.std.proofs.lemmas.Bool.{lt-ltb}
use Rattle.mpw_geom.specs.Names.{name_eq}
use Rattle.mpw_roles.specs.Hierarchy.{Name, Hierarchy, role_names, is_role, immediate_juniors, with_pair}
use Rattle.mpw_roles.specs.Mask.{has}
use Rattle.mpw_roles.specs.Order.{at_least, is_below}
use Rattle.mpw_roles.specs.Places.{name_at, is_place_below, is_place_under, mask_at}
use Rattle.mpw_roles.specs.declared.mask.Mask.{Mask}
use Rattle.mpw_roles.proofs.BitLemmas.{name-found}
use Rattle.mpw_roles.proofs.HierarchyLemmas.{length-with_juniors, names-with_juniors}
use Rattle.mpw_roles.proofs.PlacesLemmas.{order-with_pair, joined-bits}
use Rattle.mpw_roles.proofs.PositionLemmas.{position-cons}
use Rattle.mpw_rbac.specs.Masked.{IsBelow, AreBelow}
use Rattle.mpw_rbac.specs.Policy.{assigned_lists, assigned_roles}
use Rattle.mpw_rbac.specs.Internal.Policy.{users_and_roles}
use Rattle.mpw_rbac.specs.Table.{value_at, insert_entry}
use Rattle.mpw_rbac.specs.declared.session.User.{User}
use Rattle.mpw_roles.proofs.BoolLemmas.{and_or, or_assoc, or_false}

-- masks one by one
pub below-nil : (h : Hierarchy) → AreBelow h [] []
below-nil h = record { long = refl; exact = λ k inside. absurd (omega arith) }

pub below-cons : (h : Hierarchy) (l : List Name) (ls : List (List Name)) (m : Mask) (ms : List Mask)
    → IsBelow h l m → AreBelow h ls ms → AreBelow h (l ∷ ls) (m ∷ ms)
below-cons h l ls m ms here rest = record { long = ap suc rest.long; exact = by }
  where
    by : (k : ℕ) → k < length (l ∷ ls)
        → IsBelow h (slice_index_or (l ∷ ls) k []) (mask_at (m ∷ ms) k)
    by zero inside = here
    by (suc k) inside = rest.exact k (omega arith)

pub below-head : (h : Hierarchy) (l : List Name) (ls : List (List Name)) (m : Mask) (ms : List Mask)
    → AreBelow h (l ∷ ls) (m ∷ ms) → IsBelow h l m
below-head h l ls m ms w = w.exact 0 (omega arith)

pub below-tail : (h : Hierarchy) (l : List Name) (ls : List (List Name)) (m : Mask) (ms : List Mask)
    → AreBelow h (l ∷ ls) (m ∷ ms) → AreBelow h ls ms
below-tail h l ls m ms w = let long = w.long in
    record { long = omega arith; exact = λ k inside. w.exact (suc k) (omega arith) }

-- one more mask at the end
pub below-last : (h : Hierarchy) (ls : List (List Name)) (ms : List Mask) (l : List Name) (m : Mask)
    → AreBelow h ls ms → IsBelow h l m → AreBelow h (ls ++ l ∷ []) (ms ++ m ∷ [])
below-last h [] [] l m are here = below-cons h l [] m [] here (below-nil h)
below-last h [] (y ∷ ys) l m are here = let long = are.long in absurd (omega arith)
below-last h (x ∷ xs) [] l m are here = let long = are.long in absurd (omega arith)
below-last h (x ∷ xs) (y ∷ ys) l m are here =
    below-cons h x (xs ++ l ∷ []) y (ys ++ m ∷ []) (below-head h x xs y ys are)
    (below-last h xs ys l m (below-tail h x xs y ys are) here)

pub roles-at : (us : List (Name × User)) (i : ℕ) (e : Name × User) → slice_get us i ≡ Some e
    → slice_index_or (assigned_lists us) i [] ≡ e.1.roles
roles-at [] i e at = cc
roles-at (x ∷ xs) zero e at = let same : x ≡ e = cc in ap (λ (y : Name × User). y.1.roles) same
roles-at (x ∷ xs) (suc i) e at = roles-at xs i e at

-- the first entry of a name is the user's
pub roles-first : (h : Hierarchy) (us : List (Name × User)) (user : Name) (i : ℕ) → i < length us
    → name_eq user (slice_index_or (map (λ (e : Name × User). e.0) us) i []) ≡ true
    → ((k : ℕ) → k < i → name_eq user (slice_index_or (map (λ (e : Name × User). e.0) us) k [])
    ≡ false) → slice_index_or (assigned_lists us) i [] ≡ assigned_roles (users_and_roles us h)
    user
roles-first h [] user i inside here before = absurd (omega arith)
roles-first h (e ∷ es) user zero inside here before =
    ap (λ b. option_map_or (λ (u : User). u.roles) (cond b (Some e.1) (value_at name_eq es user))
    []) (sym here)
roles-first h (e ∷ es) user (suc i) inside here before =
    roles-first h es user i (omega arith) here (λ k below. before (suc k) (omega arith))
    ∙ ap (λ b. option_map_or (λ (u : User). u.roles) (cond b (Some e.1) (value_at name_eq es user))
    []) (sym (before 0 (omega arith)))

pub assigned-length : (us : List (Name × User)) → length (assigned_lists us) ≡ length us
assigned-length [] = refl
assigned-length (u ∷ us) = ap suc (assigned-length us)

pub names-length : (us : List (Name × User))
    → length (map (λ (e : Name × User). e.0) us) ≡ length us
names-length [] = refl
names-length (u ∷ us) = ap suc (names-length us)

-- the mask of a user among those of all
pub masks-put : (h : Hierarchy) (us : List (Name × User)) (ms : List Mask) (n : Name) (v : User)
    (m : Mask) → AreBelow h (assigned_lists us) ms → IsBelow h v.roles m
    → AreBelow h (assigned_lists (insert_entry name_eq us n v))
    (option_map_or (λ k. slice_set ms k m)
    (position (name_eq n) (map (λ (e : Name × User). e.0) us)) (ms ++ m ∷ []))
masks-put h [] [] n v m is here = below-cons h v.roles [] m [] here (below-nil h)
masks-put h [] (x ∷ xs) n v m is here = let long = is.long in absurd (omega arith)
masks-put h (e ∷ es) [] n v m is here = let long = is.long in absurd (omega arith)
masks-put h (e ∷ es) (x ∷ xs) n v m is here =
    let names = map (λ (y : Name × User). y.0) es in
    subst (λ o. AreBelow h (assigned_lists (insert_entry name_eq (e ∷ es) n v))
    (option_map_or (λ k. slice_set (x ∷ xs) k m) o (x ∷ (xs ++ m ∷ []))))
    (sym (position-cons (name_eq n) e.0 names))
    (elim (name_eq n e.0) as (λ b. AreBelow h
    (assigned_lists (cond b ((e.0, v) ∷ es) (e ∷ insert_entry name_eq es n v)))
    (option_map_or (λ k. slice_set (x ∷ xs) k m)
    (cond b (Some 0) (option_map suc (position (name_eq n) names))) (x ∷ (xs ++ m ∷ [])))) [
      | true ↦ below-cons h v.roles (assigned_lists es) m xs here
          (below-tail h e.1.roles (assigned_lists es) x xs is)
      | false ↦ later (position (name_eq n) names) (masks-put h es xs n v m
          (below-tail h e.1.roles (assigned_lists es) x xs is) here)
    ])
  where
    later : (o : Option ℕ) → AreBelow h (assigned_lists (insert_entry name_eq es n v))
        (option_map_or (λ k. slice_set xs k m) o (xs ++ m ∷ []))
        → AreBelow h (e.1.roles ∷ assigned_lists (insert_entry name_eq es n v))
        (option_map_or (λ k. slice_set (x ∷ xs) k m) (option_map suc o) (x ∷ (xs ++ m ∷ [])))
    later None rest = below-cons h e.1.roles (assigned_lists (insert_entry name_eq es n v)) x
        (xs ++ m ∷ []) (below-head h e.1.roles (assigned_lists es) x xs is) rest
    later (Some j) rest = below-cons h e.1.roles (assigned_lists (insert_entry name_eq es n v)) x
        (slice_set xs j m) (below-head h e.1.roles (assigned_lists es) x xs is) rest

-- nobody's roles, and one more senior
pub none-below : (h : Hierarchy) (place : ℕ) → false ≡ is_place_below h [] place
none-below h place = never (nat_lt place (length h))
  where
    never : (b : Bool) → false ≡ (b && false)
    never true = refl
    never false = refl

pub senior-more : (h : Hierarchy) (seniors : List Name) (role : Name) (place : ℕ)
    → (is_place_below h seniors place || is_place_under h role place) ≡ is_place_below h
    (seniors ++ role ∷ []) place
senior-more h seniors role place = sym (and_or (nat_lt place (length h))
    (is_below h seniors (name_at h place)) (at_least h role (name_at h place)))
    ∙ ap (λ b. nat_lt place (length h) && b) (last seniors)
  where
    last : (ss : List Name) → (is_below h ss (name_at h place) || at_least h role (name_at h place))
        ≡ is_below h (ss ++ role ∷ []) (name_at h place)
    last [] = sym (or_false (at_least h role (name_at h place)))
    last (s ∷ ss) = sym (or_assoc (at_least h s (name_at h place))
        (is_below h ss (name_at h place)) (at_least h role (name_at h place)))
        ∙ ap (λ b. at_least h s (name_at h place) || b) (last ss)

-- one more pair: a user authorized for its senior is authorized for the junior's roles too
below-with_pair : (h : Hierarchy) (s j : Name) → is_role h s ≡ true → (l : List Name) (b : Name)
    → is_below (with_pair h s j) l b ≡ (is_below h l b || (is_below h l s && at_least h j b))
below-with_pair h s j there [] b = refl
below-with_pair h s j there (x ∷ xs) b =
    (λ t. order-with_pair h s j there x b t || below-with_pair h s j there xs b t)
    ∙ gathered (at_least h x b) (at_least h x s) (is_below h xs b) (is_below h xs s)
    (at_least h j b)
  where
    gathered : (x y z w v : Bool)
        → ((x || (y && v)) || (z || (w && v))) ≡ ((x || z) || ((y || w) && v))
    gathered true y z w v = refl
    gathered false true true w true = refl
    gathered false true false w true = refl
    gathered false true true true false = refl
    gathered false true true false false = refl
    gathered false true false true false = refl
    gathered false true false false false = refl
    gathered false false z w v = refl

pub are-joined : (h : Hierarchy) (s j : Name) (i : ℕ) (lists : List (List Name))
    (old new : List Mask) (m : Mask) → is_role h s ≡ true
    → Some i ≡ position (name_eq s) (role_names h)
    → ((q : ℕ) → has m q ≡ is_place_under h j q) → AreBelow h lists old → length new ≡ length old
    → ((p : ℕ) → p < length old → (q : ℕ) → has (mask_at new p) q
    ≡ (has (mask_at old p) q || (has (mask_at old p) i && has m q)))
    → AreBelow (with_pair h s j) lists new
are-joined h s j i lists old new m there at under are long joined =
    let size : length (with_pair h s j) ≡ length h = length-with_juniors h s _ in
    let names = names-with_juniors h s (immediate_juniors h s ++ j ∷ []) in
    let above = name-found h s i at in
    record {
      long = long ∙ are.long;
      exact = λ p inside q.
          let l = slice_index_or lists p [] in
          let senior : has (mask_at old p) i ≡ is_below h l s = are.exact p inside i
          ∙ ap (λ t. t && is_below h l (name_at h i)) (lt-ltb i (length h) above.0)
          ∙ ap (is_below h l) above.1 in
          joined p (subst (λ n. p < n) (sym are.long) inside) q
          ∙ (λ t. are.exact p inside q t || (senior t && under q t))
          ∙ joined-bits (nat_lt q (length h)) (is_below h l (name_at h q)) (is_below h l s)
          (at_least h j (name_at h q))
          ∙ ap (λ t. nat_lt q (length h) && t) (sym (below-with_pair h s j there l (name_at h q)))
          ∙ (λ t. nat_lt q (sym size t)
          && is_below (with_pair h s j) l (slice_index_or (sym names t) q []));
    }
