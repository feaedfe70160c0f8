-- Holders one by one: the users' assigned roles, and the sessions' active ones.
use Rattle.std.proofs.Common.{◌≡◌, ℕ, zero, suc, ◌+◌, ◌≤◌, Bool, true, false, cond, not, ◌||◌, List, [], ◌∷◌, ◌++◌, length, take, map, filter, Option, None, Some, refl, sym, ap, subst, ◌∙◌, true≢false, add-one}
use Rattle.std.specs.Prelude.{slice_get}
use Rattle.std.specs.List.{list_any, list_all}
use Rattle.std.proofs.lemmas.List.{take_all}
use Rattle.mpw_roles.specs.Hierarchy.{Name, Hierarchy}
use Rattle.mpw_roles.proofs.CallerLemmas.{or_right}
use Rattle.mpw_geom.specs.Least.{least_name, lesser, IsLeast}
use Rattle.mpw_separation.specs.Separation.{breaks, is_broken, set_names, broken_names, least_broken}
use Rattle.mpw_separation.specs.Set.{SeparationSet}
use Rattle.mpw_separation.proofs.BrokenLemmas.{broken-last, least-holder, least-end}
use Rattle.mpw_rbac.specs.Sound.{sets_hold}
use Rattle.mpw_rbac.specs.Table.{has_key, with_value}
use Rattle.mpw_rbac.proofs.SeparationLemmas.{not_true, parts, any-map}

module _ {E : Type 0} (f : E → List Name) where
  -- one more holder
  pub take-entry : (es : List E) (i : ℕ) (e : E) → slice_get es i ≡ Some e
      → map f (take (i + 1) es) ≡ map f (take i es) ++ f e ∷ []
  take-entry [] i e at = cc
  take-entry (x ∷ xs) zero e at = let same : x ≡ e = cc in ap (λ y. f y ∷ []) same
  take-entry (x ∷ xs) (suc i) e at = let rest = take-entry xs i e at in
      rw add-one (ap (λ l. f x ∷ l) (rw add-one at rest))

  pub least-entry : (h : Hierarchy) (sets : List SeparationSet) (es : List E) (i : ℕ) (e : E)
      (o : Option Name) → slice_get es i ≡ Some e
      → IsLeast (broken_names h sets (map f (take i es))) o
      → IsLeast (broken_names h sets (map f (take (i + 1) es)))
      (lesser o (least_broken h sets (f e ∷ [])))
  least-entry h sets es i e o at least =
      subst (λ holders. IsLeast (broken_names h sets holders)
      (lesser o (least_broken h sets (f e ∷ [])))) (sym (take-entry es i e at))
      (least-holder h sets (map f (take i es)) (f e) o least)

  pub least-all : (h : Hierarchy) (sets : List SeparationSet) (es : List E) (i : ℕ)
      (o : Option Name) → length es ≤ i → IsLeast (broken_names h sets (map f (take i es))) o
      → o ≡ least_broken h sets (map f es)
  least-all h sets es i o end least =
      let all = take_all i es end in
      least-end (broken_names h sets (map f es)) o
      (subst (λ l. IsLeast (broken_names h sets (map f l)) o) all least)

  -- nobody so far breaks the set, nor does the next
  pub unbroken-entry : (h : Hierarchy) (set : SeparationSet) (es : List E) (i : ℕ) (e : E)
      → slice_get es i ≡ Some e → is_broken h (map f (take i es)) set ≡ false
      → breaks h (f e) set ≡ false
      → is_broken h (map f (take (i + 1) es)) set ≡ false
  unbroken-entry h set es i e at before here =
      ap (λ l. is_broken h l set) (take-entry es i e at)
      ∙ broken-last h (map f (take i es)) (f e) set ∙ (λ j. before j || here j)

  -- one holder who breaks it is enough
  pub broken-entry : (h : Hierarchy) (set : SeparationSet) (es : List E) (i : ℕ) (e : E)
      → slice_get es i ≡ Some e → breaks h (f e) set ≡ true → is_broken h (map f es) set ≡ true
  broken-entry h set [] i e at here = cc
  broken-entry h set (x ∷ xs) zero e at here = let same : x ≡ e = cc in
      ap (λ b. b || is_broken h (map f xs) set) (ap (λ y. breaks h (f y) set) same ∙ here)
  broken-entry h set (x ∷ xs) (suc i) e at here = or_right (breaks h (f x) set)
      (is_broken h (map f xs) set) (broken-entry h set xs i e at here)

filter-where : {X : Type 0} (p q there : X → Bool) → ((x : X) → there x ≡ true → p x ≡ q x)
    → (xs : List X) → list_all there xs ≡ true → filter p xs ≡ filter q xs
filter-where p q there same [] all = refl
filter-where p q there same (x ∷ xs) all =
    let s = parts (there x) (list_all there xs) all in
    λ i. cond (same x s.0 i) (x ∷ filter-where p q there same xs s.1 i)
    (filter-where p q there same xs s.1 i)

-- if the others break no set, only the one that changes can
module _ {K V : Type 0} (eq : K → K → Bool) (f : V → List Name) where
  any-changed : (test : V → Bool) (es : List (K × V)) (k : K) (v : V) → has_key eq es k ≡ true
      → list_any (λ (e : K × V). test e.1) es ≡ false
      → list_any (λ (e : K × V). test e.1) (with_value eq es k v) ≡ (test v || false)
  any-changed test [] k v there none = absurd (true≢false (sym there))
  any-changed test (e ∷ es) k v there none =
      let n = apart (test e.1) (list_any (λ (x : K × V). test x.1) es) none in
      elim (eq k e.0) as (λ b. (b || has_key eq es k) ≡ true
      → list_any (λ (x : K × V). test x.1) (cond b ((e.0, v) ∷ es) (e ∷ with_value eq es k v))
      ≡ (test v || false)) [
        | true ↦ λ _. ap (λ b. test v || b) n.1
        | false ↦ λ later. ap (λ b. b || list_any (λ (x : K × V). test x.1) (with_value eq es k v))
            n.0 ∙ any-changed test es k v later n.1
      ] there
    where
      apart : (a b : Bool) → (a || b) ≡ false → (a ≡ false) × (b ≡ false)
      apart true b e = absurd (true≢false e)
      apart false b e = (refl, e)

  pub least-changed : (h : Hierarchy) (sets : List SeparationSet) (es : List (K × V)) (k : K)
      (v : V) → has_key eq es k ≡ true → sets_hold h sets (map (λ (e : K × V). f e.1) es) ≡ true
      → least_broken h sets (map (λ (e : K × V). f e.1) (with_value eq es k v)) ≡ least_broken h
      sets (f v ∷ [])
  least-changed h sets es k v there holds =
      ap (λ l. least_name (set_names l))
      (filter-where (is_broken h (map (λ (e : K × V). f e.1) (with_value eq es k v)))
      (is_broken h (f v ∷ [])) (λ set. not (is_broken h (map (λ (e : K × V). f e.1) es) set))
      (λ set apart.
      any-map (λ (e : K × V). f e.1) (λ l. breaks h l set) (with_value eq es k v)
      ∙ any-changed (λ u. breaks h (f u) set) es k v there
      (sym (any-map (λ (e : K × V). f e.1) (λ l. breaks h l set) es)
      ∙ not_true (is_broken h (map (λ (e : K × V). f e.1) es) set) apart))
      sets holds)

-- if the other sets hold, only the new one can be broken
none-broken : (p : SeparationSet → Bool) (sets : List SeparationSet)
    → list_all (λ set. not (p set)) sets ≡ true → filter p sets ≡ []
none-broken p [] holds = refl
none-broken p (x ∷ xs) holds =
    let s = parts (not (p x)) (list_all (λ set. not (p set)) xs) holds in
    ap (λ b. cond b (x ∷ filter p xs) (filter p xs)) (not_true (p x) s.0) ∙ none-broken p xs s.1

filter-last : (p : SeparationSet → Bool) (sets : List SeparationSet) (set : SeparationSet)
    → filter p (sets ++ set ∷ []) ≡ filter p sets ++ cond (p set) (set ∷ []) []
filter-last p [] set = refl
filter-last p (x ∷ xs) set = elim (p x) as
    (λ b. cond b (x ∷ filter p (xs ++ set ∷ [])) (filter p (xs ++ set ∷ []))
    ≡ cond b (x ∷ filter p xs) (filter p xs) ++ cond (p set) (set ∷ []) []) [
      | true ↦ ap (λ l. x ∷ l) (filter-last p xs set)
      | false ↦ filter-last p xs set
    ]

pub least-new : (h : Hierarchy) (sets : List SeparationSet) (set : SeparationSet)
    (holders : List (List Name)) → sets_hold h sets holders ≡ true
    → least_broken h (sets ++ set ∷ []) holders ≡ cond (is_broken h holders set) (Some set.name)
    None
least-new h sets set holders holds =
    ap (λ l. least_name (set_names l)) (filter-last (is_broken h holders) sets set
    ∙ ap (λ l. l ++ cond (is_broken h holders set) (set ∷ []) [])
    (none-broken (is_broken h holders) sets holds))
    ∙ elim (is_broken h holders set) as
    (λ b. least_name (set_names (cond b (set ∷ []) [])) ≡ cond b (Some set.name) None)
    [ true ↦ refl | false ↦ refl ]

-- nobody breaks a set
pub least-nobody : (h : Hierarchy) (sets : List SeparationSet)
    → IsLeast (broken_names h sets []) None
least-nobody h [] = λ m. refl
least-nobody h (x ∷ xs) = least-nobody h xs
