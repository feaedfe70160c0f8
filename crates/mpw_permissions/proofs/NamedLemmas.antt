-- Each grant is to a role, whatever grants and roles are added and removed.
use Rattle.std.proofs.Common.{◌≡◌, Bool, true, false, cond, not, ◌||◌, ◌&&◌, List, [], ◌∷◌, ◌++◌, filter, refl, sym, ap, ◌∙◌, true≢false}
use Rattle.std.specs.List.{list_any}
use Rattle.mpw_geom.specs.Names.{name_eq, contains_name, without_name}
use Rattle.mpw_roles.specs.Hierarchy.{Name}
use Rattle.mpw_roles.specs.Order.{are_distinct}
use Rattle.mpw_roles.proofs.CallerLemmas.{contains-filter, name_eq-refl, same_name, or_right}
use Rattle.mpw_roles.proofs.RoleLemmas.{contains-append}
use Rattle.mpw_permissions.specs.Grant.{operation_eq, object_eq, grant_eq, ungranted}
use Rattle.mpw_permissions.specs.Internal.Holders.{are_to_roles, grants_after}
use Rattle.mpw_permissions.specs.declared.permission.Grant.{Grant}
use Rattle.mpw_roles.proofs.BoolLemmas.{refuted, and_both as both, and_parts as parts}

-- one more grant
named-more : (roles : List Name) (granted : List Grant) (g : Grant)
    → are_to_roles roles granted ≡ true → contains_name roles g.role ≡ true
    → are_to_roles roles (granted ++ g ∷ []) ≡ true
named-more roles [] g all one = both (contains_name roles g.role) true one refl
named-more roles (x ∷ xs) g all one =
    let p = parts (contains_name roles x.role) (are_to_roles roles xs) all in
    both (contains_name roles x.role) _ p.0 (named-more roles xs g p.1 one)

-- fewer grants
named-fewer : (roles : List Name) (k : Grant → Bool) (granted : List Grant)
    → are_to_roles roles granted ≡ true → are_to_roles roles (filter k granted) ≡ true
named-fewer roles k [] all = refl
named-fewer roles k (x ∷ xs) all =
    let p = parts (contains_name roles x.role) (are_to_roles roles xs) all in
    elim (k x) as (λ b. are_to_roles roles (cond b (x ∷ filter k xs) (filter k xs)) ≡ true) [
      | true ↦ both (contains_name roles x.role) _ p.0 (named-fewer roles k xs p.1)
      | false ↦ named-fewer roles k xs p.1
    ]

-- one grant more or less
pub named-after : (more : Bool) (roles : List Name) (granted : List Grant) (g : Grant)
    → are_to_roles roles granted ≡ true → (more ≡ true → contains_name roles g.role ≡ true)
    → are_to_roles roles (grants_after more granted g) ≡ true
named-after true roles granted g all one = named-more roles granted g all (one refl)
named-after false roles granted g all _ =
    named-fewer roles (λ other. not (grant_eq g other)) granted all

-- one more role
pub named-role : (roles : List Name) (r : Name) (granted : List Grant)
    → are_to_roles roles granted ≡ true → are_to_roles (roles ++ r ∷ []) granted ≡ true
named-role roles r [] all = refl
named-role roles r (x ∷ xs) all =
    let p = parts (contains_name roles x.role) (are_to_roles roles xs) all in
    both (contains_name (roles ++ r ∷ []) x.role) _
    (contains-append roles (r ∷ []) x.role
    ∙ ap (λ b. b || contains_name (r ∷ []) x.role) p.0)
    (named-role roles r xs p.1)

-- one role fewer, and the grants to it
pub named-left : (roles : List Name) (r : Name) (granted : List Grant)
    → are_to_roles roles granted ≡ true
    → are_to_roles (without_name roles r) (ungranted granted r) ≡ true
named-left roles r [] all = refl
named-left roles r (x ∷ xs) all =
    let p = parts (contains_name roles x.role) (are_to_roles roles xs) all in
    elim (name_eq r x.role) as (λ b. name_eq r x.role ≡ b
    → are_to_roles (without_name roles r) (cond (not b) (x ∷ ungranted xs r) (ungranted xs r))
    ≡ true) [
      | true ↦ λ _. named-left roles r xs p.1
      | false ↦ λ other. both (contains_name (without_name roles r) x.role) _
          (contains-filter (λ n. not (name_eq r n)) roles x.role
          ∙ both (contains_name roles x.role) (not (name_eq r x.role)) p.0 (ap not other))
          (named-left roles r xs p.1)
    ] refl

-- a name that is no role has no grant
pub named-none : (roles : List Name) (r : Name) (granted : List Grant)
    → contains_name roles r ≡ false → are_to_roles roles granted ≡ true
    → list_any (λ (g : Grant). name_eq r g.role) granted ≡ false
named-none roles r [] none all = refl
named-none roles r (x ∷ xs) none all =
    let p = parts (contains_name roles x.role) (are_to_roles roles xs) all in
    ap (λ b. b || list_any (λ (g : Grant). name_eq r g.role) xs)
    (refuted (name_eq r x.role) (λ is. true≢false (sym p.0
    ∙ ap (contains_name roles) (sym (same_name r x.role is)) ∙ none)))
    ∙ named-none roles r xs none p.1

pub none-granted : (roles : List Name) (granted : List Grant) (g : Grant)
    → contains_name roles g.role ≡ false → are_to_roles roles granted ≡ true
    → list_any (grant_eq g) granted ≡ false
none-granted roles [] g none all = refl
none-granted roles (x ∷ xs) g none all =
    let p = parts (contains_name roles x.role) (are_to_roles roles xs) all in
    ap (λ b. b || list_any (grant_eq g) xs)
    (refuted (grant_eq g x) (λ is.
    let f = parts (operation_eq g.operation x.operation) (object_eq g.object x.object
    && name_eq g.role x.role) is in
    let s = parts (object_eq g.object x.object) (name_eq g.role x.role) f.1 in
    true≢false (sym p.0 ∙ ap (contains_name roles) (sym (same_name g.role x.role s.1)) ∙ none)))
    ∙ none-granted roles xs g none p.1

-- the last of distinct names is none of the others
pub distinct-last : (names : List Name) (r : Name) → are_distinct (names ++ r ∷ []) ≡ true
    → contains_name names r ≡ false
distinct-last [] r once = refl
distinct-last (x ∷ xs) r once =
    let p = parts (not (contains_name (xs ++ r ∷ []) x)) (are_distinct (xs ++ r ∷ [])) once in
    ap (λ b. b || contains_name xs r)
    (refuted (name_eq r x) (λ is.
    let there : contains_name (xs ++ r ∷ []) x ≡ true =
    contains-append xs (r ∷ []) x ∙ or_right (contains_name xs x) (contains_name (r ∷ []) x)
    (ap (λ b. b || false) (ap (λ n. name_eq n r) (sym (same_name r x is)) ∙ name_eq-refl r)) in
    true≢false (sym p.0 ∙ ap not there)))
    ∙ distinct-last xs r p.1
