-- What soundness means for one user and for one session.
use Rattle.std.proofs.Common.{◌≡◌, ℕ, Bool, true, false, cond, not, ◌||◌, ◌==◌, List, [], ◌∷◌, Some, refl, sym, ap, ◌∙◌, true≢false}
use Rattle.std.specs.Prelude.{nat_lt, count_by}
use Rattle.std.specs.List.{list_any, list_all}
use Rattle.std.specs.Option.{option_map_or}
use Rattle.std.proofs.lemmas.Bool.{leb-false}
use borrow.Author.Tests.{lt-ltb}
use Rattle.mpw_geom.specs.Names.{name_eq, contains_name}
use Rattle.mpw_roles.specs.Hierarchy.{Name, Hierarchy}
use Rattle.mpw_roles.specs.Order.{roles_below}
use Rattle.mpw_separation.specs.Separation.{breaks, is_broken}
use Rattle.mpw_separation.specs.Set.{SeparationSet}
use Rattle.mpw_rbac.specs.Policy.{Policy, is_user, authorized, acting, assigned_roles, session_of, assigned_lists, active_lists}
use Rattle.mpw_rbac.specs.Sound.{Sound}
use Rattle.mpw_rbac.specs.Table.{has_key, value_at}
use Rattle.mpw_rbac.specs.declared.session.Session.{Session}
use Rattle.mpw_rbac.specs.declared.session.User.{User}
use Rattle.mpw_rbac.proofs.SeparationLemmas.{all_imply, any-map, not_true}

apart : (a b : Bool) → (a || b) ≡ false → (a ≡ false) × (b ≡ false)
apart true b e = absurd (true≢false e)
apart false b e = (refl, e)

-- if no entry of a table passes, its entry at a key doesn't
entry-fails : {K V : Type 0} (eq : K → K → Bool) (test : V → Bool) (es : List (K × V)) (k : K)
    (v : V) → list_any (λ (e : K × V). test e.1) es ≡ false → value_at eq es k ≡ Some v
    → test v ≡ false
entry-fails eq test [] k v none at = cc
entry-fails eq test (e ∷ es) k v none at =
    let n = apart (test e.1) (list_any (λ x. test x.1) es) none in
    elim (eq k e.0) as (λ b. cond b (Some e.1) (value_at eq es k) ≡ Some v → test v ≡ false) [
      | true ↦ λ here. let same : e.1 ≡ v = cc in ap test (sym same) ∙ n.0
      | false ↦ λ later. entry-fails eq test es k v n.1 later
    ] at

fewer : (h : Hierarchy) (seniors : List Name) (set : SeparationSet) → breaks h seniors set ≡ false
    → nat_lt (count_by (contains_name (roles_below h seniors)) set.roles) set.cardinality ≡ true
fewer h seniors set unbroken = lt-ltb _ _
    (leb-false set.cardinality (count_by (contains_name (roles_below h seniors)) set.roles)
    unbroken)

some-value : (us : List (Name × User)) (user : Name) → has_key name_eq us user ≡ true
    → (u : User) × (value_at name_eq us user ≡ Some u)
some-value [] user there = absurd (true≢false (sym there))
some-value (e ∷ es) user there =
    elim (name_eq user e.0) as (λ b. (b || has_key name_eq es user) ≡ true
    → (u : User) × (cond b (Some e.1) (value_at name_eq es user) ≡ Some u)) [
      | true ↦ λ _. (e.1, refl)
      | false ↦ λ later. some-value es user later
    ] there

pub static-apart : (p : Policy) → Sound p → (user : Name) → is_user p user ≡ true
    → list_all (λ (set : SeparationSet).
    nat_lt (count_by (contains_name (authorized p user)) set.roles) set.cardinality) p.ssd ≡ true
static-apart p s user known =
    let found = some-value p.users user known in
    let roles : found.0.roles ≡ assigned_roles p user =
    sym (ap (λ o. option_map_or (λ (u : User). u.roles) o []) found.1) in
    all_imply (λ (set : SeparationSet). not (is_broken p.roles (assigned_lists p.users) set))
    (λ (set : SeparationSet). nat_lt (count_by (contains_name (authorized p user)) set.roles)
    set.cardinality)
    (λ set holds.
    let unbroken = sym (any-map (λ (e : Name × User). e.1.roles) (λ l. breaks p.roles l set)
    p.users) ∙ not_true (is_broken p.roles (assigned_lists p.users) set) holds in
    fewer p.roles (assigned_roles p user) set (ap (λ l. breaks p.roles l set) (sym roles)
    ∙ entry-fails name_eq (λ (u : User). breaks p.roles u.roles set) p.users user found.0
    unbroken found.1))
    p.ssd s.static

pub dynamic-apart : (p : Policy) → Sound p → (connection : ℕ) (session : Session)
    → session_of p connection ≡ Some session
    → list_all (λ (set : SeparationSet).
    nat_lt (count_by (contains_name (acting p session)) set.roles) set.cardinality) p.dsd ≡ true
dynamic-apart p s connection session at =
    all_imply (λ (set : SeparationSet). not (is_broken p.roles (active_lists p.sessions) set))
    (λ (set : SeparationSet). nat_lt (count_by (contains_name (acting p session)) set.roles)
    set.cardinality)
    (λ set holds.
    let unbroken = sym (any-map (λ (e : ℕ × Session). e.1.active) (λ l. breaks p.roles l set)
    p.sessions) ∙ not_true (is_broken p.roles (active_lists p.sessions) set) holds in
    fewer p.roles session.active set (entry-fails (λ a b. a == b)
    (λ (x : Session). breaks p.roles x.active set) p.sessions connection session unbroken at))
    p.dsd s.dynamic
