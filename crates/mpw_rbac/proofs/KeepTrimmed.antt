-- Changes that leave fewer roles to users and sessions preserve what every policy preserves.
use Rattle.std.proofs.Common.{[], ◌≡◌, ℕ, Bool, true, false, cond, not, ◌||◌, List, ◌∷◌, ◌++◌, map, filter, Option, refl, sym, ap, ◌∙◌, true≢false}
use Rattle.std.specs.Prelude.{nat_lt}
use Rattle.std.specs.List.{list_any, list_all}
use Rattle.std.specs.Option.{option_map_or}
use Rattle.mpw_geom.specs.Names.{name_eq, contains_name, without_name}
use Rattle.mpw_roles.specs.Hierarchy.{Name, Hierarchy, is_role, is_immediate, immediate_juniors, without_role, with_pair, without_pair}
use Rattle.mpw_roles.proofs.CallerLemmas.{contains-filter, contains-without, roles_below-grows, pairs-without_role, names-without_role, roles-left, pairs-without_pair, pairs-with_pair, names-with_juniors, first_role}
use Rattle.mpw_separation.specs.Separation.{breaks, is_broken, has_role, uses_role}
use Rattle.mpw_separation.specs.Set.{SeparationSet}
use Rattle.mpw_permissions.specs.declared.permission.Grant.{Grant}
use Rattle.mpw_rbac.specs.declared.session.User.{User}
use Rattle.mpw_rbac.specs.declared.session.Session.{Session}
use Rattle.mpw_rbac.specs.Laws.{IsPart}
use Rattle.mpw_rbac.specs.Policy.{Policy, is_user, authorized, assigned_roles, assigned_lists, active_lists, kept_roles, trim}
use Rattle.mpw_rbac.specs.Rows as rows
use Rattle.mpw_rbac.specs.Sound.{is_authorized_session, active_authorized, sets_hold, is_proper, Sound}
use Rattle.mpw_rbac.specs.Table.{value_at, with_value, without_key}
use Rattle.mpw_rbac.proofs.SeparationLemmas.{both, parts, breaks-more, holds-less, proper-more, any-map, any-more, any-filter, all-filter_self}
use Rattle.mpw_rbac.proofs.SoundLemmas.{sound-grows}
use Rattle.mpw_rbac.proofs.TableLemmas.{any-changed}

abbrev pub roles_of : Name × User → List Name
roles_of e = e.1.roles

abbrev pub active_of : ℕ × Session → List Name
active_of e = e.1.active

-- a set that somebody's roles break, before and after
pub users-less : (h k : Hierarchy) (set : SeparationSet) (f : Name × User → List Name)
    (us vs : List (Name × User))
    → (list_any (λ e. breaks h (f e) set) us ≡ true
    → list_any (λ e. breaks k (roles_of e) set) vs ≡ true) → is_broken h (map f us) set ≡ true
    → is_broken k (map roles_of vs) set ≡ true
users-less h k set f us vs less is =
    any-map roles_of (λ l. breaks k l set) vs ∙ less (sym (any-map f (λ l. breaks h l set) us) ∙ is)

pub sessions-less : (h k : Hierarchy) (set : SeparationSet) (es ds : List (ℕ × Session))
    → (list_any (λ e. breaks h (active_of e) set) es ≡ true
    → list_any (λ e. breaks k (active_of e) set) ds ≡ true)
    → is_broken h (map active_of es) set ≡ true → is_broken k (map active_of ds) set ≡ true
sessions-less h k set es ds less is = any-map active_of (λ l. breaks k l set) ds
    ∙ less (sym (any-map active_of (λ l. breaks h l set) es) ∙ is)

-- after a trim every active role is authorized
pub trim-authorized : (q : Policy) → active_authorized (trim q) ≡ true
trim-authorized q = by q.sessions
  where
    by : (es : List (ℕ × Session)) → list_all (λ (e : ℕ × Session). is_authorized_session q e.1)
        (map (λ (e : ℕ × Session). (e.0, kept_roles q e.1))
        (filter (λ (e : ℕ × Session). is_user q e.1.user) es)) ≡ true
    by [] = refl
    by (e ∷ es) = elim (is_user q e.1.user) as (λ b. is_user q e.1.user ≡ b
        → list_all (λ (x : ℕ × Session). is_authorized_session q x.1)
        (map (λ (x : ℕ × Session). (x.0, kept_roles q x.1))
        (cond b (e ∷ filter (λ (x : ℕ × Session). is_user q x.1.user) es)
        (filter (λ (x : ℕ × Session). is_user q x.1.user) es))) ≡ true) [
          | true ↦ λ is. both (is_authorized_session q (kept_roles q e.1)) _
              (both (is_user q e.1.user) _ is
              (all-filter_self (contains_name (authorized q e.1.user)) e.1.active)) (by es)
          | false ↦ λ _. by es
        ] refl

filter-part : (p : Name → Bool) (xs : List Name) → IsPart (filter p xs) xs
filter-part p xs r is = (parts (contains_name xs r) (p r) (sym (contains-filter p xs r) ∙ is)).0

-- and no session has more roles
trim-less : (q : Policy) (test : List Name → Bool)
    → ((few many : List Name) → IsPart few many → test few ≡ true → test many ≡ true)
    → (es : List (ℕ × Session))
    → list_any (λ e. test (active_of e))
    (map (λ (e : ℕ × Session). (e.0, kept_roles q e.1))
    (filter (λ (e : ℕ × Session). is_user q e.1.user) es)) ≡ true
    → list_any (λ e. test (active_of e)) es ≡ true
trim-less q test more es is =
    let kept = filter (λ (e : ℕ × Session). is_user q e.1.user) es in
    let a : list_any (λ (e : ℕ × Session). test (kept_roles q e.1).active) kept ≡ true =
    sym (any-map (λ (e : ℕ × Session). (e.0, kept_roles q e.1)) (λ e. test (active_of e)) kept)
    ∙ is in
    let b : list_any (λ (e : ℕ × Session). test (kept_roles q e.1).active) es ≡ true =
    any-filter (λ (e : ℕ × Session). test (kept_roles q e.1).active)
    (λ (e : ℕ × Session). is_user q e.1.user) es a in
    any-more (λ (e : ℕ × Session). test (kept_roles q e.1).active) (λ e. test (active_of e))
    (λ e t. more (kept_roles q e.1).active e.1.active
    (filter-part (contains_name (authorized q e.1.user)) e.1.active) t) es b

abbrev Pairs : Hierarchy → Hierarchy → Type 0
Pairs h k = (a b : Name) → is_immediate h a b ≡ true → is_immediate k a b ≡ true

abbrev Roles : Hierarchy → Hierarchy → Type 0
Roles h k = (r : Name) → is_role h r ≡ true → is_role k r ≡ true

-- fewer users, roles, pairs and assignments, and a trim
keep-trim : (p : Policy) (users : List (Name × User)) (h : Hierarchy) (granted : List Grant)
    → Pairs h p.roles → Roles h p.roles
    → ((set : SeparationSet) → is_broken h (map roles_of users) set ≡ true
    → is_broken p.roles (assigned_lists p.users) set ≡ true)
    → list_all (is_proper h) p.ssd ≡ true → list_all (is_proper h) p.dsd ≡ true
    → Sound p → Sound (trim (record p { users = users; roles = h; granted = granted }))
keep-trim p users h granted pairs roles less ssd_proper dsd_proper s =
    let q : Policy = record p { users = users; roles = h; granted = granted } in
    record {
      sessions = trim-authorized q;
      static =
          holds-less h p.roles (map roles_of users) (assigned_lists p.users) less p.ssd s.static;
      dynamic = holds-less h p.roles (active_lists (trim q).sessions) (active_lists p.sessions)
          (λ set. sessions-less h p.roles set (trim q).sessions p.sessions (λ is.
          any-more (λ e. breaks h (active_of e) set) (λ e. breaks p.roles (active_of e) set)
          (λ e t. breaks-more h p.roles e.1.active e.1.active set pairs roles (λ r there. there)
          t) p.sessions
          (trim-less q (λ l. breaks h l set)
          (λ few many part t. breaks-more h h few many set (λ a b is. is) (λ r is. is) part t)
          p.sessions is)))
          p.dsd s.dynamic;
      static_proper = ssd_proper;
      dynamic_proper = dsd_proper;
    }

pub keep-deluser : (p : Policy) (user : Name) → Sound p
    → Sound (trim (record p { users = without_key name_eq p.users user }))
keep-deluser p user s =
    keep-trim p (without_key name_eq p.users user) p.roles p.granted (λ a b is. is) (λ r is. is)
    (λ set. users-less p.roles p.roles set roles_of (without_key name_eq p.users user) p.users
    (any-filter (λ e. breaks p.roles (roles_of e) set)
    (λ (e : Name × User). not (name_eq user e.0)) p.users))
    s.static_proper s.dynamic_proper s

pub without-part : (xs : List Name) (r : Name) → IsPart (without_name xs r) xs
without-part xs r q is = (contains-without xs r q is).0

pub apart : (a b : Bool) → (a || b) ≡ false → (a ≡ false) × (b ≡ false)
apart true b e = absurd (true≢false e)
apart false b e = (refl, e)

left-roles : (h : Hierarchy) (role : Name) (xs : List Name) → contains_name xs role ≡ false
    → list_all (is_role h) xs ≡ true → list_all (is_role (without_role h role)) xs ≡ true
left-roles h role [] none all = refl
left-roles h role (x ∷ xs) none all =
    let t = parts (is_role h x) (list_all (is_role h) xs) all in
    let n = apart (name_eq role x) (contains_name xs role) none in
    both (is_role (without_role h role) x) _ (roles-left h role x t.0 n.0)
    (left-roles h role xs n.1 t.1)

left-proper : (h : Hierarchy) (role : Name) (sets : List SeparationSet)
    → uses_role sets role ≡ false → list_all (is_proper h) sets ≡ true
    → list_all (is_proper (without_role h role)) sets ≡ true
left-proper h role [] none all = refl
left-proper h role (x ∷ xs) none all =
    let t = parts (is_proper h x) (list_all (is_proper h) xs) all in
    let n = apart (has_role role x) (uses_role xs role) none in
    let is = parts (nat_lt 0 x.cardinality) (list_all (is_role h) x.roles) t.0 in
    both (is_proper (without_role h role) x) _
    (both (nat_lt 0 x.cardinality) _ is.0 (left-roles h role x.roles n.0 is.1))
    (left-proper h role xs n.1 t.1)

pub keep-delrole : (p : Policy) (role : Name) → uses_role p.ssd role ≡ false
    → uses_role p.dsd role ≡ false → Sound p → Sound (trim (rows.without_role_of p role))
keep-delrole p role no_ssd no_dsd s =
    let h = without_role p.roles role in
    let f : Name × User → Name × User =
    λ e. (e.0, record e.1 { roles = without_name e.1.roles role }) in
    let fewer : Roles h p.roles = λ r is. (contains-without
    (map (λ (e : Name × List Name). e.0) p.roles) role r
    (ap (λ l. contains_name l r) (sym (names-without_role p.roles role)) ∙ is)).0 in
    keep-trim p (map f p.users) h (filter (λ (g : Grant). not (name_eq role g.role)) p.granted)
    (pairs-without_role p.roles role) fewer
    (λ set is.
    users-less h p.roles set (λ e. roles_of (f e)) p.users p.users
    (any-more (λ e. breaks h (roles_of (f e)) set) (λ e. breaks p.roles (roles_of e) set)
    (λ e t. breaks-more h p.roles (without_name e.1.roles role) e.1.roles set
    (pairs-without_role p.roles role) fewer (without-part e.1.roles role) t) p.users)
    (any-map (λ e. roles_of (f e)) (λ l. breaks h l set) p.users
    ∙ sym (any-map f (λ e. breaks h (roles_of e) set) p.users)
    ∙ sym (any-map roles_of (λ l. breaks h l set) (map f p.users)) ∙ is))
    (left-proper p.roles role p.ssd no_ssd s.static_proper)
    (left-proper p.roles role p.dsd no_dsd s.dynamic_proper) s

-- one user has fewer roles
pub keep-deassign : (p : Policy) (user role : Name) → Sound p
    → Sound (trim (rows.with_assigned p user (without_name (assigned_roles p user) role)))
keep-deassign p user role s =
    let fewer : Option User → User = λ o. record {
      digest = rows.digest_of_user p user;
      roles = without_name (option_map_or (λ (u : User). u.roles) o []) role;
    } in
    let us = with_value name_eq p.users user (fewer (value_at name_eq p.users user)) in
    keep-trim p us p.roles p.granted (λ a b is. is) (λ r is. is)
    (λ set. users-less p.roles p.roles set roles_of us p.users
    (any-changed name_eq fewer (λ u. breaks p.roles u.roles set)
    (λ u t. breaks-more p.roles p.roles (without_name u.roles role) u.roles set (λ a b is. is)
    (λ r is. is) (without-part u.roles role) t) user p.users))
    s.static_proper s.dynamic_proper s

pub keep-uninherit : (p : Policy) (senior junior : Name) → is_immediate p.roles senior junior ≡ true
    → Sound p → Sound (trim (record p { roles = without_pair p.roles senior junior }))
keep-uninherit p senior junior there s =
    let h = without_pair p.roles senior junior in
    let names = names-with_juniors p.roles senior
    (without_name (immediate_juniors p.roles senior) junior) in
    let known = first_role p.roles senior junior there in
    let fewer = pairs-without_pair p.roles senior junior known in
    let less_roles : Roles h p.roles = λ r is. ap (λ l. contains_name l r) (sym names) ∙ is in
    let more_roles : Roles p.roles h = λ r is. ap (λ l. contains_name l r) names ∙ is in
    keep-trim p p.users h p.granted fewer less_roles
    (λ set. users-less h p.roles set roles_of p.users p.users
    (any-more (λ e. breaks h (roles_of e) set) (λ e. breaks p.roles (roles_of e) set)
    (λ e t. breaks-more h p.roles e.1.roles e.1.roles set fewer less_roles (λ r is. is) t)
    p.users))
    (proper-more p.roles h more_roles p.ssd s.static_proper)
    (proper-more p.roles h more_roles p.dsd s.dynamic_proper) s

pub authorized-inherit : (p : Policy) (senior junior : Name) → is_role p.roles senior ≡ true
    → active_authorized p ≡ true → active_authorized
    (record p { roles = with_pair p.roles senior junior }) ≡ true
authorized-inherit p senior junior known sound =
    let h = with_pair p.roles senior junior in
    let names =
    names-with_juniors p.roles senior (immediate_juniors p.roles senior ++ junior ∷ []) in
    sound-grows p (record p { roles = h }) refl (λ u is. is)
    (λ u r there. roles_below-grows p.roles h (assigned_roles p u) (assigned_roles p u)
    (pairs-with_pair p.roles senior junior known) (λ q is. ap (λ l. contains_name l q) names
    ∙ is) (λ q is. is) r there)
    sound

pub keep-inherit : (p : Policy) (senior junior : Name) → is_role p.roles senior ≡ true
    → sets_hold (with_pair p.roles senior junior) p.ssd (assigned_lists p.users) ≡ true
    → sets_hold (with_pair p.roles senior junior) p.dsd (active_lists p.sessions) ≡ true
    → Sound p → Sound (record p { roles = with_pair p.roles senior junior })
keep-inherit p senior junior known static dynamic s =
    let h = with_pair p.roles senior junior in
    let names =
    names-with_juniors p.roles senior (immediate_juniors p.roles senior ++ junior ∷ []) in
    let more : Roles p.roles h = λ r is. ap (λ l. contains_name l r) names ∙ is in
    record {
      sessions = authorized-inherit p senior junior known s.sessions;
      static = static;
      dynamic = dynamic;
      static_proper = proper-more p.roles h more p.ssd s.static_proper;
      dynamic_proper = proper-more p.roles h more p.dsd s.dynamic_proper;
    }
