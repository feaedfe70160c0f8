-- The tables of a policy name users and roles that exist, and stay within their limits.
use Rattle.std.proofs.Common.{[], ◌≡◌, ◌≤◌, ℕ, Bool, true, false, cond, not, Some, List, ◌∷◌, ◌++◌, map, filter, length, refl, sym, ap, ◌∙◌, arith}
use Rattle.std.specs.Prelude.{nat_lt}
use Rattle.std.specs.List.{list_all}
use Rattle.std.specs.Option.{option_map_or}
use Rattle.std.proofs.lemmas.Bool.{ltb-true}
use Rattle.std.proofs.lemmas.List.{length-append, length-map}
use Rattle.mpw_geom.specs.Links.{linked}
use Rattle.mpw_geom.specs.Names.{name_eq, contains_name, without_name}
use Rattle.mpw_roles.specs.Hierarchy.{Name, Hierarchy, is_role, with_juniors, without_role, entries_without}
use Rattle.mpw_roles.proofs.CallerLemmas.{names-with_juniors, roles-left, contains-roles_below}
use Rattle.mpw_separation.specs.Set.{SeparationSet}
use Rattle.mpw_permissions.specs.Grant.{ungranted}
use Rattle.mpw_permissions.specs.declared.permission.Grant.{Grant}
use Rattle.mpw_rbac.specs.declared.session.User.{User}
use Rattle.mpw_rbac.specs.declared.session.Session.{Session}
use Rattle.mpw_rbac_laws.specs.Existing.{assigns_roles, leads_to_roles, grants_roles, sets_name_roles, is_session_there, NamesAreThere}
use Rattle.mpw_rbac.specs.Policy.{Policy, assigned_roles, authorized, is_user}
use Rattle.mpw_rbac.specs.Rows as rows
use Rattle.mpw_rbac.specs.Sound.{Sound, is_authorized_session, is_proper}
use Rattle.mpw_rbac.specs.Table.{value_at, with_value}
use Rattle.mpw_rbac.proofs.SeparationLemmas.{both, parts, all-filter, all_imply}

-- ---- what a sound policy has

sets-there : (h : Hierarchy) (sets : List SeparationSet) → list_all (is_proper h) sets ≡ true
    → sets_name_roles h sets ≡ true
sets-there h sets =
    all_imply (is_proper h) _ (λ set is. (parts _ (list_all (is_role h) set.roles) is).1) sets

role-of_authorized : (p : Policy) (user role : Name) → contains_name (authorized p user) role ≡ true
    → is_role p.roles role ≡ true
role-of_authorized p user role is =
    (parts (is_role p.roles role) _ (sym (contains-roles_below p.roles (assigned_roles p user) role)
    ∙ is)).0

session-there : (p : Policy) (s : Session) → is_authorized_session p s ≡ true
    → is_session_there p s ≡ true
session-there p s is =
    let both_are =
    parts (is_user p s.user) (list_all (contains_name (authorized p s.user)) s.active) is in
    both (is_user p s.user) _ both_are.0
    (all_imply _ _ (role-of_authorized p s.user) s.active both_are.1)

pub names-there : (p : Policy) → Sound p → assigns_roles p.roles p.users ≡ true
    → leads_to_roles p.roles p.roles ≡ true → grants_roles p.roles p.granted ≡ true
    → NamesAreThere p
names-there p sound assignments pairs grants = record {
  assignments = assignments;
  pairs = pairs;
  grants = grants;
  static = sets-there p.roles p.ssd sound.static_proper;
  dynamic = sets-there p.roles p.dsd sound.dynamic_proper;
  sessions = all_imply (λ (e : ℕ × Session). is_authorized_session p e.1)
      (λ (e : ℕ × Session). is_session_there p e.1) (λ e is. session-there p e.1 is) p.sessions
      sound.sessions;
}

-- ---- more roles

module _ (h k : Hierarchy) (more : (r : Name) → is_role h r ≡ true → is_role k r ≡ true) where
  pub assigns-more : (users : List (Name × User)) → assigns_roles h users ≡ true
      → assigns_roles k users ≡ true
  assigns-more users = all_imply _ _ (λ e. all_imply (is_role h) (is_role k) more e.1.roles) users

  pub leads-more : (pairs : Hierarchy) → leads_to_roles h pairs ≡ true
      → leads_to_roles k pairs ≡ true
  leads-more pairs = all_imply _ _ (λ e. all_imply (is_role h) (is_role k) more e.1) pairs

  pub grants-more : (granted : List Grant) → grants_roles h granted ≡ true
      → grants_roles k granted ≡ true
  grants-more granted = all_imply _ _ (λ g. more g.role) granted

-- ---- a user's roles

pub roles-assigned : (h : Hierarchy) (users : List (Name × User)) (user : Name)
    → assigns_roles h users ≡ true
    → list_all (is_role h) (option_map_or (λ (u : User). u.roles) (value_at name_eq users user) [])
    ≡ true
roles-assigned h [] user all = refl
roles-assigned h (e ∷ es) user all =
    let s = parts (list_all (is_role h) e.1.roles) (assigns_roles h es) all in
    elim (name_eq user e.0) as (λ b. list_all (is_role h)
    (option_map_or (λ (u : User). u.roles) (cond b (Some e.1) (value_at name_eq es user)) [])
    ≡ true) [
      | true ↦ s.0
      | false ↦ roles-assigned h es user s.1
    ]

pub assigns-with : (h : Hierarchy) (users : List (Name × User)) (user : Name) (value : User)
    → assigns_roles h users ≡ true → list_all (is_role h) value.roles ≡ true
    → assigns_roles h (with_value name_eq users user value) ≡ true
assigns-with h [] user value all new = refl
assigns-with h (e ∷ es) user value all new =
    let s = parts (list_all (is_role h) e.1.roles) (assigns_roles h es) all in
    elim (name_eq user e.0) as (λ b. assigns_roles h
    (cond b ((e.0, value) ∷ es) (e ∷ with_value name_eq es user value)) ≡ true) [
      | true ↦ both (list_all (is_role h) value.roles) _ new s.1
      | false ↦ both (list_all (is_role h) e.1.roles) _ s.0 (assigns-with h es user value s.1 new)
    ]

-- ---- a role's juniors

pub roles-linked : (h pairs : Hierarchy) (role : Name) → leads_to_roles h pairs ≡ true
    → list_all (is_role h) (linked pairs role) ≡ true
roles-linked h [] role all = refl
roles-linked h (e ∷ es) role all =
    let s = parts (list_all (is_role h) e.1) (leads_to_roles h es) all in
    elim (name_eq role e.0) as (λ b. list_all (is_role h) (cond b e.1 (linked es role)) ≡ true)
    [ true ↦ s.0 | false ↦ roles-linked h es role s.1 ]

leads-with : (h pairs : Hierarchy) (role : Name) (juniors : List Name)
    → leads_to_roles h pairs ≡ true → list_all (is_role h) juniors ≡ true
    → leads_to_roles h (with_juniors pairs role juniors) ≡ true
leads-with h [] role juniors all new = refl
leads-with h (e ∷ es) role juniors all new =
    let s = parts (list_all (is_role h) e.1) (leads_to_roles h es) all in
    elim (name_eq role e.0) as (λ b. leads_to_roles h
    (cond b ((e.0, juniors) ∷ es) (e ∷ with_juniors es role juniors)) ≡ true) [
      | true ↦ both (list_all (is_role h) juniors) _ new s.1
      | false ↦ both (list_all (is_role h) e.1) _ s.0 (leads-with h es role juniors s.1 new)
    ]

pub same-roles : (h : Hierarchy) (role : Name) (juniors : List Name) (r : Name) → is_role h r ≡ true
    → is_role (with_juniors h role juniors) r ≡ true
same-roles h role juniors r is =
    ap (λ names. contains_name names r) (names-with_juniors h role juniors) ∙ is

pub leads-juniors : (h : Hierarchy) (role : Name) (juniors : List Name) → leads_to_roles h h ≡ true
    → list_all (is_role h) juniors ≡ true
    → leads_to_roles (with_juniors h role juniors) (with_juniors h role juniors) ≡ true
leads-juniors h role juniors all new = leads-more h (with_juniors h role juniors)
    (same-roles h role juniors) (with_juniors h role juniors) (leads-with h h role juniors all new)

pub all-without : (h : Hierarchy) (names : List Name) (role : Name)
    → list_all (is_role h) names ≡ true → list_all (is_role h) (without_name names role) ≡ true
all-without h names role = all-filter (is_role h) (λ other. not (name_eq role other)) names

-- ---- a role that is removed

module _ (h : Hierarchy) (role : Name) where
  left : Hierarchy
  left = without_role h role

  names-left : (names : List Name) → list_all (is_role h) names ≡ true
      → list_all (is_role (without_role h role)) (without_name names role) ≡ true
  names-left [] all = refl
  names-left (n ∷ ns) all =
      let s = parts (is_role h n) (list_all (is_role h) ns) all in
      elim (name_eq role n) as (λ b. name_eq role n ≡ b
      → list_all (is_role (without_role h role))
      (cond (not b) (n ∷ without_name ns role) (without_name ns role)) ≡ true) [
        | true ↦ λ same. names-left ns s.1
        | false ↦ λ other. both (is_role (without_role h role) n) _ (roles-left h role n s.0 other)
            (names-left ns s.1)
      ] refl

  pub assigns-left : (users : List (Name × User)) → assigns_roles h users ≡ true
      → assigns_roles (without_role h role) (rows.unassigned users role) ≡ true
  assigns-left [] all = refl
  assigns-left (e ∷ es) all =
      let s = parts (list_all (is_role h) e.1.roles) (assigns_roles h es) all in
      both (list_all (is_role (without_role h role)) (without_name e.1.roles role)) _
      (names-left e.1.roles s.0) (assigns-left es s.1)

  leads-map : (pairs : Hierarchy) → leads_to_roles h pairs ≡ true
      → leads_to_roles (without_role h role)
      (map (λ (e : Name × List Name). (e.0, without_name e.1 role)) pairs) ≡ true
  leads-map [] all = refl
  leads-map (e ∷ es) all =
      let s = parts (list_all (is_role h) e.1) (leads_to_roles h es) all in
      both (list_all (is_role (without_role h role)) (without_name e.1 role)) _ (names-left e.1 s.0)
      (leads-map es s.1)

  pub leads-left : leads_to_roles h h ≡ true
      → leads_to_roles (without_role h role) (without_role h role) ≡ true
  leads-left all = leads-map (entries_without h role)
      (all-filter _ (λ (e : Name × List Name). not (name_eq role e.0)) h all)

  pub grants-left : (granted : List Grant) → grants_roles h granted ≡ true
      → grants_roles (without_role h role) (ungranted granted role) ≡ true
  grants-left [] all = refl
  grants-left (g ∷ gs) all =
      let s = parts (is_role h g.role) (grants_roles h gs) all in
      elim (name_eq role g.role) as (λ b. name_eq role g.role ≡ b
      → grants_roles (without_role h role)
      (cond (not b) (g ∷ ungranted gs role) (ungranted gs role)) ≡ true) [
        | true ↦ λ same. grants-left gs s.1
        | false ↦ λ other. both (is_role (without_role h role) g.role) _
            (roles-left h role g.role s.0 other) (grants-left gs s.1)
      ] refl

-- ---- limits

pub fewer : {X : Type 0} (keep : X → Bool) (xs : List X) → length (filter keep xs) ≤ length xs
fewer keep [] = omega arith
fewer keep (x ∷ xs) =
    let rest = fewer keep xs in
    elim (keep x) as (λ b. length (cond b (x ∷ filter keep xs) (filter keep xs)) ≤ length (x ∷ xs))
    [ true ↦ omega (arith, rest) | false ↦ omega (arith, rest) ]

pub one_more : {X : Type 0} (xs : List X) (x : X) (most : ℕ) → nat_lt (length xs) most ≡ true
    → length (xs ++ x ∷ []) ≤ most
one_more xs x most room = omega (arith, ltb-true (length xs) most room, length-append xs (x ∷ []))

pub same-users : (users : List (Name × User)) (user : Name) (value : User)
    → length (with_value name_eq users user value) ≡ length users
same-users [] user value = refl
same-users (e ∷ es) user value =
    elim (name_eq user e.0) as (λ b. length
    (cond b ((e.0, value) ∷ es) (e ∷ with_value name_eq es user value)) ≡ length (e ∷ es)) [
      | true ↦ refl
      | false ↦ omega (arith, same-users es user value)
    ]

pub same-pairs : (h : Hierarchy) (role : Name) (juniors : List Name)
    → length (with_juniors h role juniors) ≡ length h
same-pairs [] role juniors = refl
same-pairs (e ∷ es) role juniors =
    elim (name_eq role e.0) as (λ b. length
    (cond b ((e.0, juniors) ∷ es) (e ∷ with_juniors es role juniors)) ≡ length (e ∷ es)) [
      | true ↦ refl
      | false ↦ omega (arith, same-pairs es role juniors)
    ]

pub fewer-roles : (h : Hierarchy) (role : Name) → length (without_role h role) ≤ length h
fewer-roles h role = omega (
  arith,
  length-map {B = Name × List Name} (entries_without h role)
      (λ (e : Name × List Name). (e.0, without_name e.1 role)),
  fewer (λ (e : Name × List Name). not (name_eq role e.0)) h,
)

pub same-unassigned : (users : List (Name × User)) (role : Name)
    → length (rows.unassigned users role) ≡ length users
same-unassigned users role = length-map {B = Name × User} users
    (λ (entry : Name × User). (entry.0, record entry.1 { roles = without_name entry.1.roles role }))
