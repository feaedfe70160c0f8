-- What the tests of a decision table say of the policy after it.
use Rattle.std.proofs.Common.{[], ◌≡◌, ℕ, Bool, true, false, cond, not, ◌||◌, ◌&&◌, List, ◌∷◌, ◌++◌, length, Result, Ok, Err, is_some, Option, Some, None, ◌==◌, refl, sym, ap, ◌∙◌}
use Rattle.std.specs.Prelude.{nat_lt, filter}
use Rattle.std.specs.List.{list_any}
use Rattle.std.specs.Option.{option_map_or}
use Rattle.mpw_roles.specs.Decided.{decided}
use Rattle.mpw_roles.specs.Rows as roles
use Rattle.mpw_roles.specs.declared.fault.RolesFault.{RolesFault}
use Rattle.mpw_roles.specs.declared.fault.RolesFault.TheVariants as faults
use Rattle.mpw_roles.specs.Hierarchy.{Name, Hierarchy, is_role, is_immediate, without_role, with_pair, without_pair}
use Rattle.mpw_roles.specs.Order.{at_least}
use Rattle.mpw_geom.specs.Names.{name_eq, contains_name, without_name}
use Rattle.mpw_rbac.specs.declared.refusal.Refusal.{Refusal}
use Rattle.mpw_rbac.specs.declared.refusal.Refusal.TheVariants.{Ssd}
use Rattle.mpw_rbac.specs.Policy.{Policy, is_user, assigned_roles, assigned_lists, active_lists, session_of, trim}
use Rattle.mpw_rbac.specs.declared.session.User.{User}
use Rattle.mpw_rbac.specs.declared.session.Session.{Session}
use Rattle.mpw_permissions.specs.declared.permission.Grant.{Grant}
use Rattle.mpw_permissions.specs.Grant.{grant_eq}
use Rattle.mpw_rbac.specs.Rows as rows
use Rattle.mpw_separation.specs.Separation.{least_broken, has_set, without_set, uses_role}
use Rattle.mpw_separation.specs.Rows.{make, remove}
use Rattle.mpw_separation.specs.declared.fault.SetsFault.{SetsFault}
use Rattle.mpw_separation.specs.declared.fault.SetsFault.TheVariants as set_faults
use Rattle.mpw_separation.specs.Set.{SeparationSet}
use Rattle.mpw_rbac.specs.Sound.{Sound}
use Rattle.mpw_rbac.specs.Table.{value_at, insert_entry}
use Rattle.mpw_rbac.proofs.HolderLemmas.{least-changed}
use Rattle.mpw_rbac.proofs.SeparationLemmas.{parts}
use Rattle.mpw_rbac.proofs.TableLemmas.{insert-new, insert-present, is_some-value_at}

abbrev pub ok_policy : Policy → Result Policy Refusal
ok_policy p = Ok p

-- a test for broken sets that finds none passes
pub none-passes : (told : Name → Refusal) (o : Option Name) → o ≡ None
    → (rows.none_broken told o).0 ≡ true
none-passes told o none = ap (λ n. (rows.none_broken told n).0) none

module _ (p : Policy) where
  pub adduser-ok : (user : Name) (digest : List ℕ) (users : List (Name × User))
      → is_user p user ≡ false → nat_lt (length p.users) 512 ≡ true
      → users ≡ insert_entry name_eq p.users user (record { digest = digest; roles = [] })
      → rows.adduser p user digest ≡ Ok (record p { users = users })
  adduser-ok user digest users new room is =
      rw (new, room) (ap (λ us. Ok (record p { users = us }))
      (sym (is ∙ insert-new name_eq p.users user _ new)))

  pub assign-ok : (user role : Name) (users : List (Name × User)) → is_user p user ≡ true
      → is_role p.roles role ≡ true → contains_name (assigned_roles p user) role ≡ false
      → least_broken p.roles p.ssd (assigned_lists
      (rows.with_assigned p user (assigned_roles p user ++ role ∷ [])).users) ≡ None
      → users ≡ insert_entry name_eq p.users user
      (record {
        digest = rows.digest_of_user p user;
        roles = assigned_roles p user ++ role
            ∷ [];
      }) → rows.assign p user role ≡ Ok (record p { users = users })
  assign-ok user role users known role_known new none is =
      let holds = none-passes Ssd (least_broken p.roles p.ssd
      (assigned_lists (rows.with_assigned p user (assigned_roles p user ++ role ∷ [])).users))
      none in
      rw (known, role_known, new, holds)
      (ap (λ us. Ok (record p { users = us }))
      (sym (is ∙ insert-present name_eq p.users user _ known)))

  pub assign-broken : (user role name : Name) → is_user p user ≡ true → is_role p.roles role ≡ true
      → contains_name (assigned_roles p user) role ≡ false
      → least_broken p.roles p.ssd (assigned_lists
      (rows.with_assigned p user (assigned_roles p user ++ role ∷ [])).users) ≡ Some name
      → rows.assign p user role ≡ Err (Ssd name)
  assign-broken user role name known role_known new some =
      rw (known, role_known, new, some)

  pub grant-ok : (new : Grant) (granted : List Grant) → is_role p.roles new.role ≡ true
      → list_any (grant_eq new) p.granted ≡ false → nat_lt (length p.granted) 4096 ≡ true
      → granted ≡ p.granted ++ new ∷ []
      → rows.grant p new ≡ Ok (record p { granted = granted })
  grant-ok new granted role_known unknown room is =
      rw (role_known, unknown, room) (ap (λ gs. Ok (record p { granted = gs })) (sym is))

  pub revoke-ok : (old : Grant) (granted : List Grant) → list_any (grant_eq old) p.granted ≡ true
      → granted ≡ filter (λ other. not (grant_eq old other)) p.granted
      → rows.revoke p old ≡ Ok (record p { granted = granted })
  revoke-ok old granted known is =
      rw known (ap (λ gs. Ok (record p { granted = gs })) (sym is))

  pub delrole-ok : (role : Name) → is_role p.roles role ≡ true
      → (uses_role p.ssd role || uses_role p.dsd role) ≡ false
      → rows.delrole p role ≡ Ok (trim (rows.without_role_of p role))
  delrole-ok role known unused = rw (known, unused)

  pub deassign-ok : (user role : Name) → contains_name (assigned_roles p user) role ≡ true
      → rows.deassign p user role ≡ Ok
      (trim (rows.with_assigned p user (without_name (assigned_roles p user) role)))
  deassign-ok user role known = rw known

-- the policy after an accepted request
abbrev done : {A F : Type 0} → A → Result A F
done a = Ok a

done-same : {A F : Type 0} (a b : A) → done {F = F} a ≡ Ok b → a ≡ b
done-same a b e = cc

pub left-value : {A F : Type 0} (tests : List (Bool × F)) (next q : A) → decided tests next ≡ Ok q
    → next ≡ q
left-value [] next q e = done-same next q e
left-value {A = A} {F = F} (t ∷ ts) next q e =
    elim t.0 as (λ b. cond {A = Result A F} b (decided ts next) (Err t.1) ≡ Ok q → next ≡ q) [
      | true ↦ λ f. left-value ts next q f
      | false ↦ λ f. cc
    ] e

pub first-pass : {A F : Type 0} (t : Bool × F) (tests : List (Bool × F)) (next q : A)
    → decided (t ∷ tests) next ≡ Ok q → t.0 ≡ true
first-pass {A = A} {F = F} t tests next q e =
    elim t.0 as (λ b. cond {A = Result A F} b (decided tests next) (Err t.1) ≡ Ok q → b ≡ true) [
      | true ↦ λ f. refl
      | false ↦ λ f. cc
    ] e

pub inherited-pair : (h : Hierarchy) (senior junior : Name) (after : Hierarchy)
    → roles.inherit h senior junior ≡ Ok after → (is_role h senior ≡ true)
    × (after ≡ with_pair h senior junior)
inherited-pair h senior junior after e =
    let a : Bool × RolesFault = (is_role h senior && is_role h junior, faults.NoRole) in
    let b : Bool × RolesFault = (not (is_immediate h senior junior), faults.Known) in
    let d : Bool × RolesFault = (not (at_least h junior senior), faults.Cycle) in (
      (parts (is_role h senior) (is_role h junior)
          (first-pass a (b ∷ d ∷ []) (with_pair h senior junior) after e)).0,
      sym (left-value (a ∷ b ∷ d ∷ []) (with_pair h senior junior) after e),
    )

pub inherited-tests : (h : Hierarchy) (senior junior : Name) (after : Hierarchy)
    → roles.inherit h senior junior ≡ Ok after
    → ((is_role h senior && is_role h junior) ≡ true) × (not (is_immediate h senior junior) ≡ true)
    × (not (at_least h junior senior) ≡ true)
inherited-tests h senior junior after e = by (is_role h senior && is_role h junior)
    (not (is_immediate h senior junior)) (not (at_least h junior senior)) e
  where
    by : (x y z : Bool) → decided ((x, faults.NoRole) ∷ (y, faults.Known) ∷ (z, faults.Cycle) ∷ [])
        (with_pair h senior junior) ≡ Ok after → (x ≡ true) × (y ≡ true) × (z ≡ true)
    by true true true f = (refl, refl, refl)
    by true true false f = cc
    by true false z f = cc
    by false y z f = cc

pub uninherited-pair : (h : Hierarchy) (senior junior : Name) (after : Hierarchy)
    → roles.uninherit h senior junior ≡ Ok after → (is_immediate h senior junior ≡ true)
    × (after ≡ without_pair h senior junior)
uninherited-pair h senior junior after e =
    let a : Bool × RolesFault = (is_immediate h senior junior, faults.NoPair) in (
      first-pass a [] (without_pair h senior junior) after e,
      sym (left-value (a ∷ []) (without_pair h senior junior) after e),
    )

pub removed-role : (h : Hierarchy) (role : Name) (after : Hierarchy)
    → roles.remove h role ≡ Ok after → after ≡ without_role h role
removed-role h role after e =
    let a : Bool × RolesFault = (is_role h role, faults.NoRole) in
    sym (left-value (a ∷ []) (without_role h role) after e)

pub made-set : (sets : List SeparationSet) (set : SeparationSet) (after : List SeparationSet)
    → make sets set ≡ Ok after → (nat_lt (length sets) 64 ≡ true) × (after ≡ sets ++ set ∷ [])
made-set sets set after e = (
  by (has_set sets set.name) (nat_lt (length sets) 64) e,
  sym (left-value (a ∷ b ∷ []) (sets ++ set ∷ []) after e),
)
  where
    a : Bool × SetsFault
    a = (not (has_set sets set.name), set_faults.Known)

    b : Bool × SetsFault
    b = (nat_lt (length sets) 64, set_faults.Full)

    by : (x y : Bool) → decided ((not x, set_faults.Known) ∷ (y, set_faults.Full) ∷ [])
        (sets ++ set ∷ []) ≡ Ok after → y ≡ true
    by true y f = cc
    by false true f = refl
    by false false f = cc

pub removed-set : (sets : List SeparationSet) (name : Name) (after : List SeparationSet)
    → remove sets name ≡ Ok after → after ≡ without_set sets name
removed-set sets name after e =
    let a : Bool × SetsFault = (has_set sets name, set_faults.Unknown) in
    sym (left-value (a ∷ []) (without_set sets name) after e)

-- a user who is assigned a role exists
pub assigned-user : (p : Policy) (user role : Name)
    → contains_name (assigned_roles p user) role ≡ true → is_user p user ≡ true
assigned-user p user role there =
    sym (is_some-value_at name_eq p.users user) ∙ by (value_at name_eq p.users user) there
  where
    by : (o : Option User) → contains_name (option_map_or (λ (u : User). u.roles) o []) role ≡ true
        → is_some o ≡ true
    by None e = cc
    by (Some u) e = refl

-- only the roles that change are tested
pub assign-same : (p : Policy) (user role : Name) → Sound p → is_user p user ≡ true
    → least_broken p.roles p.ssd (assigned_lists
    (rows.with_assigned p user (assigned_roles p user ++ role ∷ [])).users) ≡ least_broken
    p.roles p.ssd ((assigned_roles p user ++ role ∷ []) ∷ [])
assign-same p user role s known = least-changed name_eq (λ (u : User). u.roles) p.roles p.ssd
    p.users user (record {
      digest = rows.digest_of_user p user;
      roles = assigned_roles p user
          ++ role ∷ [];
    }) known s.static

pub activate-same : (p : Policy) (connection : ℕ) (role : Name) → Sound p
    → is_some (session_of p connection) ≡ true
    → least_broken p.roles p.dsd (active_lists
    (rows.with_active p connection (rows.active_roles p connection ++ role ∷ [])).sessions)
    ≡ least_broken p.roles p.dsd ((rows.active_roles p connection ++ role ∷ []) ∷ [])
activate-same p connection role s there =
    least-changed (λ a b. a == b) (λ (x : Session). x.active) p.roles p.dsd p.sessions connection
    (record {
      user = rows.user_of p connection;
      active =
          rows.active_roles p connection ++ role ∷ [];
    })
    (sym (is_some-value_at (λ a b. a == b) p.sessions connection) ∙ there) s.dynamic
