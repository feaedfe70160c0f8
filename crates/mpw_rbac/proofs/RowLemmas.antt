-- The decision tables of the policy, test by test.
use Rattle.std.proofs.Common.{[], ◌≡◌, ℕ, Bool, true, false, cond, not, List, ◌∷◌, ◌++◌, length, Ok, Err, is_some, Option, Some, None, ◌==◌, refl, sym, ap, ◌∙◌}
use Rattle.std.specs.Prelude.{nat_lt, nat_eq, is_none}
use Rattle.std.specs.Option.{option_map_or}
use Rattle.std.specs.Cmp.Lexicographic.{pointwise}
use Rattle.mpw_roles.specs.Decided.{decided}
use Rattle.mpw_roles.specs.Rows as roles
use Rattle.mpw_roles.specs.declared.fault.RolesFault.TheVariants as faults
use Rattle.mpw_roles.specs.Hierarchy.{Name, Hierarchy, is_role, with_role}
use Rattle.mpw_geom.specs.Names.{name_eq, contains_name, without_name}
use Rattle.mpw_rbac.specs.declared.refusal.Refusal.TheVariants.{Dsd}
use Rattle.mpw_rbac.specs.Policy.{Policy, authorized, is_user, active_lists, session_of}
use Rattle.mpw_rbac.specs.declared.session.User.{User}
use Rattle.mpw_rbac.specs.declared.session.Session.{Session}
use Rattle.mpw_rbac.specs.Rows as rows
use Rattle.mpw_separation.specs.Separation.{least_broken}
use Rattle.mpw_rbac.specs.Table.{has_key, value_at, without_key, insert_entry}
use Rattle.mpw_rbac.proofs.TableLemmas.{insert-new, insert-present, is_some-value_at}
use Rattle.mpw_rbac.proofs.RowFacts.{ok_policy, none-passes}

-- the hierarchy after a role was added
pub added-role : (h : Hierarchy) (role : Name) (after : Hierarchy) → roles.add h role ≡ Ok after
    → after ≡ with_role h role
added-role h role after ok = by (is_role h role) (nat_lt (length h) 512) ok
  where
    by : (a b : Bool) → decided ((not a, faults.Known) ∷ (b, faults.Full) ∷ []) (with_role h role)
        ≡ Ok after → after ≡ with_role h role
    by true b e = cc
    by false true e = cc
    by false false e = cc

-- a session begins
pub open-ok : (p : Policy) (connection : ℕ) (user : Name) (digest : List ℕ)
    (sessions : List (ℕ × Session)) → is_some (session_of p connection) ≡ false
    → rows.is_login p user digest ≡ true
    → sessions
    ≡ insert_entry (λ a b. a == b) p.sessions connection (record { user = user; active = [] })
    → rows.open_session p connection user digest ≡ Ok (record p { sessions = sessions })
open-ok p connection user digest sessions closed login is =
    let none : is_none (session_of p connection) ≡ true = by (session_of p connection) closed in
    let new : has_key (λ a b. a == b) p.sessions connection ≡ false =
    sym (is_some-value_at (λ a b. a == b) p.sessions connection) ∙ closed in
    rw (none, login) (ap (λ s. Ok (record p { sessions = s }))
    (sym (is ∙ insert-new (λ a b. a == b) p.sessions connection _ new)))
  where
    by : (o : Option Session) → is_some o ≡ false → is_none o ≡ true
    by None e = refl
    by (Some s) e = cc

-- if there is no session, nothing ends
pub end-absent : (p : Policy) (connection : ℕ) → is_some (session_of p connection) ≡ false
    → rows.end_session p connection ≡ p
end-absent p connection none = ap (λ s. record p { sessions = s }) (by p.sessions none)
  where
    by : (es : List (ℕ × Session)) → is_some (value_at (λ a b. a == b) es connection) ≡ false
        → without_key (λ a b. a == b) es connection ≡ es
    by [] n = refl
    by (e ∷ es) n = elim (connection == e.0) as
        (λ b. is_some (cond b (Some e.1) (value_at (λ a b. a == b) es connection)) ≡ false
        → cond (not b) (e ∷ without_key (λ a b. a == b) es connection)
        (without_key (λ a b. a == b) es connection) ≡ e ∷ es) [
          | true ↦ λ there. cc
          | false ↦ λ later. ap (λ l. e ∷ l) (by es later)
        ] n

-- a login is of an existing user
pub login-user : (p : Policy) (user : Name) (digest : List ℕ) → rows.is_login p user digest ≡ true
    → is_user p user ≡ true
login-user p user digest login =
    sym (is_some-value_at name_eq p.users user) ∙ by (value_at name_eq p.users user) login
  where
    by : (o : Option User) → option_map_or (λ (u : User). pointwise nat_eq u.digest digest) o false
        ≡ true → is_some o ≡ true
    by None e = cc
    by (Some u) e = refl

-- a role becomes active
pub activate-ok : (p : Policy) (connection : ℕ) (role : Name) (sessions : List (ℕ × Session))
    → is_some (session_of p connection) ≡ true
    → contains_name (authorized p (rows.user_of p connection)) role ≡ true
    → contains_name (rows.active_roles p connection) role ≡ false
    → least_broken p.roles p.dsd (active_lists
    (rows.with_active p connection (rows.active_roles p connection ++ role ∷ [])).sessions) ≡ None
    → sessions ≡ insert_entry (λ a b. a == b) p.sessions connection
    (record {
      user = rows.user_of p connection;
      active =
          rows.active_roles p connection ++ role ∷ [];
    })
    → rows.activate p connection role ≡ Ok (record p { sessions = sessions })
activate-ok p connection role sessions there may new none is =
    let holds = none-passes Dsd (least_broken p.roles p.dsd
    (active_lists
    (rows.with_active p connection (rows.active_roles p connection ++ role ∷ [])).sessions))
    none in
    let known : has_key (λ a b. a == b) p.sessions connection ≡ true =
    sym (is_some-value_at (λ a b. a == b) p.sessions connection) ∙ there in
    rw (may, new, holds) (ap (λ s. Ok (record p { sessions = s }))
    (sym (is ∙ insert-present (λ a b. a == b) p.sessions connection _ known)))

pub activate-broken : (p : Policy) (connection : ℕ) (role name : Name)
    → contains_name (authorized p (rows.user_of p connection)) role ≡ true
    → contains_name (rows.active_roles p connection) role ≡ false
    → least_broken p.roles p.dsd (active_lists
    (rows.with_active p connection (rows.active_roles p connection ++ role ∷ [])).sessions)
    ≡ Some name
    → rows.activate p connection role ≡ Err (Dsd name)
activate-broken p connection role name may new some = rw (may, new, some)

-- a role is active in a session only
pub active-session : (p : Policy) (connection : ℕ) (role : Name)
    → contains_name (rows.active_roles p connection) role ≡ true
    → is_some (session_of p connection) ≡ true
active-session p connection role = by (session_of p connection)
  where
    by : (o : Option Session)
        → contains_name (option_map_or (λ (s : Session). s.active) o []) role ≡ true
        → is_some o ≡ true
    by None e = cc
    by (Some s) e = refl

-- and is active no longer
pub drop-ok : (p : Policy) (connection : ℕ) (role : Name) (sessions : List (ℕ × Session))
    → contains_name (rows.active_roles p connection) role ≡ true
    → sessions ≡ insert_entry (λ a b. a == b) p.sessions connection
    (record {
      user = rows.user_of p connection;
      active = without_name (rows.active_roles p connection) role;
    }) → rows.drop_role p connection role ≡ Ok (record p { sessions = sessions })
drop-ok p connection role sessions active is =
    let known : has_key (λ a b. a == b) p.sessions connection ≡ true =
    sym (is_some-value_at (λ a b. a == b) p.sessions connection)
    ∙ active-session p connection role active in
    rw active (ap (λ s. Ok (record p { sessions = s }))
    (sym (is ∙ insert-present (λ a b. a == b) p.sessions connection _ known)))

pub ok-value : (p q : Policy) → ok_policy p ≡ Ok q → p ≡ q
ok-value p q e = cc

-- after a table that accepts, the policy is its new policy
pub decided-value : (tests : List rows.Test) (next q : Policy) → decided tests next ≡ Ok q
    → next ≡ q
decided-value [] next q e = ok-value next q e
decided-value (t ∷ ts) next q e =
    elim t.0 as (λ b. cond b (decided ts next) (Err t.1) ≡ Ok q → next ≡ q) [
      | true ↦ λ f. decided-value ts next q f
      | false ↦ λ f. cc
    ] e

-- and each of its tests has passed
abbrev pub AllPass : List rows.Test → Type 0
AllPass [] = Unit {0}
AllPass (t ∷ ts) = (t.0 ≡ true) × AllPass ts

pub all-pass : (tests : List rows.Test) (next q : Policy) → decided tests next ≡ Ok q
    → AllPass tests
all-pass [] next q e = tt
all-pass (t ∷ ts) next q e =
    elim t.0 as (λ b. cond b (decided ts next) (Err t.1) ≡ Ok q → (b ≡ true) × AllPass ts) [
      | true ↦ λ f. (refl, all-pass ts next q f)
      | false ↦ λ f. cc
    ] e
