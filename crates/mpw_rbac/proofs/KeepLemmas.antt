-- Each change of the policy preserves what every policy preserves.
use Rattle.std.proofs.Common.{[], ◌≡◌, ℕ, Bool, true, false, not, ◌||◌, inl, inr, ◌==◌, List, ◌∷◌, ◌++◌, map, Option, refl, sym, ◌∙◌, true≢false}
use Rattle.std.specs.Prelude.{nat_lt}
use Rattle.std.specs.List.{list_all}
use Rattle.std.specs.Option.{option_map_or}
use Rattle.mpw_geom.specs.Names.{name_eq, contains_name, without_name}
use Rattle.mpw_roles.specs.Hierarchy.{Name, Hierarchy, is_role, with_role}
use Rattle.mpw_roles.proofs.CallerLemmas.{roles-with_role}
use Rattle.mpw_separation.specs.declared.set.Kind.{Kind}
use Rattle.mpw_separation.specs.declared.set.Kind.TheVariants.{Static, Dynamic}
use Rattle.mpw_separation.specs.Separation.{breaks, is_broken, without_set}
use Rattle.mpw_separation.specs.Set.{SeparationSet}
use Rattle.mpw_permissions.specs.declared.permission.Grant.{Grant}
use Rattle.mpw_rbac.specs.declared.session.User.{User}
use Rattle.mpw_rbac.specs.declared.session.Session.{Session}
use Rattle.mpw_rbac.specs.Internal.Kinds.{kind_sets, with_sets, bound_lists}
use Rattle.mpw_rbac.specs.Policy.{Policy, is_user, authorized, assigned_roles, assigned_lists, active_lists}
use Rattle.mpw_rbac.specs.Rows as rows
use Rattle.mpw_rbac.specs.Sound.{is_authorized_session, active_authorized, sets_hold, is_proper, Sound}
use Rattle.mpw_rbac.proofs.SeparationLemmas.{not_both, both, parts, breaks-more, holds-less, holds-proper, proper-more, any-filter, any-append, nobody-breaks, breaks-with_role, all-append, all-filter}
use Rattle.mpw_rbac.proofs.SoundLemmas.{sound-adduser, sound-addrole, sound-assign, sound-open, sound-end, sound-activate}
use Rattle.mpw_rbac.proofs.TableLemmas.{any-same, any-changed, all-changed}
use Rattle.mpw_rbac.proofs.KeepTrimmed.{roles_of, active_of, users-less, sessions-less, without-part}

-- a user without roles breaks no set, and so does a session without active ones
pub keep-adduser : (p : Policy) (user : Name) (digest : List ℕ) → Sound p
    → Sound (record p { users = p.users ++ (user, record { digest = digest; roles = [] }) ∷ [] })
keep-adduser p user digest s = record {
  sessions = sound-adduser p user digest s.sessions;
  static = holds-proper p.roles p.roles (map roles_of (p.users ++ new ∷ []))
      (assigned_lists p.users) p.ssd
      (λ set proper. users-less p.roles p.roles set roles_of (p.users ++ new ∷ []) p.users
      (λ is. elim (any-append (λ e. breaks p.roles (roles_of e) set) p.users new is) [
        | inl among ↦ among
        | inr last ↦ absurd (not_both (breaks p.roles [] set) last
            (nobody-breaks p.roles set proper))
      ])) s.static_proper s.static;
  dynamic = s.dynamic;
  static_proper = s.static_proper;
  dynamic_proper = s.dynamic_proper;
}
  where
    new : Name × User
    new = (user, record { digest = digest; roles = [] })

pub keep-open : (p : Policy) (connection : ℕ) (user : Name) → is_user p user ≡ true → Sound p
    → Sound (record p {
      sessions = p.sessions ++ (connection, record { user = user; active = [] }) ∷ [];
    })
keep-open p connection user there s =
    let new : ℕ × Session = (connection, record { user = user; active = [] }) in
    record {
      sessions = sound-open p connection user there s.sessions;
      static = s.static;
      dynamic = holds-proper p.roles p.roles (map active_of (p.sessions ++ new ∷ []))
          (active_lists p.sessions) p.dsd
          (λ set proper. sessions-less p.roles p.roles set (p.sessions ++ new ∷ []) p.sessions
          (λ is. elim (any-append (λ e. breaks p.roles (active_of e) set) p.sessions new is) [
            | inl among ↦ among
            | inr last ↦ absurd (not_both (breaks p.roles [] set) last
                (nobody-breaks p.roles set proper))
          ])) s.dynamic_proper s.dynamic;
      static_proper = s.static_proper;
      dynamic_proper = s.dynamic_proper;
    }

pub keep-end : (p : Policy) (connection : ℕ) → Sound p → Sound (rows.end_session p connection)
keep-end p connection s = record {
  sessions = sound-end p connection s.sessions;
  static = s.static;
  dynamic = holds-less p.roles p.roles (active_lists (rows.end_session p connection).sessions)
      (active_lists p.sessions)
      (λ set. sessions-less p.roles p.roles set (rows.end_session p connection).sessions p.sessions
      (any-filter (λ e. breaks p.roles (active_of e) set)
      (λ (e : ℕ × Session). not (connection == e.0)) p.sessions)) p.dsd s.dynamic;
  static_proper = s.static_proper;
  dynamic_proper = s.dynamic_proper;
}

holds-nobody : (h : Hierarchy) (sets : List SeparationSet) → sets_hold h sets [] ≡ true
holds-nobody h [] = refl
holds-nobody h (x ∷ xs) = holds-nobody h xs

pub keep-end_all : (p : Policy) → Sound p → Sound (rows.end_sessions p)
keep-end_all p s = record {
  sessions = refl;
  static = s.static;
  dynamic = holds-nobody p.roles
      p.dsd;
  static_proper = s.static_proper;
  dynamic_proper = s.dynamic_proper;
}

-- a role without pairs breaks nothing
pub keep-addrole : (p : Policy) (role : Name) → Sound p
    → Sound (record p { roles = with_role p.roles role })
keep-addrole p role s =
    let h = with_role p.roles role in
    record {
      sessions = sound-addrole p role s.sessions;
      static = holds-proper h p.roles (assigned_lists p.users) (assigned_lists p.users) p.ssd
          (λ set proper is. sym (any-same (λ l. breaks h l set) (λ l. breaks p.roles l set)
          (λ l. breaks-with_role p.roles role l set proper) (assigned_lists p.users)) ∙ is)
          s.static_proper s.static;
      dynamic = holds-proper h p.roles (active_lists p.sessions) (active_lists p.sessions) p.dsd
          (λ set proper is. sym (any-same (λ l. breaks h l set) (λ l. breaks p.roles l set)
          (λ l. breaks-with_role p.roles role l set proper) (active_lists p.sessions)) ∙ is)
          s.dynamic_proper s.dynamic;
      static_proper = proper-more p.roles h (roles-with_role p.roles role) p.ssd s.static_proper;
      dynamic_proper = proper-more p.roles h (roles-with_role p.roles role) p.dsd s.dynamic_proper;
    }

pub keep-assign : (p : Policy) (user role : Name)
    → sets_hold p.roles p.ssd (assigned_lists
    (rows.with_assigned p user (assigned_roles p user ++ role ∷ [])).users) ≡ true
    → Sound p → Sound (rows.with_assigned p user (assigned_roles p user ++ role ∷ []))
keep-assign p user role static s = record {
  sessions = sound-assign p user role s.sessions;
  static = static;
  dynamic = s.dynamic;
  static_proper = s.static_proper;
  dynamic_proper = s.dynamic_proper;
}

pub keep-activate : (p : Policy) (connection : ℕ) (role : Name)
    → contains_name (authorized p (rows.user_of p connection)) role ≡ true
    → sets_hold p.roles p.dsd (active_lists
    (rows.with_active p connection (rows.active_roles p connection ++ role ∷ [])).sessions) ≡ true
    → Sound p → Sound (rows.with_active p connection (rows.active_roles p connection ++ role ∷ []))
keep-activate p connection role there dynamic s = record {
  sessions = sound-activate p connection role there s.sessions;
  static = s.static;
  dynamic = dynamic;
  static_proper = s.static_proper;
  dynamic_proper = s.dynamic_proper;
}

-- one session has fewer active roles
abbrev dropped : Name → Option Session → Session
dropped role o = record {
  user = option_map_or (λ (s : Session). s.user) o [];
  active = without_name (option_map_or (λ (s : Session). s.active) o []) role;
}

pub authorized-drop : (p : Policy) (connection : ℕ) (role : Name) → active_authorized p ≡ true
    → active_authorized
    (rows.with_active p connection (without_name (rows.active_roles p connection) role))
    ≡ true
authorized-drop p connection role sound =
    all-changed (λ a b. a == b) (dropped role) (is_authorized_session p) (λ s is.
    let t = parts (is_user p s.user) (list_all (contains_name (authorized p s.user)) s.active) is in
    both (is_user p s.user) _ t.0 (all-filter (contains_name (authorized p s.user))
    (λ (o : Name). not (name_eq role o)) s.active t.1)) connection p.sessions sound

pub keep-drop : (p : Policy) (connection : ℕ) (role : Name) → Sound p
    → Sound (rows.with_active p connection (without_name (rows.active_roles p connection) role))
keep-drop p connection role s =
    let q = rows.with_active p connection (without_name (rows.active_roles p connection) role) in
    record {
      sessions = authorized-drop p connection role s.sessions;
      static = s.static;
      dynamic = holds-less p.roles p.roles (active_lists q.sessions) (active_lists p.sessions)
          (λ set. sessions-less p.roles p.roles set q.sessions p.sessions
          (any-changed (λ a b. a == b) (dropped role) (λ x. breaks p.roles x.active set)
          (λ x t. breaks-more p.roles p.roles (without_name x.active role) x.active set
          (λ a b is. is) (λ r is. is) (without-part x.active role) t) connection p.sessions)) p.dsd
          s.dynamic;
      static_proper = s.static_proper;
      dynamic_proper = s.dynamic_proper;
    }

-- the sets of one kind
pub kind-holds : (kind : Kind) (p : Policy) → Sound p
    → sets_hold p.roles (kind_sets kind p) (bound_lists kind p) ≡ true
kind-holds Static p s = s.static
kind-holds Dynamic p s = s.dynamic

kind-proper : (kind : Kind) (p : Policy) → Sound p
    → list_all (is_proper p.roles) (kind_sets kind p) ≡ true
kind-proper Static p s = s.static_proper
kind-proper Dynamic p s = s.dynamic_proper

keep-kind : (kind : Kind) (p : Policy) (sets : List SeparationSet)
    → sets_hold p.roles sets (bound_lists kind p) ≡ true
    → list_all (is_proper p.roles) sets ≡ true → Sound p → Sound (with_sets kind p sets)
keep-kind Static p sets hold proper s = record {
  sessions = s.sessions;
  static = hold;
  dynamic = s.dynamic;
  static_proper = proper;
  dynamic_proper = s.dynamic_proper;
}
keep-kind Dynamic p sets hold proper s = record {
  sessions = s.sessions;
  static = s.static;
  dynamic = hold;
  static_proper = s.static_proper;
  dynamic_proper = proper;
}

pub keep-made : (kind : Kind) (p : Policy) (set : SeparationSet)
    → nat_lt 0 set.cardinality ≡ true → list_all (is_role p.roles) set.roles ≡ true
    → sets_hold p.roles (kind_sets kind p ++ set ∷ []) (bound_lists kind p) ≡ true → Sound p
    → Sound (with_sets kind p (kind_sets kind p ++ set ∷ []))
keep-made kind p set some roles hold s =
    keep-kind kind p (kind_sets kind p ++ set ∷ []) hold
    (all-append (is_proper p.roles) (kind_sets kind p) (set ∷ []) (kind-proper kind p s)
    (both (is_proper p.roles set) true (both (nat_lt 0 set.cardinality) _ some roles) refl)) s

pub keep-removed : (kind : Kind) (p : Policy) (name : Name) → Sound p
    → Sound (with_sets kind p (without_set (kind_sets kind p) name))
keep-removed kind p name s =
    let other = λ (set : SeparationSet). not (name_eq name set.name) in
    keep-kind kind p (without_set (kind_sets kind p) name)
    (all-filter (λ (set : SeparationSet). not (is_broken p.roles (bound_lists kind p) set)) other
    (kind_sets kind p) (kind-holds kind p s))
    (all-filter (is_proper p.roles) other (kind_sets kind p) (kind-proper kind p s)) s

pub keep-granted : (p : Policy) (granted : List Grant) → Sound p
    → Sound (record p { granted = granted })
keep-granted p granted s = record {
  sessions = s.sessions;
  static = s.static;
  dynamic = s.dynamic;
  static_proper = s.static_proper;
  dynamic_proper = s.dynamic_proper;
}

-- what neither kind of set uses
pub unused : {a b : Bool} → (a || b) ≡ false → (a ≡ false) × (b ≡ false)
unused {a = true} {b = b} e = absurd (true≢false e)
unused {a = false} {b = b} e = (refl, e)
