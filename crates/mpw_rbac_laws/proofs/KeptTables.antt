-- After an accepted request, the tables are still sound.
use Rattle.std.proofs.Common.{[], ◌≡◌, ◌≤◌, ℕ, Ok, true, not, refl, List, ◌∷◌, ◌++◌, length, arith}
use Rattle.std.specs.List.{list_all}
use Rattle.mpw_geom.specs.Names.{name_eq, without_name}
use Rattle.mpw_roles.specs.Decided.{decided}
use Rattle.mpw_roles.specs.Hierarchy.{Name, is_role, immediate_juniors, with_role, with_juniors}
use Rattle.mpw_roles.proofs.CallerLemmas.{roles-with_role}
use Rattle.mpw_separation.specs.Separation.{without_set}
use Rattle.mpw_separation.specs.Set.{SeparationSet}
use Rattle.mpw_permissions.specs.declared.permission.Grant.{Grant}
use Rattle.mpw_rbac.specs.declared.session.Session.{Session}
use Rattle.mpw_rbac.specs.declared.session.User.{User}
use Rattle.mpw_rbac_laws.specs.Existing.{AreTablesSound, KeepsTables}
use Rattle.mpw_rbac_laws.specs.Laws.{KeepsInSession}
use Rattle.mpw_permissions.specs.Grant.{grant_eq}
use Rattle.mpw_rbac.specs.Policy.{Policy, assigned_roles, trim}
use Rattle.mpw_rbac.specs.Rows as rows
use Rattle.mpw_rbac.specs.Sound.{Sound}
use Rattle.mpw_rbac_laws.proofs.ExistingLemmas as there
use Rattle.mpw_rbac_laws.proofs.SoundRows as law
use Rattle.mpw_rbac.proofs.RowLemmas.{all-pass}
use Rattle.mpw_rbac.proofs.RowTests as row
use Rattle.mpw_rbac.proofs.SeparationLemmas.{parts, both, all-append, all-filter}
use Rattle.mpw_rbac_laws.proofs.KeptSessions.{kept}

pub kept-adduser : (user digest : List ℕ) → KeepsTables (λ p. rows.adduser p user digest)
kept-adduser user digest p q is k =
    let t = all-pass (row.adduser-tests p user) (row.user_added p user digest) q is in
    kept (row.adduser-tests p user) (row.user_added p user digest) q is
    (law.sound-adduser_row user digest p q is k.sound)
    (all-append _ p.users ((user, record { digest = digest; roles = [] }) ∷ []) k.names.assignments
    refl)
    (k.names.pairs)
    (k.names.grants)
    (grind (
      arith,
      k.limits,
      there.one_more p.users (user, record { digest = digest; roles = [] })
          512 t.1.0,
    ))

pub kept-deluser : (user : List ℕ) → KeepsTables (λ p. rows.deluser p user)
kept-deluser user p q is k =
    kept (row.deluser-tests p user) (trim (row.user_deleted p user)) q is
    (law.sound-deluser user p q is k.sound)
    (all-filter _ (λ e. not (name_eq user e.0)) p.users k.names.assignments) (k.names.pairs)
    (k.names.grants) (grind (arith, k.limits, there.fewer (λ e. not (name_eq user e.0)) p.users))

pub kept-addrole : (role : List ℕ) → KeepsTables (λ p. rows.addrole p role)
kept-addrole role p q is k =
    let t = all-pass (row.addrole-tests p role) (row.role_added p role) q is in
    kept (row.addrole-tests p role) (row.role_added p role) q is
    (law.sound-addrole_row role p q is k.sound)
    (there.assigns-more p.roles (with_role p.roles role) (roles-with_role p.roles role) p.users
    k.names.assignments)
    (all-append _ p.roles ((role, []) ∷ [])
    (there.leads-more p.roles (with_role p.roles role) (roles-with_role p.roles role) p.roles
    k.names.pairs) refl)
    (there.grants-more p.roles (with_role p.roles role) (roles-with_role p.roles role) p.granted
    k.names.grants)
    (grind (arith, k.limits, there.one_more p.roles (role, []) 512 t.1.0))

pub kept-delrole : (role : List ℕ) → KeepsTables (λ p. rows.delrole p role)
kept-delrole role p q is k =
    kept (row.delrole-tests p role) (trim (rows.without_role_of p role)) q is
    (law.sound-delrole role p q is k.sound)
    (there.assigns-left p.roles role p.users k.names.assignments)
    (there.leads-left p.roles role k.names.pairs)
    (there.grants-left p.roles role p.granted k.names.grants)
    (grind (
      arith,
      k.limits,
      there.same-unassigned p.users role,
      there.fewer-roles p.roles role,
      there.fewer (λ (g : Grant). not (name_eq role g.role)) p.granted,
    ))

-- a request of an assignment gives one user other roles
of-assigned : (p : Policy) (user : Name) (roles : List Name) (sessions : List (ℕ × Session))
    (tests : List rows.Test) (q : Policy)
    → decided tests (record (rows.with_assigned p user roles) { sessions = sessions }) ≡ Ok q
    → Sound q → list_all (is_role p.roles) roles ≡ true → AreTablesSound p → AreTablesSound q
of-assigned p user roles sessions tests q is sound known k =
    let value : User = record { digest = rows.digest_of_user p user; roles = roles } in
    kept tests (record (rows.with_assigned p user roles) { sessions = sessions }) q is sound
    (there.assigns-with p.roles p.users user value k.names.assignments known)
    k.names.pairs
    k.names.grants
    (grind (arith, k.limits, there.same-users p.users user value))

pub kept-assign : (user role : List ℕ) → KeepsTables (λ p. rows.assign p user role)
kept-assign user role p q is k =
    let tests = row.assign-tests p user role in
    let t = all-pass tests (row.assigned p user role) q is in
    of-assigned p user (assigned_roles p user ++ role ∷ []) p.sessions tests q is
    (law.sound-assign_row user role p q is k.sound)
    (all-append (is_role p.roles) (assigned_roles p user) (role ∷ [])
    (there.roles-assigned p.roles p.users user k.names.assignments)
    (both (is_role p.roles role) true (parts _ (is_role p.roles role) t.0).1 refl)) k

pub kept-deassign : (user role : List ℕ) → KeepsTables (λ p. rows.deassign p user role)
kept-deassign user role p q is k =
    of-assigned p user (without_name (assigned_roles p user) role)
    (trim (row.deassigned p user role)).sessions
    (row.deassign-tests p user role) q is (law.sound-deassign user role p q is k.sound)
    (there.all-without p.roles (assigned_roles p user) role
    (there.roles-assigned p.roles p.users user k.names.assignments)) k

pub kept-grant : (new : Grant) → KeepsTables (λ p. rows.grant p new)
kept-grant new p q is k =
    let t = all-pass (row.grant-tests p new) (row.grant_added p new) q is in
    kept (row.grant-tests p new) (row.grant_added p new) q is
    (law.sound-grant new p q is k.sound) k.names.assignments k.names.pairs
    (all-append _ p.granted (new ∷ []) k.names.grants
    (both (is_role p.roles new.role) true t.0 refl))
    (grind (arith, k.limits, there.one_more p.granted new 4096 t.1.1.0))

pub kept-revoke : (old : Grant) → KeepsTables (λ p. rows.revoke p old)
kept-revoke old p q is k =
    kept (row.revoke-tests p old) (row.grant_revoked p old) q is
    (law.sound-revoke old p q is k.sound)
    (k.names.assignments)
    (k.names.pairs)
    (all-filter _ (λ other. not (grant_eq old other)) p.granted k.names.grants)
    (grind (arith, k.limits, there.fewer (λ other. not (grant_eq old other)) p.granted))

-- a request of a pair gives one role other juniors
of-juniors : (p : Policy) (senior : Name) (juniors : List Name) (sessions : List (ℕ × Session))
    (tests : List rows.Test) (q : Policy)
    → decided tests (record p {
      roles = with_juniors p.roles senior juniors;
      sessions = sessions;
    }) ≡ Ok q → Sound q → list_all (is_role p.roles) juniors ≡ true → AreTablesSound p
    → AreTablesSound q
of-juniors p senior juniors sessions tests q is sound known k =
    let h = with_juniors p.roles senior juniors in
    let more = there.same-roles p.roles senior juniors in
    kept tests (record p { roles = h; sessions = sessions }) q is sound
    (there.assigns-more p.roles h more p.users k.names.assignments)
    (there.leads-juniors p.roles senior juniors k.names.pairs known)
    (there.grants-more p.roles h more p.granted k.names.grants)
    (grind (arith, k.limits, there.same-pairs p.roles senior juniors))

pub kept-inherit : (senior junior : List ℕ) → KeepsTables (λ p. rows.inherit p senior junior)
kept-inherit senior junior p q is k =
    let tests = row.inherit-tests p senior junior in
    let t = all-pass tests (row.inherited p senior junior) q is in
    of-juniors p senior (immediate_juniors p.roles senior ++ junior ∷ []) p.sessions tests q is
    (law.sound-inherit senior junior p q is k.sound)
    (all-append (is_role p.roles) (immediate_juniors p.roles senior) (junior ∷ [])
    (there.roles-linked p.roles p.roles senior k.names.pairs)
    (both (is_role p.roles junior) true
    (parts (is_role p.roles senior) (is_role p.roles junior) t.0).1 refl)) k

pub kept-uninherit : (senior junior : List ℕ) → KeepsTables (λ p. rows.uninherit p senior junior)
kept-uninherit senior junior p q is k =
    of-juniors p senior (without_name (immediate_juniors p.roles senior) junior)
    (trim (row.uninherited p senior junior)).sessions
    (row.uninherit-tests p senior junior) q is (law.sound-uninherit senior junior p q is k.sound)
    (there.all-without p.roles (immediate_juniors p.roles senior) junior
    (there.roles-linked p.roles p.roles senior k.names.pairs)) k

-- a request of a set leaves the other tables unchanged
of-sets : (p : Policy) (ssd dsd : List SeparationSet) (tests : List rows.Test) (q : Policy)
    → decided tests (record p { ssd = ssd; dsd = dsd }) ≡ Ok q → Sound q → length ssd ≤ 64
    → length dsd ≤ 64 → AreTablesSound p → AreTablesSound q
of-sets p ssd dsd tests q is sound static dynamic k =
    kept tests (record p { ssd = ssd; dsd = dsd }) q is sound k.names.assignments k.names.pairs
    k.names.grants (grind (arith, k.limits, static, dynamic))

pub kept-ssd : (connection : ℕ) (set : SeparationSet)
    → KeepsInSession AreTablesSound connection (λ p. rows.ssd p set)
kept-ssd connection set p q in' is k =
    let tests = row.ssd-tests p set in
    let t = all-pass tests (row.ssd_made p set) q is in
    of-sets p (p.ssd ++ set ∷ []) p.dsd tests q is (law.sound-ssd connection set p q in' is k.sound)
    (there.one_more p.ssd set 64 t.1.1.1.0) k.limits.dynamic k

pub kept-dsd : (connection : ℕ) (set : SeparationSet)
    → KeepsInSession AreTablesSound connection (λ p. rows.dsd p set)
kept-dsd connection set p q in' is k =
    let tests = row.dsd-tests p set in
    let t = all-pass tests (row.dsd_made p set) q is in
    of-sets p p.ssd (p.dsd ++ set ∷ []) tests q is (law.sound-dsd connection set p q in' is k.sound)
    k.limits.static (there.one_more p.dsd set 64 t.1.1.1.0) k

fewer-sets : (sets : List SeparationSet) (name : Name) → length sets ≤ 64
    → length (without_set sets name) ≤ 64
fewer-sets sets name fit = omega (
  arith,
  there.fewer (λ (set : SeparationSet). not (name_eq name set.name)) sets,
  fit,
)

pub kept-unssd : (name : List ℕ) → KeepsTables (λ p. rows.unssd p name)
kept-unssd name p q is k = of-sets p (without_set p.ssd name) p.dsd (row.unssd-tests p name) q is
    (law.sound-unssd name p q is k.sound) (fewer-sets p.ssd name k.limits.static)
    k.limits.dynamic k

pub kept-undsd : (name : List ℕ) → KeepsTables (λ p. rows.undsd p name)
kept-undsd name p q is k = of-sets p p.ssd (without_set p.dsd name) (row.undsd-tests p name) q is
    (law.sound-undsd name p q is k.sound) k.limits.static
    (fewer-sets p.dsd name k.limits.dynamic) k
