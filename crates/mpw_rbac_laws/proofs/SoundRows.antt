-- After each accepted request the policy is sound.
use Rattle.std.proofs.Common.{[], ℕ, Ok, ◌||◌, refl, List}
use Rattle.mpw_roles.specs.Hierarchy.{is_role}
use Rattle.mpw_separation.specs.declared.set.Kind.TheVariants.{Static, Dynamic}
use Rattle.mpw_separation.specs.Separation.{uses_role}
use Rattle.mpw_rbac.specs.Policy.{new_policy}
use Rattle.mpw_rbac.specs.Laws.{KeepsSound}
use Rattle.mpw_permissions.specs.declared.permission.Grant.{Grant}
use Rattle.mpw_rbac.specs.Rows as rows
use Rattle.mpw_rbac.specs.Sound.{Sound}
use Rattle.mpw_rbac.proofs.KeepLemmas as keep
use Rattle.mpw_rbac.proofs.KeepTrimmed as trimmed
use Rattle.mpw_rbac.proofs.RowLemmas.{all-pass, login-user}
use Rattle.mpw_rbac.proofs.RowTests as row
use Rattle.mpw_rbac.proofs.SeparationLemmas.{parts, not_true}
use Rattle.mpw_rbac.proofs.LawLemmas.{dynamic-holds, request-sound, sound, static-holds}
pub use Rattle.mpw_rbac.proofs.LawLemmas.{sound-activate_row, sound-drop_role, sound-assign_row, sound-grant}
pub use Rattle.mpw_rbac_laws.proofs.MadeSets.{sound-ssd, sound-dsd}

pub sound-new_desk : (officer digest : List ℕ) → Sound (new_policy officer digest)
sound-new_desk officer digest = record {
  sessions = refl;
  static = refl;
  dynamic = refl;
  static_proper = refl;
  dynamic_proper = refl;
}

pub sound-end_session : (connection : ℕ) → KeepsSound (λ p. Ok (rows.end_session p connection))
sound-end_session connection p q is s =
    sound [] (rows.end_session p connection) q is (keep.keep-end p connection s)

pub sound-end_sessions : KeepsSound (λ p. Ok (rows.end_sessions p))
sound-end_sessions p q is s = sound [] (rows.end_sessions p) q is (keep.keep-end_all p s)

pub sound-open_session : (connection : ℕ) (user digest : List ℕ)
    → KeepsSound (λ p. rows.open_session p connection user digest)
sound-open_session connection user digest p q is s =
    let t = all-pass (row.open-tests p connection user digest)
    (row.opened p connection user) q is in
    sound (row.open-tests p connection user digest) (row.opened p connection user) q is
    (keep.keep-open p connection user (login-user p user digest t.1.0) s)

pub sound-adduser_row : (user digest : List ℕ) → KeepsSound (λ p. rows.adduser p user digest)
sound-adduser_row user digest =
    request-sound (row.AddUser user digest) (λ p t. keep.keep-adduser p user digest)

pub sound-deluser : (user : List ℕ) → KeepsSound (λ p. rows.deluser p user)
sound-deluser user = request-sound (row.DeleteUser user) (λ p t. trimmed.keep-deluser p user)

pub sound-addrole_row : (role : List ℕ) → KeepsSound (λ p. rows.addrole p role)
sound-addrole_row role = request-sound (row.AddRole role) (λ p t. keep.keep-addrole p role)

pub sound-delrole : (role : List ℕ) → KeepsSound (λ p. rows.delrole p role)
sound-delrole role = request-sound (row.DeleteRole role) (λ p t.
    let unused = keep.unused (not_true (uses_role p.ssd role || uses_role p.dsd role) t.1.0) in
    trimmed.keep-delrole p role unused.0 unused.1)

pub sound-deassign : (user role : List ℕ) → KeepsSound (λ p. rows.deassign p user role)
sound-deassign user role =
    request-sound (row.Deassign user role) (λ p t. trimmed.keep-deassign p user role)

pub sound-revoke : (old : Grant) → KeepsSound (λ p. rows.revoke p old)
sound-revoke old = request-sound (row.Revoke old)
    (λ p t. keep.keep-granted p (row.grant_revoked p old).granted)

pub sound-inherit : (senior junior : List ℕ) → KeepsSound (λ p. rows.inherit p senior junior)
sound-inherit senior junior = request-sound (row.Inherit senior junior)
    (λ p t. trimmed.keep-inherit p senior junior
    (parts (is_role p.roles senior) (is_role p.roles junior) t.0).0
    (static-holds (row.inherited p senior junior) t.1.1.1.0)
    (dynamic-holds (row.inherited p senior junior) t.1.1.1.1.0))

pub sound-uninherit : (senior junior : List ℕ) → KeepsSound (λ p. rows.uninherit p senior junior)
sound-uninherit senior junior = request-sound (row.Uninherit senior junior)
    (λ p t. trimmed.keep-uninherit p senior junior t.0)

pub sound-unssd : (name : List ℕ) → KeepsSound (λ p. rows.unssd p name)
sound-unssd name = request-sound (row.RemoveStatic name) (λ p t. keep.keep-removed Static p name)

pub sound-undsd : (name : List ℕ) → KeepsSound (λ p. rows.undsd p name)
sound-undsd name = request-sound (row.RemoveDynamic name) (λ p t. keep.keep-removed Dynamic p name)
