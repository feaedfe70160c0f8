-- Each accepted request preserves that every active role is authorized.
use Rattle.std.proofs.Common.{[], ◌≡◌, ℕ, Ok, true, refl, subst, List}
use Rattle.mpw_roles.specs.Decided.{decided}
use Rattle.mpw_roles.specs.Hierarchy.{is_role}
use Rattle.mpw_separation.specs.Set.{SeparationSet}
use Rattle.mpw_rbac.specs.Policy.{Policy, new_policy}
use Rattle.mpw_rbac_laws.specs.Laws.{KeepsAuthorization}
use Rattle.mpw_permissions.specs.declared.permission.Grant.{Grant}
use Rattle.mpw_rbac.specs.Rows as rows
use Rattle.mpw_rbac.specs.Sound.{active_authorized}
use Rattle.mpw_rbac.proofs.KeepLemmas as keep
use Rattle.mpw_rbac.proofs.KeepTrimmed as trimmed
use Rattle.mpw_rbac.proofs.RowLemmas.{decided-value, all-pass, login-user}
use Rattle.mpw_rbac.proofs.RowTests as row
use Rattle.mpw_rbac.proofs.SeparationLemmas.{parts}
use Rattle.mpw_rbac.proofs.SoundLemmas.{sound-adduser, sound-addrole, sound-assign, sound-open, sound-end, sound-activate}
use Rattle.mpw_rbac.proofs.LawLemmas.{Passed, sound}

keeps : (tests : List rows.Test) (next q : Policy) → decided tests next ≡ Ok q
    → active_authorized next ≡ true → active_authorized q ≡ true
keeps tests next q is sound =
    subst (λ (k : Policy). active_authorized k ≡ true) (decided-value tests next q is) sound

pub keeps-new_desk : (officer digest : List ℕ)
    → active_authorized (new_policy officer digest) ≡ true
keeps-new_desk officer digest = refl

pub keeps-end_session : (connection : ℕ)
    → KeepsAuthorization (λ p. Ok (rows.end_session p connection))
keeps-end_session connection p q is s =
    keeps [] (rows.end_session p connection) q is (sound-end p connection s)

pub keeps-end_sessions : KeepsAuthorization (λ p. Ok (rows.end_sessions p))
keeps-end_sessions p q is s = keeps [] (rows.end_sessions p) q is refl

pub keeps-open_session : (connection : ℕ) (user digest : List ℕ)
    → KeepsAuthorization (λ p. rows.open_session p connection user digest)
keeps-open_session connection user digest p q is s =
    let t = all-pass (row.open-tests p connection user digest)
    (row.opened p connection user) q is in
    keeps (row.open-tests p connection user digest) (row.opened p connection user) q is
    (sound-open p connection user (login-user p user digest t.1.0) s)

pub keeps-activate : (connection : ℕ) (role : List ℕ)
    → KeepsAuthorization (λ p. rows.activate p connection role)
keeps-activate connection role p q is s =
    let t = all-pass (row.activate-tests p connection role)
    (row.activated p connection role) q is in
    keeps (row.activate-tests p connection role) (row.activated p connection role) q is
    (sound-activate p connection role t.0 s)

pub keeps-drop_role : (connection : ℕ) (role : List ℕ)
    → KeepsAuthorization (λ p. rows.drop_role p connection role)
keeps-drop_role connection role p q is s =
    keeps (row.drop-tests p connection role) (row.dropped p connection role) q
    is (keep.authorized-drop p connection role s)

request-keeps : (request : row.Administration)
    → ((p : Policy) → Passed request p → active_authorized p ≡ true
    → active_authorized (row.next-of request p) ≡ true)
    → KeepsAuthorization (row.row-of request)
request-keeps request left p q is s =
    let tests = row.tests-of request p in
    let next = row.next-of request p in
    keeps tests next q is (left p (all-pass tests next q is) s)

pub keeps-adduser : (user digest : List ℕ) → KeepsAuthorization (λ p. rows.adduser p user digest)
keeps-adduser user digest =
    request-keeps (row.AddUser user digest) (λ p t. sound-adduser p user digest)

pub keeps-deluser : (user : List ℕ) → KeepsAuthorization (λ p. rows.deluser p user)
keeps-deluser user = request-keeps (row.DeleteUser user)
    (λ p t s. trimmed.trim-authorized (row.user_deleted p user))

pub keeps-addrole : (role : List ℕ) → KeepsAuthorization (λ p. rows.addrole p role)
keeps-addrole role = request-keeps (row.AddRole role) (λ p t. sound-addrole p role)

pub keeps-delrole : (role : List ℕ) → KeepsAuthorization (λ p. rows.delrole p role)
keeps-delrole role = request-keeps (row.DeleteRole role)
    (λ p t s. trimmed.trim-authorized (rows.without_role_of p role))

pub keeps-assign : (user role : List ℕ) → KeepsAuthorization (λ p. rows.assign p user role)
keeps-assign user role = request-keeps (row.Assign user role) (λ p t. sound-assign p user role)

pub keeps-deassign : (user role : List ℕ) → KeepsAuthorization (λ p. rows.deassign p user role)
keeps-deassign user role = request-keeps (row.Deassign user role)
    (λ p t s. trimmed.trim-authorized (row.deassigned p user role))

pub keeps-grant : (new : Grant) → KeepsAuthorization (λ p. rows.grant p new)
keeps-grant new = request-keeps (row.AddGrant new) (λ p t s. s)

pub keeps-revoke : (old : Grant) → KeepsAuthorization (λ p. rows.revoke p old)
keeps-revoke old = request-keeps (row.Revoke old) (λ p t s. s)

pub keeps-inherit : (senior junior : List ℕ)
    → KeepsAuthorization (λ p. rows.inherit p senior junior)
keeps-inherit senior junior = request-keeps (row.Inherit senior junior)
    (λ p t. trimmed.authorized-inherit p senior junior
    (parts (is_role p.roles senior) (is_role p.roles junior) t.0).0)

pub keeps-uninherit : (senior junior : List ℕ)
    → KeepsAuthorization (λ p. rows.uninherit p senior junior)
keeps-uninherit senior junior = request-keeps (row.Uninherit senior junior)
    (λ p t s. trimmed.trim-authorized (row.uninherited p senior junior))

pub keeps-ssd : (set : SeparationSet) → KeepsAuthorization (λ p. rows.ssd p set)
keeps-ssd set = request-keeps (row.MakeStatic set) (λ p t s. s)

pub keeps-dsd : (set : SeparationSet) → KeepsAuthorization (λ p. rows.dsd p set)
keeps-dsd set = request-keeps (row.MakeDynamic set) (λ p t s. s)

pub keeps-unssd : (name : List ℕ) → KeepsAuthorization (λ p. rows.unssd p name)
keeps-unssd name = request-keeps (row.RemoveStatic name) (λ p t s. s)

pub keeps-undsd : (name : List ℕ) → KeepsAuthorization (λ p. rows.undsd p name)
keeps-undsd name = request-keeps (row.RemoveDynamic name) (λ p t s. s)
