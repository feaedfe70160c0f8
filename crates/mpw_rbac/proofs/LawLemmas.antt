-- After a table that accepts, the policy is its new policy, which preserves what every policy
-- preserves.
use Rattle.std.proofs.Common.{◌≡◌, ℕ, Ok, true, subst, List}
use Rattle.std.specs.Prelude.{nat_lt}
use Rattle.mpw_roles.specs.Decided.{decided}
use Rattle.mpw_separation.specs.declared.set.Kind.TheVariants.{Static, Dynamic}
use Rattle.mpw_separation.specs.Separation.{least_broken}
use Rattle.mpw_separation.specs.Set.{SeparationSet}
use Rattle.mpw_rbac.specs.Policy.{Policy, assigned_lists, active_lists}
use Rattle.mpw_rbac.specs.Laws.{KeepsSound}
use Rattle.mpw_permissions.specs.declared.permission.Grant.{Grant}
use Rattle.mpw_rbac.specs.declared.refusal.Refusal.TheVariants.{Ssd, Dsd}
use Rattle.mpw_rbac.specs.Rows as rows
use Rattle.mpw_rbac.specs.Sound.{Sound, sets_hold}
use Rattle.mpw_rbac.proofs.KeepLemmas as keep
use Rattle.mpw_rbac.proofs.RowLemmas.{decided-value, AllPass, all-pass}
use Rattle.mpw_rbac.proofs.RowTests as row
use Rattle.mpw_rbac.proofs.SeparationLemmas.{holds-of_none, test-none}

pub sound : (tests : List rows.Test) (next q : Policy) → decided tests next ≡ Ok q → Sound next
    → Sound q
sound tests next q is s = subst Sound (decided-value tests next q is) s

pub static-holds : (p : Policy) → (rows.ssd_holds p).0 ≡ true
    → sets_hold p.roles p.ssd (assigned_lists p.users) ≡ true
static-holds p t = holds-of_none p.roles p.ssd (assigned_lists p.users)
    (test-none Ssd (least_broken p.roles p.ssd (assigned_lists p.users)) t)

pub dynamic-holds : (p : Policy) → (rows.dsd_holds p).0 ≡ true
    → sets_hold p.roles p.dsd (active_lists p.sessions) ≡ true
dynamic-holds p t = holds-of_none p.roles p.dsd (active_lists p.sessions)
    (test-none Dsd (least_broken p.roles p.dsd (active_lists p.sessions)) t)

pub sound-activate_row : (connection : ℕ) (role : List ℕ)
    → KeepsSound (λ p. rows.activate p connection role)
sound-activate_row connection role p q is s =
    let t = all-pass (row.activate-tests p connection role)
    (row.activated p connection role) q is in
    sound (row.activate-tests p connection role) (row.activated p connection role) q is
    (keep.keep-activate p connection role t.0
    (dynamic-holds (row.activated p connection role) t.1.1.0)
    s)

pub sound-drop_role : (connection : ℕ) (role : List ℕ)
    → KeepsSound (λ p. rows.drop_role p connection role)
sound-drop_role connection role p q is s =
    sound (row.drop-tests p connection role) (row.dropped p connection role) q is
    (keep.keep-drop p connection role s)

-- an administrative request, by the policy after it if its tests have passed
abbrev pub Passed : row.Administration → Policy → Type 0
Passed request p = AllPass (row.tests-of request p)

pub request-sound : (request : row.Administration)
    → ((p : Policy) → Passed request p → Sound p → Sound (row.next-of request p))
    → KeepsSound (row.row-of request)
request-sound request left p q is s =
    let tests = row.tests-of request p in
    let next = row.next-of request p in
    sound tests next q is (left p (all-pass tests next q is) s)

pub sound-assign_row : (user role : List ℕ) → KeepsSound (λ p. rows.assign p user role)
sound-assign_row user role = request-sound (row.Assign user role)
    (λ p t. keep.keep-assign p user role (static-holds (row.assigned p user role) t.1.1.0))

pub sound-grant : (new : Grant) → KeepsSound (λ p. rows.grant p new)
sound-grant new = request-sound (row.AddGrant new)
    (λ p t. keep.keep-granted p (row.grant_added p new).granted)

-- a set that forbids having none of its roles would be broken by the next user or session
pub sound-ssd : (set : SeparationSet) → nat_lt 0 set.cardinality ≡ true
    → KeepsSound (λ p. rows.ssd p set)
sound-ssd set some = request-sound (row.MakeStatic set)
    (λ p t. keep.keep-made Static p set some t.1.0 (static-holds (row.ssd_made p set) t.1.1.0))

pub sound-dsd : (set : SeparationSet) → nat_lt 0 set.cardinality ≡ true
    → KeepsSound (λ p. rows.dsd p set)
sound-dsd set some = request-sound (row.MakeDynamic set)
    (λ p t. keep.keep-made Dynamic p set some t.1.0 (dynamic-holds (row.dsd_made p set) t.1.1.0))
