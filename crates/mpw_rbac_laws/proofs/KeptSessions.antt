-- After an accepted request of a session, the tables are still sound.
use Rattle.std.proofs.Common.{[], ◌≡◌, ℕ, Ok, true, refl, sym, subst, List, arith}
use Rattle.mpw_roles.specs.Decided.{decided}
use Rattle.mpw_rbac_laws.specs.Existing.{assigns_roles, leads_to_roles, grants_roles, KeepsLimits, AreTablesSound, KeepsTables}
use Rattle.mpw_rbac.specs.Policy.{Policy, new_policy}
use Rattle.mpw_rbac.specs.Rows as rows
use Rattle.mpw_rbac.specs.Sound.{Sound}
use Rattle.mpw_rbac.specs.declared.session.Session.{Session}
use Rattle.mpw_rbac_laws.proofs.ExistingLemmas as there
use Rattle.mpw_rbac_laws.proofs.SoundRows as law
use Rattle.mpw_rbac.proofs.RowLemmas.{decided-value}
use Rattle.mpw_rbac.proofs.RowTests as row

-- the policy after a table is its next one, which names users and roles that exist and stays within the
-- limits
pub kept : (tests : List rows.Test) (next q : Policy) → decided tests next ≡ Ok q → Sound q
    → assigns_roles next.roles next.users ≡ true → leads_to_roles next.roles next.roles ≡ true
    → grants_roles next.roles next.granted ≡ true → KeepsLimits next → AreTablesSound q
kept tests next q is sound assignments pairs grants limits =
    let same = decided-value tests next q is in
    let s : Sound next = subst Sound (sym same) sound in
    subst AreTablesSound same (record {
      sound = s;
      names = there.names-there next s assignments
          pairs grants;
      limits = limits;
    })

pub kept-new_desk : (officer digest : List ℕ) → AreTablesSound (new_policy officer digest)
kept-new_desk officer digest =
    let p = new_policy officer digest in
    let s = law.sound-new_desk officer digest in
    record {
      sound = s;
      names = there.names-there p s refl refl refl;
      limits = record {
        users = omega arith;
        roles = omega arith;
        grants = omega arith;
        static = omega arith;
        dynamic = omega arith;
      };
    }

-- a request of a session leaves the other tables unchanged
of-sessions : (p : Policy) (sessions : List (ℕ × Session)) (tests : List rows.Test) (q : Policy)
    → decided tests (record p { sessions = sessions }) ≡ Ok q → Sound q → AreTablesSound p
    → AreTablesSound q
of-sessions p sessions tests q is sound k =
    kept tests (record p { sessions = sessions }) q is sound k.names.assignments k.names.pairs
    k.names.grants (grind (arith, k.limits))

pub kept-end_session : (connection : ℕ) → KeepsTables (λ p. Ok (rows.end_session p connection))
kept-end_session connection p q is k =
    of-sessions p (rows.end_session p connection).sessions [] q is
    (law.sound-end_session connection p q is k.sound) k

pub kept-end_sessions : KeepsTables (λ p. Ok (rows.end_sessions p))
kept-end_sessions p q is k = of-sessions p [] [] q is (law.sound-end_sessions p q is k.sound) k

pub kept-open_session : (connection : ℕ) (user digest : List ℕ)
    → KeepsTables (λ p. rows.open_session p connection user digest)
kept-open_session connection user digest p q is k =
    of-sessions p (row.opened p connection user).sessions
    (row.open-tests p connection user digest) q is
    (law.sound-open_session connection user digest p q is k.sound) k

pub kept-activate : (connection : ℕ) (role : List ℕ)
    → KeepsTables (λ p. rows.activate p connection role)
kept-activate connection role p q is k =
    of-sessions p (row.activated p connection role).sessions
    (row.activate-tests p connection role) q is
    (law.sound-activate_row connection role p q is k.sound) k

pub kept-drop_role : (connection : ℕ) (role : List ℕ)
    → KeepsTables (λ p. rows.drop_role p connection role)
kept-drop_role connection role p q is k =
    of-sessions p (row.dropped p connection role).sessions (row.drop-tests p connection role) q is
    (law.sound-drop_role connection role p q is k.sound) k
