-- Each session after an administrative request was there before, with all of its active roles.
use Rattle.std.proofs.Common.{◌≡◌, ℕ, Bool, true, false, cond, not, ◌||◌, ◌==◌, List, [], ◌∷◌, map, filter, Ok, refl, sym, ap, subst, ◌∙◌}
use Rattle.std.specs.List.{list_any, list_all}
use borrow.Author.Tests.{eq-eqb}
use Rattle.mpw_geom.specs.Names.{name_eq, contains_name}
use Rattle.mpw_roles.specs.Decided.{decided}
use Rattle.mpw_roles.specs.Hierarchy.{Name}
use Rattle.mpw_roles.proofs.CallerLemmas.{name_eq-refl, or_right, contains-filter}
use Rattle.mpw_rbac.specs.Laws.{IsPart}
use Rattle.mpw_rbac_laws.specs.Laws.{is_session_of, AddsNoActive}
use Rattle.mpw_rbac.specs.Policy.{Policy, authorized, is_user, kept_roles, trim}
use Rattle.mpw_rbac.specs.Rows as rows
use Rattle.mpw_rbac.specs.declared.session.Session.{Session}
use Rattle.mpw_rbac.proofs.RowLemmas.{decided-value}
use Rattle.mpw_rbac.proofs.RowTests as row
use Rattle.mpw_rbac.proofs.SeparationLemmas.{both, parts, all_imply}

all-part : (few all : List Name) → IsPart few all → list_all (contains_name all) few ≡ true
all-part [] all part = refl
all-part (x ∷ xs) all part =
    both (contains_name all x) _ (part x (ap (λ b. b || contains_name xs x) (name_eq-refl x)))
    (all-part xs all (λ r there. part r (or_right (name_eq r x) (contains_name xs r) there)))

less-session : (e : ℕ × Session) (active : List Name) → IsPart active e.1.active
    → is_session_of (e.0, record { user = e.1.user; active = active }) e ≡ true
less-session e active part = both (e.0 == e.0) _ (eq-eqb e.0 e.0 refl)
    (both (name_eq e.1.user e.1.user) _ (name_eq-refl e.1.user) (all-part active e.1.active part))

-- each session, changed to one that it was before
was-there : (f : ℕ × Session → ℕ × Session) (keep : ℕ × Session → Bool)
    → ((e : ℕ × Session) → is_session_of (f e) e ≡ true) → (es : List (ℕ × Session))
    → list_all (λ (new : ℕ × Session). list_any (is_session_of new) es) (map f (filter keep es))
    ≡ true
was-there f keep each [] = refl
was-there f keep each (e ∷ es) =
    let rest = all_imply (λ (new : ℕ × Session). list_any (is_session_of new) es)
    (λ (new : ℕ × Session). list_any (is_session_of new) (e ∷ es))
    (λ new there. or_right (is_session_of new e) (list_any (is_session_of new) es) there)
    (map f (filter keep es)) (was-there f keep each es) in
    elim (keep e) as (λ b. list_all (λ (new : ℕ × Session). list_any (is_session_of new) (e ∷ es))
    (map f (cond b (e ∷ filter keep es) (filter keep es))) ≡ true) [
      | true ↦ both (list_any (is_session_of (f e)) (e ∷ es)) _
          (ap (λ b. b || list_any (is_session_of (f e)) es) (each e)) rest
      | false ↦ rest
    ]

abbrev Stays : List (ℕ × Session) → List (ℕ × Session) → Type 0
Stays before after =
    list_all (λ (new : ℕ × Session). list_any (is_session_of new) before) after ≡ true

unmapped : (es : List (ℕ × Session)) → map (λ (e : ℕ × Session). e) es ≡ es
unmapped [] = refl
unmapped (e ∷ es) = ap (λ l. e ∷ l) (unmapped es)

stays-filter : (keep : ℕ × Session → Bool) (es : List (ℕ × Session)) → Stays es (filter keep es)
stays-filter keep es = subst (Stays es) (unmapped (filter keep es))
    (was-there (λ e. e) keep (λ e. less-session e e.1.active (λ r is. is)) es)

all-kept : (es : List (ℕ × Session)) → filter (λ (e : ℕ × Session). true) es ≡ es
all-kept [] = refl
all-kept (e ∷ es) = ap (λ l. e ∷ l) (all-kept es)

stays-same : (es : List (ℕ × Session)) → Stays es es
stays-same es = subst (Stays es) (all-kept es) (stays-filter (λ e. true) es)

kept-part : (q : Policy) (s : Session) → IsPart (kept_roles q s).active s.active
kept-part q s r is = (parts (contains_name s.active r) (contains_name (authorized q s.user) r)
    (sym (contains-filter (contains_name (authorized q s.user)) s.active r) ∙ is)).0

stays-trim : (q : Policy) → Stays q.sessions (trim q).sessions
stays-trim q = was-there (λ (e : ℕ × Session). (e.0, kept_roles q e.1))
    (λ (e : ℕ × Session). is_user q e.1.user)
    (λ e. less-session e (kept_roles q e.1).active (kept-part q e.1)) q.sessions

stays : (p : Policy) (tests : List rows.Test) (next q : Policy) → decided tests next ≡ Ok q
    → Stays p.sessions next.sessions → Stays p.sessions q.sessions
stays p tests next q is there =
    subst (λ (k : Policy). Stays p.sessions k.sessions) (decided-value tests next q is) there

pub adds-end_session : (connection : ℕ) → AddsNoActive (λ p. Ok (rows.end_session p connection))
adds-end_session connection p q is = stays p [] (rows.end_session p connection) q is
    (stays-filter (λ (e : ℕ × Session). not (connection == e.0)) p.sessions)

pub adds-end_sessions : AddsNoActive (λ p. Ok (rows.end_sessions p))
adds-end_sessions p q is = stays p [] (rows.end_sessions p) q is refl

stays-of : (request : row.Administration) (p : Policy)
    → Stays p.sessions (row.next-of request p).sessions
stays-of (row.DeleteUser user) p = stays-trim (row.user_deleted p user)
stays-of (row.DeleteRole role) p = stays-trim (rows.without_role_of p role)
stays-of (row.Deassign user role) p = stays-trim (row.deassigned p user role)
stays-of (row.Uninherit senior junior) p = stays-trim (row.uninherited p senior junior)
stays-of request p = stays-same p.sessions

pub adds-administration : (request : row.Administration) → AddsNoActive (row.row-of request)
adds-administration request p q is =
    stays p (row.tests-of request p) (row.next-of request p) q is (stays-of request p)
