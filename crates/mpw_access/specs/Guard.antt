-- The guard: what is tested before every other test of a request.
use Rattle.std.specs.Prelude.{◌≡◌, ℕ, Bool, true, false, List, [], ◌∷◌, is_some, None, Result, Ok, Err}
use Rattle.mpw_roles.specs.Decided.{decided}
use Rattle.mpw_rbac.specs.Policy.{Policy, session_of, permits}
use Rattle.mpw_requests.specs.declared.need.Need.{Need}
use Rattle.mpw_requests.specs.declared.need.Need.TheVariants.{Nothing, Session, Permission}
use Rattle.mpw_replies.specs.Rows.{denied}
use Rattle.mpw_trail.specs.declared.verdict.Denial.TheVariants as denial
use Rattle.mpw_replies.specs.declared.row.Ending.{Ending}
use Rattle.mpw_replies.specs.declared.row.Ending.TheVariants as ending

-- The connection has a session.
abbrev pub in_session : Policy → ℕ → Bool × Ending
in_session policy connection =
    (is_some (session_of policy connection), ending.Denied denial.Session)

-- The tests of a need, in order.
abbrev pub tests : Policy → ℕ → Need → List (Bool × Ending)
tests policy connection Nothing = []
tests policy connection Session = in_session policy connection ∷ []
tests policy connection (Permission operation object) =
    in_session policy connection
    ∷ (permits policy connection operation object, denied operation object) ∷ []

-- The connection has what is needed, or the first test that fails ends the request.
abbrev pub entered : Policy → ℕ → Need → Result (Unit {0}) Ending
entered policy connection need = decided (tests policy connection need) tt

-- The connection has what is needed.
abbrev pub Has : Policy → ℕ → Need → Type 0
Has policy connection Nothing = Unit {0}
Has policy connection Session = is_some (session_of policy connection) ≡ true
Has policy connection (Permission operation object) =
    (is_some (session_of policy connection) ≡ true)
    × (permits policy connection operation object ≡ true)

-- What a denial of the guard says is missing: a session, or the permission that is needed.
abbrev pub Lacks : Policy → ℕ → Need → Ending → Type 0
Lacks policy connection need (ending.Denied denial.Session) = session_of policy connection ≡ None
Lacks policy connection need (ending.Denied (denial.Permission operation object)) =
    (need ≡ Permission operation object) × (permits policy connection operation object ≡ false)
Lacks policy connection need e = ⊥

-- Whoever enters has what is needed, and whoever has it enters.
abbrev pub EnteredHas : Type 0
EnteredHas = (policy : Policy) (connection : ℕ) (need : Need)
    → entered policy connection need ≡ Ok tt → Has policy connection need

abbrev pub HoldersEnter : Type 0
HoldersEnter = (policy : Policy) (connection : ℕ) (need : Need) → Has policy connection need
    → entered policy connection need ≡ Ok tt

-- The guard ends a request only with a denial that names what is missing.
abbrev pub DeniedIsLacked : Type 0
DeniedIsLacked = (policy : Policy) (connection : ℕ) (need : Need) (e : Ending)
    → entered policy connection need ≡ Err e → Lacks policy connection need e
