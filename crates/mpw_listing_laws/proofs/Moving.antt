-- If a session is at another connection of a desk, the desk answers there what it answered here.
use Rattle.std.proofs.Common.{◌≡◌, ◌∙◌, ℕ, Bool, false, List, [], ◌∷◌, map, Option, None, Some, Result, Ok, is_some, refl, ap}
use Rattle.std.specs.Prelude.{◌==◌, if◌then◌else◌, option_map, slice_get}
use Rattle.std.proofs.lemmas.Bool.{eq-eqb}
use Rattle.mpw_roles.specs.Hierarchy.{Name}
use Rattle.mpw_hier.specs.declared.submission.Submission.{Submission}
use Rattle.mpw_permissions.specs.declared.permission.Object.{Object}
use Rattle.mpw_permissions.specs.declared.permission.Operation.{Operation}
use Rattle.mpw_rbac.specs.declared.session.Identity.{Identity}
use Rattle.mpw_rbac.specs.declared.session.Session.{Session}
use Rattle.mpw_rbac.specs.Policy.{Policy, permits, session_of}
use Rattle.mpw_rbac.specs.Rows as rows
use Rattle.mpw_rbac.specs.Table.{value_at}
use Rattle.mpw_layouts.specs.Layouts as layouts
use Rattle.mpw_wafer.specs.Run.Checking as checking
use Rattle.mpw_signoff.specs.SigningOff as signing
use Rattle.mpw_waiver.specs.declared.waiver.Waiver.{Waiver}
use Rattle.mpw_run.specs.Step.{Run}
use Rattle.mpw_run.specs.declared.phase.Phase.{Phase}
use Rattle.mpw_run.specs.declared.phase.Phase.TheVariants.{Idle, Cutting, Checking, Finished}
use Rattle.mpw_requests.specs.declared.sign_off.MarkerName.{MarkerName}
use Rattle.mpw_trail.specs.declared.entry.Entry.{Entry}
use Rattle.mpw_events.specs.Step.{State}
use Rattle.std.specs.List.{flat_map}
use Rattle.std.specs.Option.{option_map_or}
use Rattle.mpw_roles.specs.Decided.{decided}
use Rattle.mpw_hier.specs.Items.{Item}
use Rattle.mpw_hier.specs.Shelf.{present}
use Rattle.mpw_hier.specs.Values.{flat}
use Rattle.mpw_permissions.specs.declared.permission.Object.TheVariants as objects
use Rattle.mpw_permissions.specs.declared.permission.Operation.TheVariants.{Read}
use Rattle.mpw_rbac.specs.Policy.{identity_of, session_permits}
use Rattle.mpw_replies.specs.Listing.{stored, line_if}
use Rattle.mpw_replies.specs.Rows.{◌>>=◌, denied, listing, needed}
use Rattle.mpw_replies.specs.Sight.{book_lines}
use Rattle.mpw_trail.specs.declared.verdict.Code.TheVariants as code
use Rattle.mpw_trail.specs.declared.verdict.Denial.TheVariants as denial
use Rattle.mpw_replies.specs.declared.row.Ending.TheVariants as ending
use Rattle.mpw_layouts.specs.declared.ending.LayoutEnding.TheVariants as layout_ending
use Rattle.mpw_signoff.specs.declared.ending.SignOffEnding.{SignOffEnding}
use Rattle.mpw_requests.specs.declared.need.Need.{Need}
use Rattle.mpw_requests.specs.declared.need.Need.TheVariants as need
use Rattle.mpw_access.specs.Guard.{entered}
use Rattle.mpw_run.specs.declared.phase.Checked.{Checked}
use Rattle.mpw_run.specs.Step.{findings}
use Rattle.mpw_waiver.specs.Signing.{ask_test}
use Rattle.mpw_waiver.specs.Waivers.{waiver_at}
use Rattle.mpw_signoff.specs.declared.rows.ByUser.{ByUser}
use Rattle.mpw_signoff.specs.Named.{Named, named_in}
use Rattle.mpw_signoff.specs.WaiverLines.{lines_from}
use Rattle.mpw_secrecy.specs.Views.{ShapeSeen, CellSeen, BookSeen, shape_of, shape_seen, shapes_seen, seen_at, cell_at, book_seen}
use Rattle.mpw_secrecy.specs.Views.{identity_view, cell_view, book_view}

-- ---- the desk

-- the session alone, at that connection
abbrev pub alone_at : ℕ → Option Session → List (ℕ × Session)
alone_at here None = []
alone_at here (Some session) = (here, session) ∷ []

pub found_alone : (here : ℕ) (o : Option Session)
    → value_at (λ a b. a == b) (alone_at here o) here ≡ o
found_alone here None = refl
found_alone here (Some session) =
    ap (λ (b : Bool). if b then Some session else None) (eq-eqb here here refl)

-- the policy, and the desk, with only the session of a connection, at another
abbrev pub policy_at : ℕ → ℕ → Policy → Policy
policy_at here there policy =
    record policy { sessions = alone_at here (session_of policy there) }

abbrev pub moved : ℕ → ℕ → List Entry → State → State
moved here there trail s =
    record s { policy = policy_at here there s.policy; trail = trail }

abbrev found : ℕ → ℕ → Policy → Type 0
found here there policy =
    session_of (policy_at here there policy) here ≡ session_of policy there

here_is : (here there : ℕ) (policy : Policy) → found here there policy
here_is here there policy = found_alone here (session_of policy there)

-- ---- what is seen

abbrev May : Type 0
May = Operation → Object → Bool

pub permits_moved : (here there : ℕ) (policy : Policy) (operation : Operation) (object : Object)
    → permits (policy_at here there policy) here operation object
    ≡ permits policy there operation object
permits_moved here there policy operation object =
    ap (λ (o : Option Session).
    option_map_or (λ (session : Session). session_permits policy session operation object) o false)
    (here_is here there policy)

may_moved : (here there : ℕ) (policy : Policy)
    → permits (policy_at here there policy) here ≡ permits policy there
may_moved here there policy =
    (λ i operation object. permits_moved here there policy operation object i)

inside_moved : (here there : ℕ) (policy : Policy)
    → is_some (session_of (policy_at here there policy) here) ≡ is_some (session_of policy there)
inside_moved here there policy =
    ap (λ (o : Option Session). is_some o) (here_is here there policy)

user_moved : (here there : ℕ) (policy : Policy)
    → rows.user_of (policy_at here there policy) here ≡ rows.user_of policy there
user_moved here there policy =
    ap (λ (o : Option Session). option_map_or (λ (s : Session). s.user) o [])
    (here_is here there policy)

active_moved : (here there : ℕ) (policy : Policy)
    → rows.active_roles (policy_at here there policy) here ≡ rows.active_roles policy there
active_moved here there policy =
    ap (λ (o : Option Session). option_map_or (λ (s : Session). s.active) o [])
    (here_is here there policy)

abbrev seen_with : List Submission → May → List Bool
seen_with shelf may = map (λ (s : Submission). may Read (objects.Cell s.cell)) shelf

pub identity_moved : (here there : ℕ) (policy : Policy)
    → identity_view (policy_at here there policy) here ≡ identity_view policy there
identity_moved here there policy =
    ap (λ (o : Option Session). option_map (identity_of policy) o) (here_is here there policy)

shape_moved : (here there : ℕ) (policy : Policy) (item : Item) (o : Option Submission)
    → shape_seen (policy_at here there policy) here item o ≡ shape_seen policy there item o
shape_moved here there policy item None = refl
shape_moved here there policy item (Some s) =
    ap (λ (b : Bool). if b then shape_of s item ∷ [] else [])
    (permits_moved here there policy Read (objects.Cell s.cell))

shapes_seen_moved : (here there : ℕ) (policy : Policy) (shelf : List Submission) (number : ℕ)
    → shapes_seen (policy_at here there policy) here shelf number
    ≡ shapes_seen policy there shelf number
shapes_seen_moved here there policy shelf number =
    let same : (λ (item : Item). shape_seen (policy_at here there policy) here item
    (slice_get shelf item.origin))
    ≡ (λ (item : Item). shape_seen policy there item (slice_get shelf item.origin)) =
    (λ i item. shape_moved here there policy item (slice_get shelf item.origin) i) in
    ap (λ (f : Item → List ShapeSeen). flat_map f (flat shelf number)) same

seen_at_moved : (here there : ℕ) (policy : Policy) (shelf : List Submission) (number : ℕ)
    (o : Option Submission)
    → seen_at (policy_at here there policy) here shelf number o
    ≡ seen_at policy there shelf number o
seen_at_moved here there policy shelf number None = refl
seen_at_moved here there policy shelf number (Some s) =
    ap (λ (shapes : List ShapeSeen). let c : CellSeen = record {
      version = s.version;
      submitter = s.submitter;
      shapes = shapes;
    } in Some c) (shapes_seen_moved here there policy shelf number)

cell_at_moved : (here there : ℕ) (policy : Policy) (shelf : List Submission) (o : Option ℕ)
    → cell_at (policy_at here there policy) here shelf o ≡ cell_at policy there shelf o
cell_at_moved here there policy shelf None = refl
cell_at_moved here there policy shelf (Some number) =
    seen_at_moved here there policy shelf number (slice_get shelf number)

pub cell_moved : (here there : ℕ) (policy : Policy) (shelf : List Submission) (cell : Name)
    → cell_view (policy_at here there policy) here shelf cell ≡ cell_view policy there shelf cell
unfolding cell_view
cell_moved here there policy shelf cell =
    cell_at_moved here there policy shelf (present shelf cell)

abbrev book_by : List (Option Waiver) → Checked → May → Name → Option BookSeen
book_by waivers f may user =
    let shelf = f.planned.snapshot.shelf in
    Some (book_seen shelf (seen_with shelf may) user waivers f.planned.snapshot.deck.rules f.book)

pub book_moved : (here there : ℕ) (policy : Policy) (waivers : List (Option Waiver)) (phase : Phase)
    → book_view (policy_at here there policy) here waivers phase
    ≡ book_view policy there waivers phase
book_moved here there policy waivers Idle = refl
book_moved here there policy waivers (Cutting planned) = refl
book_moved here there policy waivers (Checking c) = refl
book_moved here there policy waivers (Finished f) =
    ap (λ (may : May). book_by waivers f may (rows.user_of (policy_at here there policy) here))
    (may_moved here there policy)
    ∙ ap (λ (user : Name). book_by waivers f (permits policy there) user)
    (user_moved here there policy)

-- ---- the guard

pub entered_moved : (here there : ℕ) (policy : Policy) (need : Need)
    → entered (policy_at here there policy) here need ≡ entered policy there need
entered_moved here there policy need.Nothing = refl
entered_moved here there policy need.Session =
    ap (λ (b : Bool). decided ((b, ending.Denied denial.Session) ∷ []) tt)
    (inside_moved here there policy)
entered_moved here there policy (need.Permission operation object) =
    λ i. decided ((inside_moved here there policy i, ending.Denied denial.Session)
    ∷ (permits_moved here there policy operation object i, denied operation object) ∷ []) tt

-- ---- decision tables

abbrev who : Policy → Name → List Name → Identity
who policy user active = identity_of policy (record { user = user; active = active })

pub whoami_moved : (here there : ℕ) (policy : Policy)
    → rows.whoami (policy_at here there policy) here ≡ rows.whoami policy there
whoami_moved here there policy =
    ap (λ (user : Name). who policy user (rows.active_roles (policy_at here there policy) here))
    (user_moved here there policy)
    ∙ ap (λ (active : List Name). who policy (rows.user_of policy there) active)
    (active_moved here there policy)

pub cells_moved : (here there : ℕ) (policy : Policy) (shelf : List Submission)
    → layouts.cells (policy_at here there policy) shelf here ≡ layouts.cells policy shelf there
cells_moved here there policy shelf =
    ap (λ (may : May). map stored (flat_map (λ (cell : Name).
    if may Read (objects.Cell cell)
    then layouts.cell_line (layouts.present_submission shelf cell)
    else []) (layouts.cells_of shelf))) (may_moved here there policy)

pub shapes_moved : (here there : ℕ) (policy : Policy) (shelf : List Submission) (cell : Name)
    → layouts.shapes (policy_at here there policy) shelf here cell
    ≡ layouts.shapes policy shelf there cell
unfolding layouts.shapes
shapes_moved here there policy shelf cell =
    ap (λ (may : May). needed (layout_ending.Refused code.NoCell) (present shelf cell) >>= λ number.
    Ok (flat_map (λ (item : Item). line_if (λ (s : Submission). may Read (objects.Cell s.cell))
    (slice_get shelf item.origin) item) (flat shelf number))) (may_moved here there policy)

pub markers_moved : {E P : Type 0} (why : E) (here there : ℕ) (policy : Policy) (r : Run)
    → listing {P = P} (checking.checked_lines (policy_at here there policy) here)
    (needed why (findings r.phase))
    ≡ listing (checking.checked_lines policy there) (needed why (findings r.phase))
markers_moved why here there policy r =
    ap (λ (may : May). listing (λ (f : Checked).
    book_lines f.planned.snapshot.deck.rules f.planned.snapshot.shelf
    (seen_with f.planned.snapshot.shelf may) f.book) (needed why (findings r.phase)))
    (may_moved here there policy)

abbrev full_by : Checked → MarkerName → May → Result Named SignOffEnding
full_by f name may = signing.if_shown (seen_with f.planned.snapshot.shelf may)
    (named_in f.planned.snapshot.deck.rules f.book name)

abbrev user_at : Name → Named → ByUser
user_at user n = record { place = n.place; user = user }

abbrev waive_by : Run → List (Option Waiver) → MarkerName → May → Name
    → Result ByUser SignOffEnding
waive_by r waivers name may user =
    signing.finished r >>= λ f. full_by f name may >>= λ n.
    signing.passes (ask_test (waiver_at waivers n.place)) >>= λ free. Ok (user_at user n)

pub waive_moved : (here there : ℕ) (policy : Policy) (r : Run) (waivers : List (Option Waiver))
    (name : MarkerName)
    → signing.waive_row (policy_at here there policy) r waivers here name
    ≡ signing.waive_row policy r waivers there name
unfolding signing.waive_row signing.full_marker
waive_moved here there policy r waivers name =
    λ i. waive_by r waivers name (may_moved here there policy i) (user_moved here there policy i)

abbrev sign_by : Run → List (Option Waiver) → MarkerName → May → Name
    → Result ByUser SignOffEnding
sign_by r waivers name may user =
    signing.finished r >>= λ f. full_by f name may >>= λ n.
    signing.apart f waivers n user >>= λ free. Ok (user_at user n)

pub sign_moved : (here there : ℕ) (policy : Policy) (r : Run) (waivers : List (Option Waiver))
    (name : MarkerName)
    → signing.sign_row (policy_at here there policy) r waivers here name
    ≡ signing.sign_row policy r waivers there name
unfolding signing.sign_row signing.full_marker
sign_moved here there policy r waivers name =
    λ i. sign_by r waivers name (may_moved here there policy i) (user_moved here there policy i)

pub waivers_moved : {P : Type 0} (here there : ℕ) (policy : Policy) (r : Run)
    (waivers : List (Option Waiver))
    → listing {P = P} (λ f. map stored
    (signing.waiver_lines (policy_at here there policy) here f waivers)) (signing.finished r)
    ≡ listing (λ f. map stored (signing.waiver_lines policy there f waivers)) (signing.finished r)
waivers_moved here there policy r waivers =
    ap (λ (may : May). listing (λ (f : Checked). map stored
    (lines_from f.planned.snapshot.deck.rules (seen_with f.planned.snapshot.shelf may) waivers 0
    f.book)) (signing.finished r)) (may_moved here there policy)
