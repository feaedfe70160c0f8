-- What a session may know: its view of a desk. A view consists of facts, and says nothing of requests or replies.
use Rattle.std.specs.Prelude.{◌≡◌, ℕ, ◌+◌, ◌==◌, ◌&&◌, Bool, true, List, [], ◌∷◌, ◌++◌, length, filter, is_some, slice_get, Option, None, Some, option_map, if◌then◌else◌}
use Rattle.std.specs.List.{flat_map}
use Rattle.mpw_geom.specs.declared.placing.Placing.{Placing}
use Rattle.mpw_geom.specs.Names.{by_name}
use Rattle.mpw_structures.specs.declared.element.Element.{Element}
use Rattle.mpw_deck.specs.declared.rule.Rule.{Rule}
use Rattle.mpw_hier.specs.declared.submission.Submission.{Submission}
use Rattle.mpw_hier.specs.Items.{Item}
use Rattle.mpw_hier.specs.Shelf.{present}
use Rattle.mpw_hier.specs.Values.{flat}
use Rattle.mpw_tiles.specs.Plan.{tiles}
use Rattle.mpw_markers.specs.declared.marker.Key.{Key}
use Rattle.mpw_markers.specs.declared.marker.Marker.{Marker}
use Rattle.mpw_roles.specs.Hierarchy.{Name}
use Rattle.mpw_permissions.specs.declared.permission.Object.{Object}
use Rattle.mpw_permissions.specs.declared.permission.Object.TheVariants as object
use Rattle.mpw_permissions.specs.declared.permission.Operation.{Operation}
use Rattle.mpw_permissions.specs.declared.permission.Operation.TheVariants.{Read}
use Rattle.mpw_rbac.specs.declared.session.Identity.{Identity}
use Rattle.mpw_rbac.specs.Policy.{Policy, identity_of, permits, session_of}
use Rattle.mpw_rbac.specs.Rows.{user_of}
use Rattle.mpw_replies.specs.Sight.{is_full, is_masked, met_cells}
use Rattle.mpw_access.specs.Seen.{may_read, seen_by}
use Rattle.mpw_run.specs.declared.phase.Checked.{Checked}
use Rattle.mpw_run.specs.declared.phase.Phase.{Phase}
use Rattle.mpw_run.specs.declared.phase.Phase.TheVariants.{Idle, Cutting, Checking, Finished}
use Rattle.mpw_run.specs.Run.{answered}
use Rattle.mpw_run.specs.Step.{Run}
use Rattle.mpw_waiver.specs.declared.waiver.Waiver.{Waiver}
use Rattle.mpw_waiver.specs.Signing.{own_cells}
use Rattle.mpw_waiver.specs.Waivers.{waiver_at}
use Rattle.mpw_events.specs.Step.{State}

-- ---- the session

-- Its user, with the active and the authorized roles, in alphabetical order.
abbrev pub identity_view : Policy → ℕ → Option Identity
identity_view policy connection = option_map (identity_of policy) (session_of policy connection)

-- ---- cells

-- A shape, with the cell and the version of the submission that it comes from.
pub record ShapeSeen : Type 0 where
  pub cell : Name
  pub version : ℕ
  pub placing : Placing
  pub element : Element

-- The present submission of a cell, with those of its shapes that come from cells that the session may read.
pub record CellSeen : Type 0 where
  pub version : ℕ
  pub submitter : Name
  pub shapes : List ShapeSeen

abbrev pub shape_of : Submission → Item → ShapeSeen
shape_of s item =
    record { cell = s.cell; version = s.version; placing = item.placing; element = item.element }

abbrev pub shape_seen : Policy → ℕ → Item → Option Submission → List ShapeSeen
shape_seen policy connection item None = []
shape_seen policy connection item (Some s) =
    if may_read policy connection s then shape_of s item ∷ [] else []

-- The shapes of the submission of a number.
abbrev pub shapes_seen : Policy → ℕ → List Submission → ℕ → List ShapeSeen
shapes_seen policy connection shelf number =
    flat_map (λ item. shape_seen policy connection item (slice_get shelf item.origin))
    (flat shelf number)

abbrev pub seen_at : Policy → ℕ → List Submission → ℕ → Option Submission → Option CellSeen
seen_at policy connection shelf number None = None
seen_at policy connection shelf number (Some s) =
    Some (record {
      version = s.version;
      submitter = s.submitter;
      shapes = shapes_seen policy connection
          shelf number;
    })

abbrev pub cell_at : Policy → ℕ → List Submission → Option ℕ → Option CellSeen
cell_at policy connection shelf None = None
cell_at policy connection shelf (Some number) =
    seen_at policy connection shelf number (slice_get shelf number)

-- Of a cell: nothing if it has no submission.
unfoldable pub cell_view : Policy → ℕ → List Submission → Name → Option CellSeen
cell_view policy connection shelf cell = cell_at policy connection shelf (present shelf cell)

-- ---- the run

-- How far a run is. In `checking`, how many of how many tiles are checked.
pub data Stage : Type 0 where
  resting : Stage
  cutting : Stage
  checking : ℕ → ℕ → Stage
  finished : Stage

pub record RunSeen : Type 0 where
  pub number : ℕ
  pub stage : Stage

abbrev pub stage_of : Phase → Stage
stage_of Idle = Stage.resting
stage_of (Cutting planned) = Stage.cutting
stage_of (Checking c) = Stage.checking (answered c.tiles) (tiles c.planned.plan)
stage_of (Finished f) = Stage.finished

abbrev pub run_view : Run → RunSeen
run_view run = record { number = run.number; stage = stage_of run.phase }

-- ---- the book of a finished run

-- A full marker: its key, the cells that it touches, those of which the session's user submitted what it
-- touches, and its waiver.
pub record MarkerSeen : Type 0 where
  pub key : Key
  pub cells : List Name
  pub own : List Name
  pub waiver : Option Waiver

-- A rule's name, and the count of its masked markers.
pub record RuleSeen : Type 0 where
  pub name : Name
  pub masked : ℕ

-- The full markers, and the rules of the run's deck, each in order.
pub record BookSeen : Type 0 where
  pub markers : List MarkerSeen
  pub rules : List RuleSeen

abbrev pub marker_of : List Submission → Name → Marker → Option Waiver → MarkerSeen
marker_of shelf user m waiver = record {
  key = m.key;
  cells = met_cells shelf m.met;
  own = by_name (own_cells shelf m.met user);
  waiver = waiver;
}

abbrev pub marker_seen : List Submission → List Bool → Name → Marker → Option Waiver
    → List MarkerSeen
marker_seen shelf seen user m waiver =
    if is_full seen m then marker_of shelf user m waiver ∷ [] else []

-- Those from an index of the book on.
unfoldable pub markers_seen : List Submission → List Bool → Name → List (Option Waiver) → ℕ
    → List Marker → List MarkerSeen
markers_seen shelf seen user waivers place [] = []
markers_seen shelf seen user waivers place (m ∷ book) =
    marker_seen shelf seen user m (waiver_at waivers place)
    ++ markers_seen shelf seen user waivers (place + 1) book

abbrev pub masked_of : List Bool → List Marker → ℕ → ℕ
masked_of seen book rule = length (filter (λ m. (m.key.rule == rule) && is_masked seen m) book)

-- Those from an index of the deck on.
unfoldable pub rules_seen : List Bool → List Marker → ℕ → List Rule → List RuleSeen
rules_seen seen book place [] = []
rules_seen seen book place (rule ∷ rules) =
    record { name = rule.name; masked = masked_of seen book place }
    ∷ rules_seen seen book (place + 1) rules

abbrev pub book_seen : List Submission → List Bool → Name → List (Option Waiver) → List Rule
    → List Marker → BookSeen
book_seen shelf seen user waivers rules book =
    record {
      markers = markers_seen shelf seen user waivers 0 book;
      rules = rules_seen seen book 0
          rules;
    }

-- Of what a finished run found.
abbrev pub checked_view : Policy → ℕ → List (Option Waiver) → Checked → BookSeen
checked_view policy connection waivers f =
    let shelf = f.planned.snapshot.shelf in
    book_seen shelf (seen_by policy connection shelf) (user_of policy connection) waivers
    f.planned.snapshot.deck.rules f.book

-- Nothing if no run is finished.
abbrev pub book_view : Policy → ℕ → List (Option Waiver) → Phase → Option BookSeen
book_view policy connection waivers Idle = None
book_view policy connection waivers (Cutting planned) = None
book_view policy connection waivers (Checking c) = None
book_view policy connection waivers (Finished f) = Some (checked_view policy connection waivers f)

-- ---- the view

-- Any operation on any object is granted to the acting roles of both sessions or of neither; of each cell
-- that may be read, of the run and of its book both see the same.
pub record SameSight (connection : ℕ) (a b : State) : Type 0 where
  pub grants : (operation : Operation) (object : Object)
      → permits a.policy connection operation object ≡ permits b.policy connection operation object
  pub cells : (cell : Name) → permits a.policy connection Read (object.Cell cell) ≡ true
      → cell_view a.policy connection a.shelf cell ≡ cell_view b.policy connection b.shelf cell
  pub run : run_view a.run ≡ run_view b.run
  pub book : book_view a.policy connection a.waivers a.run.phase ≡ book_view b.policy connection
      b.waivers
      b.run.phase

-- Two desks on which the sessions of a connection have the same view: both or neither have a session, of the
-- same user with the same roles, and if there is one, it sees the same.
pub record SameView (connection : ℕ) (a b : State) : Type 0 where
  pub identity : identity_view a.policy connection ≡ identity_view b.policy connection
  pub sight : is_some (session_of a.policy connection) ≡ true → SameSight connection a b
