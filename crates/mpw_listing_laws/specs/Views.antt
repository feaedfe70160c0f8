-- Views without connection numbers: what sessions of any two connections learn depends on their views alone.
use Rattle.std.specs.Prelude.{◌≡◌, ℕ, true, false, List, [], ◌∷◌, length, nat_lt, is_some}
use Rattle.mpw_roles.specs.Hierarchy.{Name}
use Rattle.mpw_permissions.specs.declared.permission.Object.{Object}
use Rattle.mpw_permissions.specs.declared.permission.Object.TheVariants as object
use Rattle.mpw_permissions.specs.declared.permission.Operation.{Operation}
use Rattle.mpw_permissions.specs.declared.permission.Operation.TheVariants.{Read}
use Rattle.mpw_rbac.specs.Policy.{permits, session_of}
use Rattle.mpw_events.specs.declared.event.Event.TheVariants as event
use Rattle.mpw_events.specs.declared.event.Response.{Response}
use Rattle.mpw_events.specs.History.{Desk, KeptDesk, CameTo, handling, max_events, state_of}
use Rattle.mpw_events.specs.Step.{State}
use Rattle.mpw_secrecy.specs.Secrecy.{Asked, AreOfView}
use Rattle.mpw_secrecy.specs.Views.{identity_view, cell_view, run_view, book_view}

-- ---- views

-- A connection of a desk in that state.
pub record Seat : Type 0 where
  pub connection : ℕ
  pub state : State

-- Any operation on any object is granted to the acting roles of both sessions or of neither; of each cell
-- that may be read, of the run and of its book both see the same.
pub record SeeTheSame (a b : Seat) : Type 0 where
  pub grants : (operation : Operation) (object : Object)
      → permits a.state.policy a.connection operation object
      ≡ permits b.state.policy b.connection operation object
  pub cells : (cell : Name) → permits a.state.policy a.connection Read (object.Cell cell) ≡ true
      → cell_view a.state.policy a.connection a.state.shelf cell
      ≡ cell_view b.state.policy b.connection b.state.shelf cell
  pub run : run_view a.state.run ≡ run_view b.state.run
  pub book : book_view a.state.policy a.connection a.state.waivers a.state.run.phase
      ≡ book_view b.state.policy b.connection b.state.waivers b.state.run.phase

-- Both or neither have a session, of the same user with the same roles, and if there is one, it sees the
-- same.
pub record HaveOneView (a b : Seat) : Type 0 where
  pub identity : identity_view a.state.policy a.connection
      ≡ identity_view b.state.policy b.connection
  pub sight : is_some (session_of a.state.policy a.connection) ≡ true → SeeTheSame a b

abbrev pub seat : ℕ → KeptDesk → Seat
seat connection d = record { connection = connection; state = state_of d.desk }

-- ---- requests, one after another

-- The desk is not closed, and its history has room.
pub record IsOpen (desk : Desk) : Type 0 where
  pub closed : (state_of desk).closed ≡ false
  pub room : nat_lt (length desk.history) max_events ≡ true

-- A desk handles a connection's requests, each while it is open, and each with its answer. Each request has
-- whether its change was stored.
pub data Handles (connection : ℕ) : KeptDesk → List Asked → List Response → KeptDesk → Type 0 where
  none : (d : KeptDesk) → Handles connection d [] [] d
  next : (d near far : KeptDesk) (asked : Asked) (rest : List Asked) (told : Response)
      (others : List Response) → IsOpen d.desk
      → CameTo d (handling d.desk (event.Ask connection asked.request) asked.kept) told near
      → Handles connection near rest others far
      → Handles connection d (asked ∷ rest) (told ∷ others) far

-- ---- the law

-- The answers of two desks, and what the connections see after them.
pub record AnswerAlike (here there : ℕ) (a b : KeptDesk) (answers others : List Response) :
    Type 0 where
  pub answers_same : answers ≡ others
  pub view : HaveOneView (seat here a) (seat there b)

-- Two desks answer requests of connections whose sessions have the same view identically, whatever the
-- connections' numbers, if both or neither store the change of each request.
abbrev pub AnswerOneViewAlike : Desk → Desk → Type 0
AnswerOneViewAlike first second =
    (here there : ℕ) (a b a' b' : KeptDesk) (requests : List Asked) (answers others : List Response)
    → a.desk ≡ first → b.desk ≡ second → HaveOneView (seat here a) (seat there b)
    → AreOfView requests
    → Handles here a requests answers a' → Handles there b requests others b'
    → AnswerAlike here there a' b' answers others
