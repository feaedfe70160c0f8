-- The law of secrecy: what a session learns depends on its view alone.
use Rattle.std.specs.Prelude.{◌≡◌, ℕ, Bool, true, List, [], ◌∷◌, length}
use Rattle.mpw_requests.specs.declared.request.Request.{Request}
use Rattle.mpw_run.specs.Step.{IsRun, book_size}
use Rattle.mpw_events.specs.declared.event.Event.TheVariants as event
use Rattle.mpw_events.specs.declared.event.Response.{Response}
use Rattle.mpw_events.specs.Step.{State, after, response_of}
use Rattle.mpw_secrecy.specs.Questions.{is_listing, is_of_view}
use Rattle.mpw_secrecy.specs.Views.{SameView}

-- ---- what holds of the state of each desk

-- Its run is sound, so no two markers of a book have the same key, and a finished run has an entry for a
-- waiver of each of its markers.
pub record IsOrderly (state : State) : Type 0 where
  pub run : IsRun state.run
  pub places : length state.waivers ≡ book_size state.run.phase

-- ---- one request

-- Two desks with the same view list the same.
abbrev pub EqualViewsGiveEqualListings : Type 0
EqualViewsGiveEqualListings =
    (connection : ℕ) (a b : State) (request : Request) (kept : Bool)
    → SameView connection a b → is_listing request ≡ true
    → response_of a (event.Ask connection request) kept ≡ response_of b
    (event.Ask connection request) kept

-- After it the views are the same.
abbrev pub ListingsLeaveTheViews : Type 0
ListingsLeaveTheViews =
    (connection : ℕ) (a b : State) (request : Request) (kept : Bool)
    → SameView connection a b → is_listing request ≡ true
    → SameView connection (after a (event.Ask connection request) kept)
    (after b (event.Ask connection request) kept)

-- Two desks with the same view answer requests that a view decides identically, including `waive` and `sign`.
abbrev pub EqualViewsGiveEqualAnswers : Type 0
EqualViewsGiveEqualAnswers =
    (connection : ℕ) (a b : State) (request : Request) (kept : Bool)
    → IsOrderly a → IsOrderly b → SameView connection a b → is_of_view request ≡ true
    → response_of a (event.Ask connection request) kept ≡ response_of b
    (event.Ask connection request) kept

-- After them the views are the same, with the waiver that was asked for or signed.
abbrev pub EqualViewsStayEqual : Type 0
EqualViewsStayEqual =
    (connection : ℕ) (a b : State) (request : Request) (kept : Bool)
    → IsOrderly a → IsOrderly b → SameView connection a b → is_of_view request ≡ true
    → SameView connection (after a (event.Ask connection request) kept)
    (after b (event.Ask connection request) kept)

-- ---- lists of requests

-- A request, and whether its change is stored.
pub record Asked : Type 0 where
  pub request : Request
  pub kept : Bool

-- The answers to a connection's requests, one after another.
abbrev pub answers_to : ℕ → State → List Asked → List Response
answers_to connection state [] = []
answers_to connection state (asked ∷ rest) =
    response_of state (event.Ask connection asked.request) asked.kept
    ∷ answers_to connection (after state (event.Ask connection asked.request) asked.kept) rest

-- The state after them.
abbrev pub state_behind : ℕ → State → List Asked → State
state_behind connection state [] = state
state_behind connection state (asked ∷ rest) =
    state_behind connection (after state (event.Ask connection asked.request) asked.kept) rest

pub record SameBehind (connection : ℕ) (a b : State) (requests : List Asked) : Type 0 where
  pub answers : answers_to connection a requests ≡ answers_to connection b requests
  pub view : SameView connection (state_behind connection a requests)
      (state_behind connection b requests)

abbrev pub AreListings : List Asked → Type 0
AreListings [] = Unit {0}
AreListings (asked ∷ rest) = (is_listing asked.request ≡ true) × AreListings rest

abbrev pub EqualViewsGiveEqualLists : Type 0
EqualViewsGiveEqualLists =
    (connection : ℕ) (a b : State) (requests : List Asked) → SameView connection a b
    → AreListings requests
    → SameBehind connection a b requests

abbrev pub AreOfView : List Asked → Type 0
AreOfView [] = Unit {0}
AreOfView (asked ∷ rest) = (is_of_view asked.request ≡ true) × AreOfView rest

abbrev pub EqualViewsGiveEqualAnswersToLists : Type 0
EqualViewsGiveEqualAnswersToLists =
    (connection : ℕ) (a b : State) (requests : List Asked)
    → IsOrderly a → IsOrderly b → SameView connection a b → AreOfView requests
    → SameBehind connection a b requests

-- For two states: the answers to every list of these requests.
abbrev pub EqualViewsAreAnsweredAlike : State → State → Type 0
EqualViewsAreAnsweredAlike a b = (connection : ℕ) (requests : List Asked) → SameView connection a b
    → AreOfView requests → SameBehind connection a b requests
