-- Desks answer connections with the same view identically, whatever their numbers.
use Rattle.std.proofs.Common.{◌≡◌, ◌∙◌, ℕ, Bool, true, false, ◌&&◌, ◌||◌, not, List, [], ◌∷◌, ◌++◌, length, nat_lt, refl, sym, ap, subst}
use Rattle.std.specs.Prelude.{if◌then◌else◌}
use Rattle.mpw_trail.specs.declared.entry.Entry.{Entry}
use Rattle.mpw_events.specs.declared.event.Call.{Call}
use Rattle.mpw_events.specs.declared.event.Event.{Event}
use Rattle.mpw_events.specs.declared.event.Event.TheVariants as event
use Rattle.mpw_events.specs.declared.event.Response.{Response}
use Rattle.mpw_events.specs.History.{Desk, KeptDesk, Handled, CameTo, state_of, state_after, max_events, closed_response, limit_response, nothing_added, answering, handling}
use Rattle.mpw_events.specs.Step.{State, Outcome, no_change, not_kept_response, with_trail, event_outcome, response_of, step, after}
use Rattle.mpw_secrecy.specs.Secrecy.{IsOrderly, Asked, AreOfView, answers_to, state_behind, EqualViewsGiveEqualAnswersToLists}
use Rattle.mpw_secrecy.specs.Views.{SameView}
use Rattle.mpw_listing_laws.specs.Views.{Seat, HaveOneView, seat, IsOpen, Handles, AnswerOneViewAlike}
use Rattle.mpw_listing_laws.proofs.Moving.{moved, permits_moved, identity_moved, cell_moved, book_moved}
use Rattle.mpw_listing_laws.proofs.MovedSteps.{response_moved, after_moved}

-- ---- views

abbrev seat_at : ℕ → State → Seat
seat_at connection s = record { connection = connection; state = s }

to_same : (here there : ℕ) (trail : List Entry) (a b : State)
    → HaveOneView (seat_at here a) (seat_at there b)
    → SameView here a (moved here there trail b)
to_same here there trail a b v = record {
  identity = v.identity ∙ sym (identity_moved here there b.policy);
  sight = λ has.
      let s = v.sight has in
      record {
        grants = λ operation object.
            s.grants operation object
            ∙ sym (permits_moved here there b.policy operation object);
        cells = λ cell may. s.cells cell may ∙ sym (cell_moved here there b.policy b.shelf cell);
        run = s.run;
        book = s.book ∙ sym (book_moved here there b.policy b.waivers b.run.phase);
      };
}

from_same : (here there : ℕ) (trail : List Entry) (a b : State)
    → SameView here a (moved here there trail b)
    → HaveOneView (seat_at here a) (seat_at there b)
from_same here there trail a b v = record {
  identity = v.identity ∙ identity_moved here there b.policy;
  sight = λ has.
      let s = v.sight has in
      record {
        grants = λ operation object.
            s.grants operation object ∙ permits_moved here there b.policy operation object;
        cells = λ cell may. s.cells cell may ∙ cell_moved here there b.policy b.shelf cell;
        run = s.run;
        book = s.book ∙ book_moved here there b.policy b.waivers b.run.phase;
      };
}

-- ---- requests, one after another

record MovedBehind (here there : ℕ) (trail : List Entry) (s : State) (requests : List Asked) :
    Type 0 where
  answers : answers_to here (moved here there trail s) requests ≡ answers_to there s requests
  behind : List Entry
  state : state_behind here (moved here there trail s) requests
      ≡ moved here there behind (state_behind there s requests)

all_moved : (here there : ℕ) (requests : List Asked) (trail : List Entry) (s : State)
    → AreOfView requests → MovedBehind here there trail s requests
all_moved here there [] trail s of_view =
    record { answers = refl; behind = trail; state = refl }
all_moved here there (asked ∷ rest) trail s of_view =
    let e = event.Ask here asked.request in
    let next : State = after s (event.Ask there asked.request) asked.kept in
    let late : List Entry = (after (moved here there trail s) e asked.kept).trail in
    let on = after_moved here there trail s asked.request asked.kept of_view.0 in
    let more = all_moved here there rest late next of_view.1 in
    record {
      answers = ap (λ (r : Response). r
          ∷ answers_to here (after (moved here there trail s) e asked.kept) rest)
          (response_moved here there trail s asked.request asked.kept of_view.0)
          ∙ ap (λ (x : State). response_of s (event.Ask there asked.request) asked.kept
          ∷ answers_to here x rest) on
          ∙ ap (λ (rs : List Response). response_of s (event.Ask there asked.request) asked.kept
          ∷ rs) more.answers;
      behind = more.behind;
      state = ap (λ (x : State). state_behind here x rest) on ∙ more.state;
    }

-- ---- handling

state_after-append : (s : State) (first more : List Call)
    → state_after s (first ++ more) ≡ state_after (state_after s first) more
state_after-append s [] more = refl
state_after-append s (c ∷ cs) more = state_after-append (after s c.event c.kept) cs more

-- an event that changes nothing has the same step whether it counts as stored or not
step_normal : (s : State) (e : Event) (kept : Bool)
    → step s e (kept || not (event_outcome s e).changes) ≡ step s e kept
unfolding step
step_normal s e kept = go kept (event_outcome s e).changes
  where
    go : (k b : Bool) → (if b && not (k || not b)
        then no_change (not_kept_response e) (record s { closed = true })
        else event_outcome s e) ≡ (if b && not k
        then no_change (not_kept_response e) (record s { closed = true })
        else event_outcome s e)
    go true true = refl
    go true false = refl
    go false true = refl
    go false false = refl

record IsStep (connection : ℕ) (d near : KeptDesk) (asked : Asked) (told : Response) : Type 0 where
  told_is : told ≡ response_of (state_of d.desk) (event.Ask connection asked.request) asked.kept
  state_is : state_of near.desk
      ≡ after (state_of d.desk) (event.Ask connection asked.request) asked.kept

handled_step : (connection : ℕ) (d near : KeptDesk) (asked : Asked) (told : Response)
    → IsOpen d.desk
    → CameTo d (handling d.desk (event.Ask connection asked.request) asked.kept) told near
    → IsStep connection d near asked told
unfolding handling answering
handled_step connection d near asked told is came =
    go (state_of d.desk).closed (nat_lt (length d.desk.history) max_events) is.closed is.room
    came.told came.desk
  where
    e : Event
    e = event.Ask connection asked.request

    s : State
    s = state_of d.desk

    out : Bool → Bool → Handled
    out c o = if c then nothing_added (closed_response e) d.desk else if o
        then answering d.desk e asked.kept
        else nothing_added (limit_response e) d.desk

    go : (c o : Bool) → c ≡ false → o ≡ true → told ≡ (out c o).response
        → near.desk ≡ (out c o).desk → IsStep connection d near asked told
    go true o ec eo t n = absurd cc
    go false false ec eo t n = absurd cc
    go false true ec eo t n = record {
      told_is = t;
      state_is = ap state_of n ∙ state_after-append _ d.desk.history _
          ∙ ap (λ (o : Outcome). with_trail s e o) (step_normal s e asked.kept);
    }

record IsTrace (connection : ℕ) (d d' : KeptDesk) (requests : List Asked) (told : List Response) :
    Type 0 where
  told_is : told ≡ answers_to connection (state_of d.desk) requests
  state_is : state_of d'.desk ≡ state_behind connection (state_of d.desk) requests

traced : (connection : ℕ) (d : KeptDesk) (requests : List Asked) (told : List Response)
    (d' : KeptDesk) → Handles connection d requests told d'
    → IsTrace connection d d' requests told
traced connection d requests told d' (Handles.none here) =
    record { told_is = refl; state_is = refl }
traced connection d requests told d'
    (Handles.next here near far asked rest first others is came more) =
    let s = handled_step connection here near asked first is came in
    let t = traced connection near rest others far more in
    record {
      told_is = ap (λ (r : Response). r ∷ others) s.told_is
          ∙ ap (λ (rs : List Response). response_of (state_of here.desk)
          (event.Ask connection asked.request) asked.kept ∷ rs)
          (t.told_is ∙ ap (λ (x : State). answers_to connection x rest) s.state_is);
      state_is = t.state_is ∙ ap (λ (x : State). state_behind connection x rest) s.state_is;
    }

-- ---- two desks

moved_orderly : (here there : ℕ) (trail : List Entry) (s : State) → IsOrderly s
    → IsOrderly (moved here there trail s)
moved_orderly here there trail s o = record { run = o.run; places = o.places }

states_alike : EqualViewsGiveEqualAnswersToLists → (here there : ℕ) (a b : State)
    (requests : List Asked) → IsOrderly a → IsOrderly b
    → HaveOneView (seat_at here a) (seat_at there b) → AreOfView requests
    → (answers_to here a requests ≡ answers_to there b requests)
    × HaveOneView (seat_at here (state_behind here a requests))
    (seat_at there (state_behind there b requests))
states_alike law here there a b requests first second view of_view =
    let m = all_moved here there requests b.trail b of_view in
    let same = law here a (moved here there b.trail b) requests first
    (moved_orderly here there b.trail b second) (to_same here there b.trail a b view) of_view in (
      same.answers ∙ m.answers,
      from_same here there m.behind (state_behind here a requests)
          (state_behind there b requests)
          (subst (SameView here (state_behind here a requests)) m.state same.view),
    )

pub alike : EqualViewsGiveEqualAnswersToLists → (first second : Desk)
    → IsOrderly (state_of first) → IsOrderly (state_of second) → AnswerOneViewAlike first second
alike law first second o u here there a b a' b' requests answers others is are view of_view h k =
    let t = traced here a requests answers a' h in
    let r = traced there b requests others b' k in
    let s = states_alike law here there (state_of a.desk) (state_of b.desk) requests
    (subst (λ (d : Desk). IsOrderly (state_of d)) (sym is) o)
    (subst (λ (d : Desk). IsOrderly (state_of d)) (sym are) u) view of_view in
    record {
      answers_same = t.told_is ∙ s.0 ∙ sym r.told_is;
      view = subst (λ (x : State). HaveOneView (seat_at here x) (seat there b')) (sym t.state_is)
          (subst (λ (x : State). HaveOneView
          (seat_at here (state_behind here (state_of a.desk) requests)) (seat_at there x))
          (sym r.state_is) s.1);
    }
