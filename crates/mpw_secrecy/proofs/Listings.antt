-- Two desks with the same view list the same, and their views are unchanged after it.
use Rattle.std.proofs.Common.{◌≡◌, ◌∙◌, ℕ, Bool, true, false, cond, List, [], ◌∷◌, map, Option, None, Some, Result, Ok, Err, is_some, refl, sym, ap, subst}
use Rattle.std.specs.Prelude.{◌&&◌, not, option_map}
use Rattle.std.specs.Option.{option_map_or}
use Rattle.mpw_hier.specs.Shelved.{PresentAreOfTheirCell}
use Rattle.mpw_rbac.specs.declared.session.Identity.{Identity}
use Rattle.mpw_rbac.specs.declared.session.Session.{Session}
use Rattle.mpw_rbac.specs.Policy.{Policy, identity_of, session_of}
use Rattle.mpw_rbac.specs.Rows.{whoami}
use Rattle.mpw_requests.specs.declared.layouts.LayoutRequest.TheVariants as layout
use Rattle.mpw_requests.specs.declared.request.Request.{Request}
use Rattle.mpw_requests.specs.declared.request.Request.TheVariants as ask
use Rattle.mpw_requests.specs.declared.run.RunRequest.TheVariants as run
use Rattle.mpw_requests.specs.declared.sign_off.SignOffRequest.TheVariants as sign
use Rattle.mpw_requests.specs.Needs.{need_of}
use Rattle.mpw_replies.specs.Listing.{Listed, stored}
use Rattle.mpw_replies.specs.Rows.{listing, needed}
use Rattle.mpw_trail.specs.declared.entry.Entry.{Entry}
use Rattle.mpw_trail.specs.declared.verdict.Code.TheVariants as code
use Rattle.mpw_replies.specs.declared.reply.Reply.TheVariants as reply
use Rattle.mpw_replies.specs.declared.row.Done.{Done}
use Rattle.mpw_replies.specs.declared.row.Done.TheVariants.{Lists}
use Rattle.mpw_replies.specs.declared.row.Ending.{Ending}
use Rattle.mpw_replies.specs.declared.row.Ending.TheVariants as ending
use Rattle.mpw_access.specs.Guard.{EnteredHas, Has, entered}
use Rattle.mpw_layouts.specs.Layouts as layouts
use Rattle.mpw_signoff.specs.declared.ending.SignOffEnding.TheVariants.{Refused}
use Rattle.mpw_signoff.specs.SigningOff as signing
use Rattle.mpw_wafer.specs.Run.Checking as checking
use Rattle.mpw_run.specs.Step.{findings}
use Rattle.mpw_events.specs.declared.event.Event.TheVariants as event
use Rattle.mpw_events.specs.declared.event.Response.TheVariants as response
use Rattle.mpw_events.specs.Step.{State, Outcome, after, ending_of, guarded, identity_lines, no_change, outcome_by, outcome_of, over_policy, over_run, over_shelf, over_waivers, row_outcome, settlement, step, not_kept_response, event_outcome}
use Rattle.mpw_secrecy.specs.Questions.{is_listing}
use Rattle.mpw_secrecy.specs.Secrecy.{EqualViewsGiveEqualListings, ListingsLeaveTheViews, EqualViewsGiveEqualLists}
use Rattle.mpw_secrecy.specs.Views.{SameView}
use Rattle.mpw_secrecy.proofs.Books.{markers_alike, status_alike, waivers_alike}
use Rattle.mpw_secrecy.proofs.Cells.{cells_alike, shapes_alike}
use Rattle.mpw_secrecy.proofs.Parts.{same_entered, same_session}

-- outcomes with the same response and the same change or none, and the same view after them
pub record SameOutcome (connection : ℕ) (a b : Outcome) : Type 0 where
  pub told : a.response ≡ b.response
  pub changes : a.changes ≡ b.changes
  pub view : SameView connection a.state b.state

-- a view has nothing of the trail, nor whether the desk is closed
pub besides : (connection : ℕ) (a b : State) (first second : List Entry) (c d : Bool)
    → SameView connection a b
    → SameView connection (record a { trail = first; closed = c })
    (record b { trail = second; closed = d })
besides connection a b first second c d same = record {
  identity = same.identity;
  sight = λ is. let s = same.sight is in
      record { grants = s.grants; cells = s.cells; run = s.run; book = s.book };
}

-- ---- the guard

-- both desks deny in the same way what the connection lacks, so only what one who has it is answered is to be compared
pub entered_alike : EnteredHas → (connection : ℕ) (a b : State) (request : Request)
    → SameView connection a b
    → (Has a.policy connection (need_of request)
    → SameOutcome connection (row_outcome a connection request) (row_outcome b connection request))
    → SameOutcome connection (outcome_of a connection request) (outcome_of b connection request)
entered_alike has connection a b request same rows =
    subst (λ met. SameOutcome connection (outcome_of a connection request)
    (guarded b met (row_outcome b connection request)))
    (same_entered connection a b same (need_of request))
    (go (entered a.policy connection (need_of request)) refl)
  where
    go : (met : Result (Unit {0}) Ending) → entered a.policy connection (need_of request) ≡ met
        → SameOutcome connection (guarded a met (row_outcome a connection request))
        (guarded b met (row_outcome b connection request))
    go (Ok passed) is = rows (has a.policy connection (need_of request) is)
    go (Err why) is = record { told = refl; changes = refl; view = same }

-- ---- decision tables that list

-- equal ones have the same outcome on both desks
of_row : {A E P : Type 0} (how : E → Ending) (over other : P → State) (lines : A → List Listed)
    (connection : ℕ) (a b : State) (first : Result A E) (second : Result (Done P) E)
    → SameView connection a b → listing lines first ≡ second
    → SameOutcome connection (outcome_by how over a (listing lines first))
    (outcome_by how other b second)
of_row {A = A} {E = E} how over other lines connection a b first second same e =
    subst (λ row. SameOutcome connection (outcome_by how over a (listing lines first))
    (outcome_by how other b row)) e (go first)
  where
    go : (row : Result A E) → SameOutcome connection (outcome_by how over a (listing lines row))
        (outcome_by how other b (listing lines row))
    go (Ok x) = record { told = refl; changes = refl; view = same }
    go (Err why) = record { told = refl; changes = refl; view = same }

-- lines are the same on both desks
of_lines : {E P : Type 0} (how : E → Ending) (over other : P → State) (connection : ℕ) (a b : State)
    (first second : List Listed) → SameView connection a b → first ≡ second
    → SameOutcome connection (outcome_by how over a (Ok (Lists first)))
    (outcome_by how other b (Ok (Lists second)))
of_lines how over other connection a b first second same e =
    record { told = ap (λ l. response.Told (reply.Ok l)) e; changes = refl; view = same }

-- ---- whoami

-- the identity of a session, or another one
abbrev told_or : Identity → Option Identity → Identity
told_or other None = other
told_or other (Some who) = who

whoami_at : (policy : Policy) (other : Identity) (o : Option Session) → is_some o ≡ true
    → identity_of policy (record {
      user = option_map_or (λ (s : Session). s.user) o [];
      active = option_map_or (λ (s : Session). s.active) o [];
    })
    ≡ told_or other (option_map (identity_of policy) o)
whoami_at policy other None has = cc has
whoami_at policy other (Some s) has = refl

same_whoami : (connection : ℕ) (a b : State) → SameView connection a b
    → is_some (session_of a.policy connection) ≡ true
    → whoami a.policy connection ≡ whoami b.policy connection
same_whoami connection a b same has =
    let other = whoami b.policy connection in
    whoami_at a.policy other (session_of a.policy connection) has
    ∙ ap (told_or other) same.identity
    ∙ sym (whoami_at b.policy other (session_of b.policy connection)
    (sym (same_session connection a b same) ∙ has))

-- ---- each listing

-- a line for each; the last line is for all requests that aren't of them
pub listed : PresentAreOfTheirCell → (connection : ℕ) (a b : State) (request : Request)
    → SameView connection a b → is_listing request ≡ true
    → Has a.policy connection (need_of request)
    → SameOutcome connection (row_outcome a connection request) (row_outcome b connection request)
listed presents connection a b ask.Whoami same is has =
    of_lines ending_of (over_policy a) (over_policy b) connection a b
    (map stored (identity_lines (whoami a.policy connection)))
    (map stored (identity_lines (whoami b.policy connection))) same
    (ap (λ who. map stored (identity_lines who)) (same_whoami connection a b same has))
listed presents connection a b (ask.Layout layout.Cells) same is has =
    of_lines layouts.ending_of (over_shelf a) (over_shelf b) connection a b
    (layouts.cells a.policy a.shelf connection)
    (layouts.cells b.policy b.shelf connection) same
    (cells_alike presents connection a b same has)
listed presents connection a b (ask.Layout (layout.Shapes cell)) same is has =
    of_row layouts.ending_of (over_shelf a) (over_shelf b) (λ lines. lines) connection a b
    (layouts.shapes a.policy a.shelf connection cell) _ same
    (ap (listing (λ lines. lines)) (shapes_alike presents connection a b same cell has.0 has.1))
listed presents connection a b (ask.Run run.Status) same is has =
    of_lines ending.Refused (over_run a) (over_run b) connection a b _ _ same
    (ap (λ l. stored l ∷ []) (status_alike connection a b same has))
listed presents connection a b (ask.Run run.Markers) same is has =
    of_row ending.Refused (over_run a) (over_run b) (checking.checked_lines a.policy connection)
    connection a b (needed code.NotFinished (findings a.run.phase)) _ same
    (markers_alike code.NotFinished connection a b same has)
listed presents connection a b (ask.SignOff sign.Waivers) same is has =
    of_row signing.ending_of (over_waivers a) (over_waivers b)
    (λ f. map stored (signing.waiver_lines a.policy connection f a.waivers)) connection a b
    (needed (Refused code.NotFinished) (findings a.run.phase)) _ same
    (waivers_alike (Refused code.NotFinished) connection a b same has)
listed presents connection a b request same is has = absurd cc

-- ---- with whether the change is stored

pub settled_alike : (connection : ℕ) (a b : State) (request : Request) (kept : Bool)
    (first second : Outcome) → SameView connection a b → SameOutcome connection first second
    → SameOutcome connection (settlement a (event.Ask connection request) kept first)
    (settlement b (event.Ask connection request) kept second)
settled_alike connection a b request kept first second same both =
    let e = event.Ask connection request in
    let closed : State → State = λ s. record s { closed = true } in
    let of : Bool → State → Outcome → Outcome = λ changes s o. cond (changes && not kept)
    (no_change (not_kept_response e) (closed s)) o in
    subst (λ changes. SameOutcome connection (of changes a first) (of second.changes b second))
    (sym both.changes)
    (elim (second.changes && not kept) as
    (λ t. SameOutcome connection (cond t (no_change (not_kept_response e) (closed a)) first)
    (cond t (no_change (not_kept_response e) (closed b)) second)) [
      | true ↦ record {
        told = refl;
        changes = refl;
        view = besides connection a b a.trail b.trail true
            true same;
      }
      | false ↦ both
    ])

pub step_alike : (connection : ℕ) (a b : State) (request : Request) (kept : Bool)
    → SameView connection a b
    → SameOutcome connection (outcome_of a connection request) (outcome_of b connection request)
    → SameOutcome connection (step a (event.Ask connection request) kept)
    (step b (event.Ask connection request) kept)
unfolding step event_outcome
step_alike connection a b request kept same both = settled_alike connection a b request kept
    (outcome_of a connection request) (outcome_of b connection request) same both

pub after_alike : (connection : ℕ) (a b : State) (request : Request) (kept : Bool)
    → SameOutcome connection (step a (event.Ask connection request) kept)
    (step b (event.Ask connection request) kept)
    → SameView connection (after a (event.Ask connection request) kept)
    (after b (event.Ask connection request) kept)
after_alike connection a b request kept both =
    let e = event.Ask connection request in
    let first = step a e kept in
    let second = step b e kept in
    besides connection first.state second.state (after a e kept).trail (after b e kept).trail
    first.state.closed second.state.closed both.view

-- ---- the laws

module _ (presents : PresentAreOfTheirCell) (has : EnteredHas) where
  stepped : (connection : ℕ) (a b : State) (request : Request) (kept : Bool)
      → SameView connection a b → is_listing request ≡ true
      → SameOutcome connection (step a (event.Ask connection request) kept)
      (step b (event.Ask connection request) kept)
  stepped connection a b request kept same is = step_alike connection a b request kept same
      (entered_alike has connection a b request same
      (listed presents connection a b request same is))

  pub equal_listings : EqualViewsGiveEqualListings
  equal_listings connection a b request kept same is =
      (stepped connection a b request kept same is).told

  pub views_left : ListingsLeaveTheViews
  views_left connection a b request kept same is =
      after_alike connection a b request kept (stepped connection a b request kept same is)

  pub equal_lists : EqualViewsGiveEqualLists
  equal_lists connection a b [] same are = record { answers = refl; view = same }
  equal_lists connection a b (asked ∷ rest) same are =
      let e = event.Ask connection asked.request in
      let behind = equal_lists connection (after a e asked.kept) (after b e asked.kept) rest
      (views_left connection a b asked.request asked.kept same are.0) are.1 in
      record {
        answers = λ i. equal_listings connection a b asked.request asked.kept same are.0 i
            ∷ behind.answers i;
        view = behind.view;
      }
