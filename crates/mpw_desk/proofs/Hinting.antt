-- The hints fit the run after each event that was noted in them.
use Rattle.std.proofs.Common.{◌≡◌, ◌∙◌, ℕ, ◌+◌, ◌==◌, Bool, true, false, List, [], ◌∷◌, Option, None, Some, Result, Ok, Err, refl, sym, ap, subst}
use Rattle.std.specs.Prelude.{zero, suc, ◌&&◌, not, nat_lt, slice_get, slice_set, if◌then◌else◌}
use Rattle.mpw_tiles.specs.Plan.{tiles}
use Rattle.mpw_job.specs.Jobs.{CutWindows, FoundMarkers}
use Rattle.mpw_markers.specs.declared.marker.Marker.{Marker}
use Rattle.mpw_requests.specs.declared.request.Request.{Request}
use Rattle.mpw_requests.specs.declared.request.Request.TheVariants as ask
use Rattle.mpw_requests.specs.declared.run.RunRequest.{RunRequest}
use Rattle.mpw_requests.specs.declared.run.RunRequest.TheVariants as run_ask
use Rattle.mpw_replies.specs.Listing.{Listed}
use Rattle.mpw_requests.specs.Needs.{need_of}
use Rattle.mpw_access.specs.Guard.{entered}
use Rattle.mpw_replies.specs.Rows.{changing, ended_by, listing, needed}
use Rattle.mpw_trail.specs.declared.verdict.Code.{Code}
use Rattle.mpw_trail.specs.declared.verdict.Code.TheVariants as code
use Rattle.mpw_replies.specs.declared.reply.Line.{Line}
use Rattle.mpw_replies.specs.declared.reply.Line.TheVariants as line
use Rattle.mpw_replies.specs.declared.reply.Reply.TheVariants as reply
use Rattle.mpw_replies.specs.declared.row.Done.{Done}
use Rattle.mpw_replies.specs.declared.row.Done.TheVariants.{Lists, Changes}
use Rattle.mpw_replies.specs.declared.row.Ending.{Ending}
use Rattle.mpw_replies.specs.declared.row.Ending.TheVariants as ending
use Rattle.mpw_run.specs.Run.{Checks, Planned, Tile}
use Rattle.mpw_run.specs.Same.{same_snapshot, same_tile_job}
use Rattle.mpw_run.specs.Step.{Offer, Run, answered_by, begun, cut_in, findings, first_of, handed, job_of_tile, kept, left_as, next_from, offered, taken_in, tile_checked, tile_compared, tile_in}
use Rattle.mpw_run.specs.declared.phase.Phase.{Phase}
use Rattle.mpw_run.specs.declared.phase.Phase.TheVariants.{Idle, Cutting, Checking, Finished}
use Rattle.mpw_run.specs.declared.phase.RunReply.TheVariants as run_reply
use Rattle.mpw_layouts.specs.Layouts as layouts
use Rattle.mpw_signoff.specs.SigningOff as signing
use Rattle.mpw_wafer.specs.Wafers as wafers
use Rattle.mpw_wafer.specs.Run.Checking as checking
use Rattle.mpw_events.specs.declared.event.Event.{Event}
use Rattle.mpw_events.specs.declared.event.Event.TheVariants as event
use Rattle.mpw_events.specs.declared.event.Response.{Response}
use Rattle.mpw_events.specs.declared.event.Response.TheVariants as response
use Rattle.mpw_events.specs.History.{Desk, KeptDesk, IsHandled, state_of}
use Rattle.mpw_events.specs.Step.{Outcome, State, ending_of, event_outcome, guarded, no_change, not_kept_response, outcome_by, outcome_of, over_policy, over_run, over_shelf, over_wafer, over_waivers, policy_row, refused_with, row_outcome, step, whoami_row}
use Rattle.mpw_desk.specs.Hints.{Fit, HasNoJob, asked_by, asked_of, asked_of_run, noted}
use Rattle.mpw_desk.specs.declared.hints.Asked.{Asked}
use Rattle.mpw_desk.specs.declared.hints.Asked.TheVariants as asked
use Rattle.mpw_desk.specs.declared.hints.Hints.{Hints}
use Rattle.mpw_desk.specs.Steps.{MayHandIn}
use Rattle.mpw_desk.proofs.Coming.{Came, came_of}

-- ---- what is noted of an event that leaves the run unchanged

noted-refused : (a : Asked) (c : Code) (hints : Hints)
    → noted a (response.Told (reply.Refused c)) hints ≡ hints
noted-refused asked.Run c hints = refl
noted-refused asked.Cancel c hints = refl
noted-refused asked.Take c hints = refl
noted-refused asked.Else c hints = refl

noted-refusal : (e : Event) (c : Code) (hints : Hints)
    → noted (asked_by e) (refused_with e c) hints ≡ hints
noted-refusal (event.Ask connection request) c hints = noted-refused (asked_of request) c hints
noted-refusal (event.Gone connection) c hints = refl
noted-refusal (event.Take worker) c hints = refl
noted-refusal (event.Cut answer) c hints = refl
noted-refusal (event.Tile answer) c hints = refl
noted-refusal event.Restart c hints = refl

-- the note leaves unchanged whether workers are to end
pub noted-stays : (a : Asked) (r : Response) (hints : Hints)
    → (noted a r hints).is_stopped ≡ hints.is_stopped
noted-stays asked.Run (response.Told (reply.Ok lines)) hints = refl
noted-stays asked.Run (response.Told (reply.Denied why)) hints = refl
noted-stays asked.Run (response.Told (reply.Refused c)) hints = refl
noted-stays asked.Run (response.Run r) hints = refl
noted-stays asked.Run response.Gone hints = refl
noted-stays asked.Run response.Restarted hints = refl
noted-stays asked.Run response.Ended hints = refl
noted-stays asked.Cancel (response.Told (reply.Ok lines)) hints = refl
noted-stays asked.Cancel (response.Told (reply.Denied why)) hints = refl
noted-stays asked.Cancel (response.Told (reply.Refused c)) hints = refl
noted-stays asked.Cancel (response.Run r) hints = refl
noted-stays asked.Cancel response.Gone hints = refl
noted-stays asked.Cancel response.Restarted hints = refl
noted-stays asked.Cancel response.Ended hints = refl
noted-stays asked.Take (response.Told r) hints = refl
noted-stays asked.Take (response.Run (run_reply.Taken job)) hints = refl
noted-stays asked.Take (response.Run run_reply.NoJob) hints = refl
noted-stays asked.Take (response.Run run_reply.Kept) hints = refl
noted-stays asked.Take (response.Run run_reply.Finished) hints = refl
noted-stays asked.Take (response.Run run_reply.Stranger) hints = refl
noted-stays asked.Take (response.Run run_reply.Double) hints = refl
noted-stays asked.Take (response.Run run_reply.OldRun) hints = refl
noted-stays asked.Take response.Gone hints = refl
noted-stays asked.Take response.Restarted hints = refl
noted-stays asked.Take response.Ended hints = refl
noted-stays asked.Else r hints = refl

-- ---- a call for a job

-- a run in a phase has no job if that phase has none
no-job : (run : Run) (phase : Phase) → run.phase ≡ phase
    → (taken_in run phase).reply ≡ run_reply.NoJob → HasNoJob run
no-job run phase is none = ap (λ p. (taken_in run p).reply) is ∙ none

has-none : (run : Run) (phase : Phase) → run.phase ≡ phase → HasNoJob run
    → (taken_in run phase).reply ≡ run_reply.NoJob
has-none run phase is none = sym (ap (λ p. (taken_in run p).reply) is) ∙ none

handed-fits : (hints : Hints) (run : Run) (c : Checks) (offer : Option Offer)
    → run.phase ≡ Checking c → next_from 0 c.tiles ≡ offer → Fit hints run
    → Fit (noted asked.Take (response.Run (handed run c offer).reply) hints)
    (handed run c offer).run
handed-fits hints run c None is none fit =
    λ _. no-job run (Checking c) is (ap (λ o. (handed run c o).reply) none)
handed-fits hints run c (Some offer) is some fit = λ rests.
    let none : (handed run c (next_from 0 c.tiles)).reply ≡ run_reply.NoJob =
    has-none run (Checking c) is (fit rests) in
    let taken_is : (handed run c (Some offer)).reply ≡ run_reply.NoJob =
    sym (ap (λ o. (handed run c o).reply) some) ∙ none in
    absurd (cc)

taken-fits : (hints : Hints) (run : Run) (phase : Phase) → run.phase ≡ phase → Fit hints run
    → Fit (noted asked.Take (response.Run (taken_in run phase).reply) hints)
    (taken_in run phase).run
taken-fits hints run Idle is fit = λ _. no-job run Idle is refl
taken-fits hints run (Cutting planned) is fit = fit
taken-fits hints run (Checking c) is fit = handed-fits hints run c (next_from 0 c.tiles) is refl fit
taken-fits hints run (Finished f) is fit = λ _. no-job run (Finished f) is refl

-- ---- windows, and the markers of a tile

begun-fits : (hints : Hints) (run : Run) (planned : Planned) (answer : CutWindows) (same : Bool)
    → run.phase ≡ Cutting planned → Fit hints run
    → Fit hints (if same then begun run planned answer else left_as run_reply.Stranger run).run
begun-fits hints run planned answer true is fit = λ rests.
    let none = has-none run (Cutting planned) is (fit rests) in absurd (cc)
begun-fits hints run planned answer false is fit = fit

cut-fits : (hints : Hints) (run : Run) (answer : CutWindows) (phase : Phase) → run.phase ≡ phase
    → Fit hints run → Fit hints (cut_in run answer phase).run
cut-fits hints run answer Idle is fit = fit
cut-fits hints run answer (Cutting planned) is fit =
    begun-fits hints run planned answer (same_snapshot answer.job.snapshot planned.snapshot) is fit
cut-fits hints run answer (Checking c) is fit = fit
cut-fits hints run answer (Finished f) is fit = fit

cut_answered-fits : (hints : Hints) (run : Run) (answer : CutWindows) (same : Bool) → Fit hints run
    → Fit hints (if same then cut_in run answer run.phase else left_as run_reply.OldRun run).run
cut_answered-fits hints run answer true fit = cut-fits hints run answer run.phase refl fit
cut_answered-fits hints run answer false fit = fit

-- if no tile is offered, each is answered
first-some : (offer : Offer) (others : Option Offer) → first_of offer others ≡ None → ⊥
first-some offer None is = cc
first-some offer (Some other) is = cc

first-answered : (number : ℕ) (t : Tile) (ts : List Tile) (answer : Option (List Marker))
    → t.answer ≡ answer → next_from number (t ∷ ts) ≡ None → answer ≡ None → ⊥
first-answered number t ts None is none unanswered =
    first-some (record { number = number; tile = t }) (next_from (number + 1) ts)
    (sym (ap (λ a. offered a (record { number = number; tile = t }) (next_from (number + 1) ts)) is)
    ∙ none)
first-answered number t ts (Some found) is none unanswered = cc

rest-answered : (number : ℕ) (t : Tile) (ts : List Tile) (answer : Option (List Marker))
    → t.answer ≡ answer → next_from number (t ∷ ts) ≡ None → next_from (number + 1) ts ≡ None
rest-answered number t ts None is none = absurd (first-answered number t ts None is none refl)
rest-answered number t ts (Some found) is none =
    sym (ap (λ a. offered a (record { number = number; tile = t }) (next_from (number + 1) ts)) is)
    ∙ none

all-answered : (number : ℕ) (ts : List Tile) (at : ℕ) (tile : Tile) → next_from number ts ≡ None
    → slice_get ts at ≡ Some tile → tile.answer ≡ None → ⊥
all-answered number [] at tile none is unanswered = cc
all-answered number (t ∷ ts) zero tile none is unanswered =
    let same : t ≡ tile = cc in
    first-answered number t ts t.answer refl none (ap (λ (x : Tile). x.answer) same ∙ unanswered)
all-answered number (t ∷ ts) (suc at) tile none is unanswered =
    all-answered (number + 1) ts at tile (rest-answered number t ts t.answer refl none) is
    unanswered

none-handed : (run : Run) (c : Checks) (offer : Option Offer)
    → (handed run c offer).reply ≡ run_reply.NoJob → offer ≡ None
none-handed run c None is = refl
none-handed run c (Some offer) is = absurd (cc)

kept-fits : (hints : Hints) (run : Run) (c : Checks) (answer : FoundMarkers) (tile : Tile)
    (same : Bool) → run.phase ≡ Checking c
    → slice_get c.tiles answer.job.tile ≡ Some tile → tile.answer ≡ None → Fit hints run
    → Fit hints (if same
    then kept run c (slice_set c.tiles answer.job.tile (answered_by answer.markers tile))
    else left_as run_reply.Stranger run).run
kept-fits hints run c answer tile true is there unanswered fit = λ rests.
    absurd (all-answered 0 c.tiles answer.job.tile tile
    (none-handed run c (next_from 0 c.tiles) (has-none run (Checking c) is (fit rests))) there
    unanswered)
kept-fits hints run c answer tile false is there unanswered fit = fit

compared-fits : (hints : Hints) (run : Run) (c : Checks) (answer : FoundMarkers) (tile : Tile)
    (found : Option (List Marker)) → run.phase ≡ Checking c
    → slice_get c.tiles answer.job.tile ≡ Some tile → tile.answer ≡ found → Fit hints run
    → Fit hints (tile_compared run c answer tile found).run
compared-fits hints run c answer tile None is there unanswered fit =
    kept-fits hints run c answer tile
    (same_tile_job answer.job (job_of_tile run.number c answer.job.tile)) is there unanswered fit
compared-fits hints run c answer tile (Some markers) is there unanswered fit = fit

checked-fits : (hints : Hints) (run : Run) (c : Checks) (answer : FoundMarkers) (tile : Option Tile)
    → run.phase ≡ Checking c → slice_get c.tiles answer.job.tile ≡ tile → Fit hints run
    → Fit hints (tile_checked run c answer tile).run
checked-fits hints run c answer None is there fit = fit
checked-fits hints run c answer (Some tile) is there fit =
    compared-fits hints run c answer tile tile.answer is there refl fit

late-fits : (hints : Hints) (run : Run) (inside : Bool) → Fit hints run
    → Fit hints (if inside then left_as run_reply.Double run
    else left_as run_reply.Stranger run).run
late-fits hints run true fit = fit
late-fits hints run false fit = fit

tile-fits : (hints : Hints) (run : Run) (answer : FoundMarkers) (phase : Phase) → run.phase ≡ phase
    → Fit hints run → Fit hints (tile_in run answer phase).run
tile-fits hints run answer Idle is fit = fit
tile-fits hints run answer (Cutting planned) is fit = fit
tile-fits hints run answer (Checking c) is fit =
    checked-fits hints run c answer (slice_get c.tiles answer.job.tile) is refl fit
tile-fits hints run answer (Finished f) is fit =
    late-fits hints run (nat_lt answer.job.tile (tiles f.planned.plan)) fit

tile_answered-fits : (hints : Hints) (run : Run) (answer : FoundMarkers) (same : Bool)
    → Fit hints run
    → Fit hints (if same then tile_in run answer run.phase else left_as run_reply.OldRun run).run
tile_answered-fits hints run answer true fit = tile-fits hints run answer run.phase refl fit
tile_answered-fits hints run answer false fit = fit

-- ---- requests

abbrev FitAfter : Asked → Hints → Outcome → Type 0
FitAfter a hints o = Fit (noted a o.response hints) o.state.run

-- a table that lists changes no run
listed-fits : {A E P : Type 0} (hints : Hints) (ending : E → Ending) (over : P → State) (s : State)
    (lines : A → List Listed) (row : Result A E) → Fit hints s.run
    → FitAfter asked.Else hints (outcome_by ending over s (listing lines row))
listed-fits hints ending over s lines (Ok x) fit = fit
listed-fits hints ending over s lines (Err e) fit = fit

-- nor does one that changes another part of the desk
other-fits : {E P : Type 0} (hints : Hints) (ending : E → Ending) (over : P → State) (s : State)
    (row : Result (Done P) E) → ((part : P) → Fit hints (over part).run) → Fit hints s.run
    → FitAfter asked.Else hints (outcome_by ending over s row)
other-fits hints ending over s (Ok (Lists lines)) other fit = fit
other-fits hints ending over s (Ok (Changes part lines)) other fit = other part
other-fits hints ending over s (Err e) other fit = fit

begins-fits : (hints : Hints) (s : State) (lines : Planned → List Line) (row : Result Planned Code)
    → Fit hints s.run
    → FitAfter asked.Run hints (outcome_by ending.Refused (over_run s) s
    (changing checking.begun lines row))
begins-fits hints s lines (Ok planned) fit = λ rests. absurd (cc)
begins-fits hints s lines (Err c) fit = fit

leaves-fits : (hints : Hints) (s : State) (row : Result (Unit {0}) Code) → Fit hints s.run
    → FitAfter asked.Cancel hints
    (outcome_by ending.Refused (over_run s) s (changing (λ x. checking.left_off) (λ x. []) row))
leaves-fits hints s (Ok x) fit = λ rests. refl
leaves-fits hints s (Err c) fit = fit

run-fits : (hints : Hints) (s : State) (connection : ℕ) (request : RunRequest) → Fit hints s.run
    → FitAfter (asked_of_run request) hints (row_outcome s connection (ask.Run request))
run-fits hints s connection run_ask.Run fit =
    begins-fits hints s (λ planned. line.Run (s.run.number + 1) ∷ [])
    (checking.run_row s.shelf s.wafer s.run) fit
run-fits hints s connection run_ask.Cancel fit =
    leaves-fits hints s (checking.going_on s.run.phase) fit
run-fits hints s connection run_ask.Status fit = fit
run-fits hints s connection run_ask.Markers fit =
    listed-fits hints ending.Refused (over_run s) s (checking.checked_lines s.policy connection)
    (needed code.NotFinished (findings s.run.phase)) fit

row-fits : (hints : Hints) (s : State) (connection : ℕ) (request : Request) → Fit hints s.run
    → FitAfter (asked_of request) hints (row_outcome s connection request)
row-fits hints s connection (ask.Policy request) fit =
    other-fits hints ending_of (over_policy s) s (policy_row s.policy connection request) (λ p. fit)
    fit
row-fits hints s connection ask.Whoami fit =
    other-fits hints ending_of (over_policy s) s (whoami_row s.policy connection) (λ p. fit) fit
row-fits hints s connection (ask.Layout request) fit =
    other-fits hints layouts.ending_of (over_shelf s) s
    (layouts.row_of s.policy s.shelf connection request) (λ p. fit) fit
row-fits hints s connection (ask.Wafer request) fit =
    other-fits hints ending.Refused (over_wafer s) s (wafers.row_of s.shelf s.wafer request)
    (λ p. fit) fit
row-fits hints s connection (ask.Run request) fit = run-fits hints s connection request fit
row-fits hints s connection (ask.SignOff request) fit =
    other-fits hints signing.ending_of (over_waivers s) s
    (signing.row_of s.policy s.wafer s.run s.waivers connection request) (λ p. fit) fit
row-fits hints s connection ask.Trail fit = fit

-- what the guard denies leaves hints and run
denied-fits : (hints : Hints) (s : State) (a : Asked) (why : Ending) → Fit hints s.run
    → FitAfter a hints (no_change (response.Told (ended_by why)) s)
denied-fits hints s asked.Run (ending.Denied why) fit = fit
denied-fits hints s asked.Run (ending.Refused c) fit = fit
denied-fits hints s asked.Cancel (ending.Denied why) fit = fit
denied-fits hints s asked.Cancel (ending.Refused c) fit = fit
denied-fits hints s asked.Take why fit = fit
denied-fits hints s asked.Else why fit = fit

request-fits : (hints : Hints) (s : State) (connection : ℕ) (request : Request) → Fit hints s.run
    → FitAfter (asked_of request) hints (outcome_of s connection request)
request-fits hints s connection request fit =
    go (entered s.policy connection (need_of request))
  where
    go : (met : Result (Unit {0}) Ending)
        → FitAfter (asked_of request) hints (guarded s met (row_outcome s connection request))
    go (Ok passed) = row-fits hints s connection request fit
    go (Err why) = denied-fits hints s (asked_of request) why fit

-- ---- events

wanted-fits : (hints : Hints) (s : State) (e : Event) (n : ℕ) → MayHandIn n e → Fit hints s.run
    → Fit (noted (asked_by e) (event_outcome s e).response hints) (event_outcome s e).state.run
unfolding event_outcome
wanted-fits hints s (event.Ask connection request) n may fit =
    request-fits hints s connection request fit
wanted-fits hints s (event.Gone connection) n may fit = fit
wanted-fits hints s (event.Take worker) n may fit = taken-fits hints s.run s.run.phase refl fit
wanted-fits hints s (event.Cut answer) n may fit =
    cut_answered-fits hints s.run answer (s.run.number == answer.job.run) fit
wanted-fits hints s (event.Tile answer) n may fit =
    tile_answered-fits hints s.run answer (s.run.number == answer.job.run) fit
wanted-fits hints s event.Restart n may fit = absurd may

settled-fits : (hints : Hints) (s : State) (e : Event) (b : Bool) (o : Outcome) → Fit hints s.run
    → Fit (noted (asked_by e) o.response hints) o.state.run
    → Fit (noted (asked_by e) (if b
    then no_change (not_kept_response e) (record s { closed = true }) else o).response hints)
    (if b then no_change (not_kept_response e) (record s { closed = true }) else o).state.run
settled-fits hints s e true o fit wanted =
    subst (λ (h : Hints). Fit h s.run) (sym (noted-refusal e code.Store hints)) fit
settled-fits hints s e false o fit wanted = wanted

step-fits : (hints : Hints) (s : State) (e : Event) (was : Bool) (n : ℕ) → MayHandIn n e
    → Fit hints s.run
    → Fit (noted (asked_by e) (step s e was).response hints) (step s e was).state.run
unfolding step
step-fits hints s e was n may fit =
    settled-fits hints s e ((event_outcome s e).changes && not was) (event_outcome s e) fit
    (wanted-fits hints s e n may fit)

-- if nothing was added, the hints still fit
left-fits : (hints : Hints) (d d' : Desk) (e : Event) (r : Response) (c : Code) → d' ≡ d
    → r ≡ refused_with e c → Fit hints (state_of d).run
    → Fit (noted (asked_by e) r hints) (state_of d').run
left-fits hints d d' e r c same told fit =
    let noted_is : noted (asked_by e) r hints ≡ hints =
    ap (λ x. noted (asked_by e) x hints) told ∙ noted-refusal e c hints in
    subst (λ (h : Hints). Fit h (state_of d').run) (sym noted_is)
    (subst (λ (x : Desk). Fit hints (state_of x).run) (sym same) fit)

pub handled-fits : (hints : Hints) (d d' : KeptDesk) (e : Event) (r : Response) (n : ℕ)
    → MayHandIn n e → IsHandled d e r d' → Fit hints (state_of d.desk).run
    → Fit (noted (asked_by e) r hints) (state_of d'.desk).run
handled-fits hints d d' e r n may is fit = by (came_of d d' e r is)
  where
    by : Came d.desk e r d'.desk → Fit (noted (asked_by e) r hints) (state_of d'.desk).run
    by (Came.was_closed same told) =
        left-fits hints d.desk d'.desk e r code.Closed same told fit
    by (Came.was_full same told) = left-fits hints d.desk d'.desk e r code.Ended same told fit
    by (Came.stepped was told behind) =
        let s = state_of d.desk in
        subst (λ (x : Response). Fit (noted (asked_by e) x hints) (state_of d'.desk).run) (sym told)
        (subst (λ (x : State). Fit (noted (asked_by e) (step s e was).response hints) x.run)
        (sym behind) (step-fits hints s e was n may fit))

-- the hints fit a run that is unchanged
pub same-fits : (hints : Hints) (d d' : Desk) → d' ≡ d → Fit hints (state_of d).run
    → Fit hints (state_of d').run
same-fits hints d d' same fit = subst (λ (x : Desk). Fit hints (state_of x).run) (sym same) fit

-- so do hints with the same work
pub as-fit : (hints other : Hints) (run : Run) → other.has_work ≡ hints.has_work → Fit hints run
    → Fit other run
as-fit hints other run same fit = λ rests. fit (sym same ∙ rests)
