-- What the desk's step does with waivers.
use Rattle.std.proofs.Common.{◌≡◌, ℕ, ◌+◌, Bool, List, [], ◌∷◌, Err, refl, sym, ap, subst, ◌∙◌}
use Rattle.mpw_access.specs.Guard.{DeniedIsLacked, Lacks}
use Rattle.mpw_requests.specs.Needs.{need_of}
use Rattle.mpw_requests.specs.declared.request.Request.TheVariants as ask
use Rattle.mpw_requests.specs.declared.run.RunRequest.TheVariants as run_ask
use Rattle.mpw_requests.specs.declared.sign_off.MarkerName.{MarkerName}
use Rattle.mpw_requests.specs.declared.sign_off.SignOffRequest.{SignOffRequest}
use Rattle.mpw_requests.specs.declared.sign_off.SignOffRequest.TheVariants as sign_ask
use Rattle.mpw_replies.specs.Listing.{Listed, stored}
use Rattle.mpw_trail.specs.declared.verdict.Denial.{Denial}
use Rattle.mpw_trail.specs.declared.verdict.Denial.TheVariants as denial
use Rattle.mpw_replies.specs.declared.reply.Line.TheVariants as line
use Rattle.mpw_replies.specs.declared.reply.Reply.TheVariants as reply
use Rattle.mpw_replies.specs.Rows.{changing}
use Rattle.mpw_replies.specs.declared.row.Ending.TheVariants as ending
use Rattle.mpw_wafer.specs.Run.Checking as checking
use Rattle.mpw_job.specs.Jobs.{FoundMarkers}
use Rattle.mpw_run.specs.Step.{Outcome as RunOutcome, book_size, tile_answered}
use Rattle.mpw_run.specs.declared.phase.RunReply.{RunReply}
use Rattle.mpw_run.specs.declared.phase.RunReply.TheVariants as told
use Rattle.mpw_laws.specs.SignOffLaws.{AskedAreShown, AskersAreTold, CleanIsSignedOff, IsRightlyAsked, IsAsker, IsRightlySigned, IsSignedOff, IsSubmitter, SignersStandApart, SubmittersAreTold}
use Rattle.mpw_signoff.specs.declared.ending.SignOffEnding.{SignOffEnding}
use Rattle.mpw_signoff.specs.declared.ending.SignOffEnding.TheVariants.{Refused, Submitter, Asker}
use Rattle.mpw_signoff.specs.SigningOff as signing
use Rattle.mpw_signoff.specs.declared.rows.WaiverChange.TheVariants.{Asked, Signed}
use Rattle.mpw_waiver.specs.Waivers.{none_asked}
use Rattle.mpw_core.specs.Answer.{run_response}
use Rattle.mpw_events.specs.declared.event.Event.TheVariants as event
use Rattle.mpw_events.specs.declared.event.Response.TheVariants as response
use Rattle.mpw_run.specs.Laws.{finishes}
use Rattle.mpw_events.proofs.OutcomeLemmas.{ended_at}
use Rattle.mpw_events.specs.Step.{State, Outcome, of_run, over_waivers, event_outcome, step, response_of, after}
use Rattle.mpw_laws.proofs.AcceptedLemmas.{accepted, accepted_change}
use Rattle.mpw_laws.proofs.GuardLemmas.{guarded_ok, table_ended}
use Rattle.mpw_laws.proofs.RefusalLemmas.{settlement-run}

-- ---- with their run

pub runs-drop : (s : State) (connection : ℕ) (kept : Bool) (lines : List Listed)
    → response_of s (event.Ask connection (ask.Run run_ask.Run)) kept ≡ response.Told
    (reply.Ok lines)
    → (after s (event.Ask connection (ask.Run run_ask.Run)) kept).waivers ≡ []
runs-drop s connection kept lines e =
    let a = guarded_ok s connection (ask.Run run_ask.Run) kept lines e in
    let c =
    accepted_change ending.Refused _ s checking.RunChange.begun (λ planned. line.Run (s.run.number + 1) ∷ [])
    (checking.run_row s.shelf s.wafer s.run) lines a.row in
    ap (λ (o : Outcome). o.state.waivers) a.step_is ∙ ap (λ (t : State). t.waivers) c.2

same-reply : {a b : RunReply} → run_response a ≡ run_response b → a ≡ b
same-reply e = cc

finished-places : (s : State) (o : RunOutcome) → o.reply ≡ told.Finished
    → (of_run s o).state.waivers ≡ none_asked (book_size (of_run s o).state.run.phase)
finished-places s o e = rw (ap finishes e) refl

pub finishing-places : (s : State) (answer : FoundMarkers) (kept : Bool)
    → response_of s (event.Tile answer) kept ≡ run_response told.Finished
    → (after s (event.Tile answer) kept).waivers
    ≡ none_asked (book_size (after s (event.Tile answer) kept).run.phase)
unfolding step event_outcome
finishing-places s answer kept e =
    let same = settlement-run s (event.Tile answer) kept (of_run s (tile_answered s.run answer))
    told.Finished e in
    let finished : (tile_answered s.run answer).reply ≡ told.Finished =
    same-reply (ap (λ (o : Outcome). o.response) (sym same) ∙ e) in
    ap (λ (o : Outcome). o.state.waivers) same
    ∙ finished-places s (tile_answered s.run answer) finished
    ∙ ap (λ (o : Outcome). none_asked (book_size o.state.run.phase)) (sym same)

-- ---- who asks and who signs

-- a denial by a decision table of the sign-off
denied-as : DeniedIsLacked
    → (s : State) (connection : ℕ) (request : SignOffRequest) (kept : Bool) (why : Denial)
    (cause : SignOffEnding)
    → (Lacks s.policy connection (need_of (ask.SignOff request)) (ending.Denied why) → ⊥)
    → ((e : SignOffEnding) → signing.ending_of e ≡ ending.Denied why → e ≡ cause)
    → response_of s (event.Ask connection (ask.SignOff request)) kept ≡ response.Told
    (reply.Denied why)
    → signing.row_of s.policy s.wafer s.run s.waivers connection request ≡ Err cause
denied-as lacked s connection request kept why cause never back is =
    let d = ended_at signing.ending_of (over_waivers s) s _ (ending.Denied why)
    (table_ended lacked s connection (ask.SignOff request) kept (ending.Denied why) (λ e. cc) never
    is) in
    d.1.0 ∙ ap (λ e. Err e) (back d.0 d.1.1)

submitter-is : (cell : List ℕ) (e : SignOffEnding)
    → signing.ending_of e ≡ ending.Denied (denial.Submitter cell) → e ≡ Submitter cell
submitter-is cell (Refused why) is = absurd cc
submitter-is cell (Submitter other) is = cc
submitter-is cell Asker is = absurd cc

asker-is : (e : SignOffEnding) → signing.ending_of e ≡ ending.Denied denial.Asker → e ≡ Asker
asker-is (Refused why) is = absurd cc
asker-is (Submitter cell) is = absurd cc
asker-is Asker is = refl

pub asked-shown : AskedAreShown → (s : State) (connection : ℕ) (name : MarkerName) (kept : Bool)
    (lines : List Listed) → response_of s (event.Ask connection (ask.SignOff (sign_ask.Waive name)))
    kept
    ≡ response.Told (reply.Ok lines)
    → IsRightlyAsked s.policy s.run s.waivers connection name
    (after s (event.Ask connection (ask.SignOff (sign_ask.Waive name))) kept).waivers
asked-shown law s connection name kept lines e =
    let a = guarded_ok s connection (ask.SignOff (sign_ask.Waive name)) kept lines e in
    let c = accepted_change _ _ s Asked (λ by. [])
    (signing.waive_row s.policy s.run s.waivers connection name) lines a.row in
    subst (IsRightlyAsked s.policy s.run s.waivers connection name)
    (sym (ap (λ (o : Outcome). o.state.waivers) a.step_is ∙ ap (λ (t : State). t.waivers) c.2))
    (law s.policy s.wafer s.run s.waivers connection name (Asked c.0) []
    (ap (λ row. changing Asked (λ by. []) row) c.1))

pub signed-apart : SignersStandApart
    → (s : State) (connection : ℕ) (name : MarkerName) (kept : Bool) (lines : List Listed)
    → response_of s (event.Ask connection (ask.SignOff (sign_ask.Sign name))) kept ≡ response.Told
    (reply.Ok lines)
    → IsRightlySigned s.policy s.run s.waivers connection name
    (after s (event.Ask connection (ask.SignOff (sign_ask.Sign name))) kept).waivers
signed-apart law s connection name kept lines e =
    let a = guarded_ok s connection (ask.SignOff (sign_ask.Sign name)) kept lines e in
    let c = accepted_change _ _ s Signed (λ by. [])
    (signing.sign_row s.policy s.run s.waivers connection name) lines a.row in
    subst (IsRightlySigned s.policy s.run s.waivers connection name)
    (sym (ap (λ (o : Outcome). o.state.waivers) a.step_is ∙ ap (λ (t : State). t.waivers) c.2))
    (law s.policy s.wafer s.run s.waivers connection name (Signed c.0) []
    (ap (λ row. changing Signed (λ by. []) row) c.1))

pub submitter-told : DeniedIsLacked → SubmittersAreTold
    → (s : State) (connection : ℕ) (request : SignOffRequest) (kept : Bool) (cell : List ℕ)
    → response_of s (event.Ask connection (ask.SignOff request)) kept ≡ response.Told
    (reply.Denied (denial.Submitter cell))
    → (name : MarkerName) × (request ≡ sign_ask.Sign name)
    × IsSubmitter s.policy s.run connection name cell
submitter-told lacked law s connection request kept cell e =
    law s.policy s.wafer s.run s.waivers connection request cell
    (denied-as lacked s connection request kept (denial.Submitter cell) (Submitter cell) (λ no. no)
    (submitter-is cell) e)

pub asker-told : DeniedIsLacked → AskersAreTold
    → (s : State) (connection : ℕ) (request : SignOffRequest) (kept : Bool)
    → response_of s (event.Ask connection (ask.SignOff request)) kept ≡ response.Told
    (reply.Denied denial.Asker)
    → (name : MarkerName) × (request ≡ sign_ask.Sign name)
    × IsAsker s.policy s.run s.waivers connection name
asker-told lacked law s connection request kept e =
    law s.policy s.wafer s.run s.waivers connection request
    (denied-as lacked s connection request kept denial.Asker Asker (λ no. no) asker-is e)

pub clean-told : CleanIsSignedOff → (s : State) (connection : ℕ) (kept : Bool)
    → response_of s (event.Ask connection (ask.SignOff sign_ask.Verdict)) kept ≡ response.Told
    (reply.Ok (stored line.Clean ∷ []))
    → IsSignedOff s.wafer s.run s.waivers
clean-told law s connection kept e =
    let clean = stored line.Clean ∷ [] in
    accepted _ _ s _ (λ lines. lines ≡ clean → IsSignedOff s.wafer s.run s.waivers) clean
    (law s.policy s.wafer s.run s.waivers connection)
    (guarded_ok s connection (ask.SignOff sign_ask.Verdict) kept clean e).row refl
