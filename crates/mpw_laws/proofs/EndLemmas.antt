-- The work after an accepted run goes on until it is over.
use Rattle.std.proofs.Common.{◌≡◌, ◌∙◌, ℕ, ◌+◌, Bool, true, false, List, [], ◌∷◌, Option, Some, None, Result, Ok, Err, refl, sym, ap, subst}
use Rattle.std.proofs.lemmas.Bool.{true≢false}
use Rattle.mpw_events.specs.History.{KeptDesk, IsHandled, state_of}
use Rattle.mpw_events.specs.Step.{State, Outcome, after, guarded, no_change, outcome_by, over_run, response_of, step, not_kept_response, event_outcome}
use Rattle.mpw_events.specs.declared.event.Event.{Event}
use Rattle.mpw_events.specs.declared.event.Event.TheVariants as event
use Rattle.mpw_events.specs.declared.event.Response.{Response}
use Rattle.mpw_wafer.specs.Run.Checking as checking
use Rattle.mpw_wafer.specs.Run.Checking.{run_row}
use Rattle.mpw_job.specs.declared.job.CutJob.{CutJob}
use Rattle.mpw_replies.specs.Rows.{changing, ended_by, needed}
use Rattle.mpw_access.specs.Guard.{entered}
use Rattle.mpw_requests.specs.Needs.{need_of}
use Rattle.mpw_replies.proofs.RowParts.{passed}
use Rattle.mpw_trail.specs.declared.verdict.Code.{Code}
use Rattle.mpw_trail.specs.declared.verdict.Code.TheVariants as code
use Rattle.mpw_replies.specs.declared.reply.Line.TheVariants as line
use Rattle.mpw_replies.specs.declared.row.Ending.{Ending}
use Rattle.mpw_replies.specs.declared.row.Ending.TheVariants as ending
use Rattle.mpw_hier.specs.Items.{Item}
use Rattle.mpw_requests.specs.declared.request.Request.TheVariants as ask
use Rattle.mpw_requests.specs.declared.run.RunRequest.TheVariants.{Run}
use Rattle.mpw_run.specs.Laws.{TestsAreExact}
use Rattle.mpw_run.specs.Run.{Planned}
use Rattle.mpw_tiles.specs.Plan.{Tiling}
use Rattle.mpw_tiles.specs.Snapshots.{Snapshot, plan_for, shown}
use Rattle.mpw_laws.specs.WorkLaws.{AllAnswered, CutAnswered, IsOver, WorkEnds}
use Rattle.mpw_serve.specs.Working.{WorksCut, WorksOff, accepts, is_accepted}
use Rattle.mpw_laws.proofs.EventLemmas.{Came, came_of, step_by}
use Rattle.mpw_laws.proofs.CutLemmas.{Cuts, cut_job, uncalled_ends, called_cuts, unkept_ends, kept_checks}
use Rattle.mpw_laws.proofs.TileLemmas.{done_ends}

-- ---- the whole work

cut_ends : TestsAreExact → (d : KeptDesk) (job : CutJob) (d' : KeptDesk) (planned : Planned)
    → Cuts d planned → job ≡ cut_job (state_of d.desk).run planned
    → (cut : WorksCut d job d') → CutAnswered d job d' cut → IsOver d'
cut_ends exact d job d' planned is same WorksCut.uncut all = absurd all
cut_ends exact d job d' planned is same (WorksCut.unkept a near cut) all =
    unkept_ends exact d planned a near is (cut.job_is ∙ same) cut.came cut.handled cut.keeps all
cut_ends exact d job d' planned is same (WorksCut.kept a near far cut work) all =
    done_ends exact planned a (state_of d.desk).run.number near far
    (kept_checks exact d planned a near is (cut.job_is ∙ same) cut.came cut.handled cut.keeps
    all.0) is.plan (cut.job_is ∙ same) work all.1

off_ends : TestsAreExact → (d d' : KeptDesk) (planned : Planned) → Cuts d planned
    → (work : WorksOff d d') → AllAnswered d d' work → IsOver d'
off_ends exact d d' planned is (WorksOff.uncalled call near came without) all =
    uncalled_ends d near planned is call came without all
off_ends exact d d' planned is (WorksOff.called call job near far came taken cut) all =
    let c = called_cuts d near planned is call job came taken all.0 in cut_ends exact near job far
    planned c.0 c.1 cut all.1

-- ---- after which request

ok_is : (x y : Planned) → ◌≡◌ {A = Result Planned Code} (Ok x) (Ok y) → x ≡ y
ok_is x y e = cc

covered_plan : (s : Snapshot) (p : Planned) (o : Option Tiling) → plan_for s ≡ o
    → checking.cover_test s o ≡ Ok p → plan_for p.snapshot ≡ Some p.plan
covered_plan s p None f e = absurd cc
covered_plan s p (Some plan) f e =
    subst (λ (q : Planned). plan_for q.snapshot ≡ Some q.plan) (ok_is _ p e) f

planned_plan : (s : Snapshot) (p : Planned) (items : List Item)
    → checking.planning_over s items ≡ Ok p → plan_for p.snapshot ≡ Some p.plan
planned_plan s p [] e = absurd cc
planned_plan s p (item ∷ items) e = covered_plan s p (plan_for s) refl e

begun_plan : (s : State) (p : Planned) → run_row s.shelf s.wafer s.run ≡ Ok p
    → plan_for p.snapshot ≡ Some p.plan
unfolding run_row
begun_plan s p e =
    let free = passed (checking.at_rest s.run.phase) _ p e in
    let deck = passed (needed code.NoDeck s.wafer.deck) _ p free.2 in
    let snapshot = checking.snapshot_of deck.0 s.wafer.placings s.shelf in
    planned_plan snapshot p (shown snapshot) deck.2

abbrev begun : State → Result (Unit {0}) Ending → Result Planned Code → Outcome
begun s met row =
    guarded s met (outcome_by ending.Refused (over_run s) s
    (changing checking.RunChange.begun (λ planned. line.Run (s.run.number + 1) ∷ []) row))

wanted_run : (s : State) (connection : ℕ) (met : Result (Unit {0}) Ending)
    (row : Result Planned Code)
    → entered s.policy connection (need_of (ask.Run Run)) ≡ met
    → run_row s.shelf s.wafer s.run ≡ row
    → event_outcome s (event.Ask connection (ask.Run Run)) ≡ begun s met row
unfolding event_outcome
wanted_run s connection met row guard is =
    ap (λ m. begun s m (run_row s.shelf s.wafer s.run)) guard ∙ ap (begun s met) is

not_accepted : (why : Ending) → accepts (ended_by why) ≡ false
not_accepted (ending.Denied d) = refl
not_accepted (ending.Refused c) = refl

begun_cuts : (connection : ℕ) (r : Response) (before d : KeptDesk)
    → IsHandled before (event.Ask connection (ask.Run Run)) r d → is_accepted r ≡ true
    → (planned : Planned) × Cuts d planned
begun_cuts connection r before d is accepted =
    by (came_of before (event.Ask connection (ask.Run Run)) r d refl is)
  where
    s : State
    s = state_of before.desk

    e : Event
    e = event.Ask connection (ask.Run Run)

    never : {X : Type 0} (t : Response) → r ≡ t → is_accepted t ≡ false → X
    never t same refused = absurd (true≢false (sym accepted ∙ ap is_accepted same ∙ refused))

    by_row : (kept : Bool) → s.closed ≡ false → r ≡ response_of s e kept
        → state_of d.desk ≡ after s e kept → (met : Result (Unit {0}) Ending)
        → entered s.policy connection (need_of (ask.Run Run)) ≡ met → (row : Result Planned Code)
        → run_row s.shelf s.wafer s.run ≡ row → (planned : Planned) × Cuts d planned
    by_row kept c t now (Err why) g row f =
        let q : step s e kept ≡ begun s (Err why) row =
        step_by s e kept (begun s (Err why) row) (wanted_run s connection (Err why) row g f) false
        refl in
        never _ (t ∙ ap (λ (x : Outcome). x.response) q) (not_accepted why)
    by_row kept c t now (Ok tt) g (Err why) f =
        let q : step s e kept ≡ begun s (Ok tt) (Err why) =
        step_by s e kept (begun s (Ok tt) (Err why)) (wanted_run s connection (Ok tt) (Err why) g f)
        false refl in
        never _ (t ∙ ap (λ (x : Outcome). x.response) q) refl
    by_row true c t now (Ok tt) g (Ok planned) f =
        let q : step s e true ≡ begun s (Ok tt) (Ok planned) =
        step_by s e true (begun s (Ok tt) (Ok planned))
        (wanted_run s connection (Ok tt) (Ok planned) g f) true refl in (
          planned,
          record {
            is_open = ap (λ (x : State). x.closed) now ∙ ap (λ (x : Outcome). x.state.closed) q ∙ c;
            phase = ap (λ (x : State). x.run.phase) now ∙ ap (λ (x : Outcome). x.state.run.phase) q;
            plan = begun_plan s planned f;
          },
        )
    by_row false c t now (Ok tt) g (Ok planned) f =
        let q : step s e false ≡ no_change (not_kept_response e) (record s { closed = true }) =
        step_by s e false (begun s (Ok tt) (Ok planned))
        (wanted_run s connection (Ok tt) (Ok planned) g f) true refl in
        never _ (t ∙ ap (λ (x : Outcome). x.response) q) refl

    by : Came before e r d → (planned : Planned) × Cuts d planned
    by (Came.was_closed c t) = never _ t refl
    by (Came.was_full c t desk) = never _ t refl
    by (Came.stepped kept c t now) =
        by_row kept c t now (entered s.policy connection (need_of (ask.Run Run))) refl
        (run_row s.shelf s.wafer s.run) refl

pub work_ends : TestsAreExact → WorkEnds
work_ends exact connection response before d d' is accepted work all =
    let b =
    begun_cuts connection response before d is accepted in off_ends exact d d' b.0 b.1 work all
