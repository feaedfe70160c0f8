-- A run before its cut: who takes its job cuts it, and the tiles come next.
use Rattle.std.proofs.Common.{◌≡◌, ◌∙◌, ◌<◌, ◌≤◌, ◌⊎◌, ℕ, Bool, true, false, List, get_or, length, Option, Some, None, refl, sym, ap, arith, inl, inr}
use Rattle.std.specs.Prelude.{slice_get, if◌then◌else◌}
use Rattle.std.proofs.lemmas.Bool.{true≢false, eq-eqb}
use Rattle.std.proofs.lemmas.List.{length-replicate}
use Rattle.std.proofs.lemmas.Option.{none-some, same_Some, slice_get-get_or}
use Rattle.mpw_events.specs.History.{KeptDesk, IsHandled, state_of}
use Rattle.mpw_events.specs.Step.{of_run}
use Rattle.mpw_events.specs.declared.event.Event.TheVariants as event
use Rattle.mpw_events.specs.declared.event.Response.{Response}
use Rattle.mpw_events.specs.declared.event.Response.TheVariants as response
use Rattle.mpw_job.specs.Jobs.{CutWindows}
use Rattle.mpw_job.specs.declared.job.CutJob.{CutJob}
use Rattle.mpw_run.specs.declared.phase.Phase.{Phase}
use Rattle.mpw_run.specs.declared.phase.Phase.TheVariants.{Cutting, Checking}
use Rattle.mpw_run.specs.declared.phase.RunReply.TheVariants as told
use Rattle.mpw_run.specs.Laws.{TestsAreExact}
use Rattle.mpw_run.specs.Run.{Planned, Tile, answered as answered_of}
use Rattle.mpw_run.specs.Step as run
use Rattle.mpw_run.proofs.Opened.{some_tile}
use Rattle.mpw_run.proofs.TileLists.{new_answered, new_get, new_tile}
use Rattle.mpw_tiles.specs.Plan.{tiles}
use Rattle.mpw_tiles.specs.Snapshots.{plan_for}
use Rattle.mpw_tiles.specs.declared.listing.Rectangle.{Rectangle}
use Rattle.mpw_laws.specs.WorkLaws.{IsAnswered, IsOver}
use Rattle.mpw_serve.specs.Working.{CameOf, cut_of_call, cut_of_response, is_kept, own_worker, was_kept}
use Rattle.mpw_laws.proofs.EventLemmas.{wanted_take, wanted_cut, Took, came_quiet}

-- ---- a run before its cut

pub record Cuts (d : KeptDesk) (planned : Planned) : Type 0 where
  pub is_open : (state_of d.desk).closed ≡ false
  pub phase : (state_of d.desk).run.phase ≡ Cutting planned
  pub plan : plan_for planned.snapshot ≡ Some planned.plan

-- a run whose first tiles are answered, up to an index
pub record Checks_at (d : KeptDesk) (planned : Planned) (windows : List (List Rectangle))
    (number k : ℕ) : Type 0 where
  pub is_open : (state_of d.desk).closed ≡ false
  pub number_is : (state_of d.desk).run.number ≡ number
  pub xs : List Tile
  pub phase : (state_of d.desk).run.phase
      ≡ Checking (record { planned = planned; windows = windows; tiles = xs })
  pub count : length xs ≡ tiles planned.plan
  pub done : answered_of xs ≡ k
  pub left : k < tiles planned.plan
  pub unanswered : (j : ℕ) → k ≤ j → j < tiles planned.plan → (x : Tile) × (slice_get xs j ≡ Some x)
      × (x.answer ≡ None)

abbrev pub cut_job : run.Run → Planned → CutJob
cut_job r planned = let j : CutJob = record { run = r.number; snapshot = planned.snapshot } in j

take_cutting : (d : KeptDesk) (planned : Planned) (r : Response) (d' : KeptDesk) → Cuts d planned
    → IsHandled d (event.Take own_worker) r d'
    → (IsOver d' × (r ≡ response.Ended))
    ⊎ Took d (run.taken_in (state_of d.desk).run (Cutting planned)) r d'
take_cutting d planned r d' is handled =
    came_quiet d (event.Take own_worker) r d' _ refl refl is.is_open
    (wanted_take (state_of d.desk) own_worker
    ∙ ap (λ (p : Phase). of_run (state_of d.desk) (run.taken_in (state_of d.desk).run p))
    is.phase) refl handled

pub uncalled_ends : (d d' : KeptDesk) (planned : Planned) → Cuts d planned
    → (call : Option Response) → CameOf d (event.Take own_worker) call d' → cut_of_call call ≡ None
    → IsAnswered call → IsOver d'
uncalled_ends d d' planned is None handled without all = absurd all
uncalled_ends d d' planned is (Some r) handled without all =
    elim (take_cutting d planned r d' is handled) [
      | inl over ↦ over.0
      | inr took ↦ absurd (none-some _ (sym without ∙ ap cut_of_response took.told))
    ]

pub called_cuts : (d near : KeptDesk) (planned : Planned) → Cuts d planned
    → (call : Option Response) (job : CutJob) → CameOf d (event.Take own_worker) call near
    → cut_of_call call ≡ Some job → IsAnswered call
    → Cuts near planned × (job ≡ cut_job (state_of near.desk).run planned)
called_cuts d near planned is None job handled taken all = absurd all
called_cuts d near planned is (Some r) job handled taken all =
    elim (take_cutting d planned r near is handled) [
      | inl over ↦ absurd (none-some _ (sym (ap cut_of_response over.1) ∙ taken))
      | inr took ↦ (
        record {
          is_open = took.is_open;
          phase = ap (λ (x : run.Run). x.phase) took.run_is
              ∙ is.phase;
          plan = is.plan;
        },
        same_Some _ _ (sym taken ∙ ap cut_of_response took.told)
            ∙ ap (λ (x : run.Run). cut_job x planned)
            (sym took.run_is),
      )
    ]

cut_is : TestsAreExact → (r : run.Run) (planned : Planned) (a : CutWindows)
    → r.phase ≡ Cutting planned → a.job ≡ cut_job r planned
    → run.cut_answered r a ≡ run.begun r planned a
cut_is exact r planned a phase job =
    ap (λ (b : Bool). if b then run.cut_in r a r.phase else run.left_as told.OldRun r)
    (eq-eqb r.number a.job.run (sym (ap (λ (j : CutJob). j.run) job)))
    ∙ ap (λ (p : Phase). run.cut_in r a p) phase
    ∙ ap (λ (b : Bool). if b then run.begun r planned a else run.left_as told.Stranger r)
    ((exact.snapshots _ _).1 (ap (λ (j : CutJob). j.snapshot) job))

cut_came : TestsAreExact → (d : KeptDesk) (planned : Planned) (a : CutWindows) (r : Response)
    (d' : KeptDesk) → Cuts d planned → a.job ≡ cut_job (state_of d.desk).run planned
    → IsHandled d (event.Cut a) r d'
    → (IsOver d' × (r ≡ response.Ended)) ⊎ Took d (run.begun (state_of d.desk).run planned a) r d'
cut_came exact d planned a r d' is job handled =
    came_quiet d (event.Cut a) r d' _ refl refl is.is_open
    (wanted_cut (state_of d.desk) a ∙ ap (of_run (state_of d.desk))
    (cut_is exact (state_of d.desk).run planned a is.phase job)) refl handled

pub unkept_ends : TestsAreExact → (d : KeptDesk) (planned : Planned) (a : CutWindows)
    (d' : KeptDesk) → Cuts d planned → a.job ≡ cut_job (state_of d.desk).run planned
    → (came : Option Response) → CameOf d (event.Cut a) came d' → was_kept came ≡ false
    → IsAnswered came → IsOver d'
unkept_ends exact d planned a d' is job None handled keeps all = absurd all
unkept_ends exact d planned a d' is job (Some r) handled keeps all =
    elim (cut_came exact d planned a r d' is job handled) [
      | inl over ↦ over.0
      | inr took ↦ absurd (true≢false (sym (ap is_kept took.told) ∙ keeps))
    ]

pub kept_checks : TestsAreExact → (d : KeptDesk) (planned : Planned) (a : CutWindows)
    (d' : KeptDesk) → Cuts d planned → a.job ≡ cut_job (state_of d.desk).run planned
    → (came : Option Response) → CameOf d (event.Cut a) came d' → was_kept came ≡ true
    → IsAnswered came → Checks_at d' planned a.windows (state_of d.desk).run.number 0
kept_checks exact d planned a d' is job None handled keeps all = absurd all
kept_checks exact d planned a d' is job (Some r) handled keeps all =
    elim (cut_came exact d planned a r d' is job handled) [
      | inl over ↦ absurd (true≢false (sym keeps ∙ ap is_kept over.1))
      | inr took ↦ checks took
    ]
  where
    n : ℕ
    n = tiles planned.plan

    at : (j : ℕ) → j < n → slice_get (run.new_tiles n) j
        ≡ Some (get_or (run.new_tiles n) j new_tile)
    at j within = slice_get-get_or (run.new_tiles n) j new_tile
        (omega (arith, within, length-replicate n new_tile))

    checks : Took d (run.begun (state_of d.desk).run planned a) r d'
        → Checks_at d' planned a.windows (state_of d.desk).run.number 0
    checks took = record {
      is_open = took.is_open;
      number_is = ap (λ (x : run.Run). x.number) took.run_is;
      xs = run.new_tiles n;
      phase = ap (λ (x : run.Run). x.phase) took.run_is;
      count = length-replicate n new_tile;
      done = new_answered n;
      left = omega (arith, some_tile planned.plan);
      unanswered = λ j from within. (
        get_or (run.new_tiles n) j new_tile,
        at j within,
        new_get n j _ (at j within),
      );
    }
