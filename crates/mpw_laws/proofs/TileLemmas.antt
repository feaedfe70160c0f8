-- A run whose tiles are being checked goes on from tile to tile until it is over.
use Rattle.std.proofs.Common.{◌≡◌, ◌∙◌, ◌<◌, ◌≤◌, ◌⊎◌, ℕ, zero, suc, ◌+◌, Bool, true, false, List, [], ◌∷◌, map, drop, get_or, length, Option, Some, None, refl, sym, ap, subst, arith, inl, inr, length-set}
use Rattle.std.specs.Prelude.{◌==◌, slice_get, slice_set, if◌then◌else◌}
use Rattle.std.specs.List.{range_with_len}
use Rattle.std.proofs.lemmas.Bool.{true≢false, cases_eq, cases_lt, eq-eqb}
use Rattle.std.proofs.lemmas.Option.{slice_get_within}
use Rattle.mpw_events.specs.History.{KeptDesk, IsHandled, state_of}
use Rattle.mpw_events.specs.Step.{State, of_run, event_outcome}
use Rattle.mpw_events.specs.declared.event.Event.{Event}
use Rattle.mpw_events.specs.declared.event.Event.TheVariants as event
use Rattle.mpw_events.specs.declared.event.Response.{Response}
use Rattle.mpw_events.specs.declared.event.Response.TheVariants as response
use Rattle.mpw_job.specs.Answers.{TileJob}
use Rattle.mpw_job.specs.Carried.{job_of}
use Rattle.mpw_job.specs.Jobs.{CutWindows, FoundMarkers}
use Rattle.mpw_job.specs.Laws.{tile_job_of}
use Rattle.mpw_job.specs.declared.answer.Answer.{Answer}
use Rattle.mpw_job.specs.declared.answer.Answer.TheVariants as answers
use Rattle.mpw_job.specs.declared.job.CutJob.{CutJob}
use Rattle.mpw_job.specs.declared.job.Job.{Job}
use Rattle.mpw_job.specs.declared.job.Job.TheVariants as jobs
use Rattle.mpw_run.specs.declared.phase.Phase.{Phase}
use Rattle.mpw_run.specs.declared.phase.Phase.TheVariants.{Checking, Finished}
use Rattle.mpw_run.specs.declared.phase.RunReply.TheVariants as told
use Rattle.mpw_run.specs.Laws.{TestsAreExact}
use Rattle.mpw_run.specs.Run.{Planned, Checks, Tile, answers_of, answered as answered_of}
use Rattle.mpw_run.specs.Stitching.{stitched}
use Rattle.mpw_run.specs.Step as run
use Rattle.mpw_run.proofs.Next.{next_is}
use Rattle.mpw_run.proofs.TileLists.{same_tile, other_tile, raised_same, one_answered}
use Rattle.mpw_tiles.specs.Plan.{tiles}
use Rattle.mpw_tiles.specs.Snapshots.{plan_for}
use Rattle.mpw_tiles.specs.declared.listing.Rectangle.{Rectangle}
use Rattle.mpw_laws.specs.WorkLaws.{DoneAnswered, IsAnswered, IsOver, TileAnswered, TilesAnswered}
use Rattle.mpw_serve.specs.Working.{CameOf, HandsOver, HandsTile, HandsTiles, WorksTiles, ends, event_of, is_over, job_at, jobs_by, own_worker}
use Rattle.mpw_laws.proofs.EventLemmas.{wanted_take, wanted_tile, came_quiet, came_last}
use Rattle.mpw_laws.proofs.CutLemmas.{Checks_at}

-- ---- tiles

abbrev checks_of : (planned : Planned) → List (List Rectangle) → List Tile → Checks
checks_of planned windows xs = record { planned = planned; windows = windows; tiles = xs }

take_by : (d : KeptDesk) (planned : Planned) (windows : List (List Rectangle)) (number k : ℕ)
    (r : Response) (d' : KeptDesk) (is : Checks_at d planned windows number k)
    → IsHandled d (event.Take own_worker) r d' → (best : Option run.Offer)
    → run.next_from 0 is.xs ≡ best
    → (IsOver d' × (r ≡ response.Ended))
    ⊎ (Checks_at d' planned windows number k × (ends r ≡ false))
take_by d planned windows number k r d' is handled None next =
    elim (came_quiet d (event.Take own_worker) r d' (run.handed s.run c None) refl refl is.is_open
    wants refl handled) [
      | inl over ↦ inl over
      | inr took ↦ inr (
        record {
          is_open = took.is_open;
          number_is = ap (λ (x : run.Run). x.number) took.run_is ∙ is.number_is;
          xs = is.xs;
          phase = ap (λ (x : run.Run). x.phase) took.run_is ∙ is.phase;
          count = is.count;
          done = is.done;
          left = is.left;
          unanswered = is.unanswered;
        },
        ap ends took.told,
      )
    ]
  where
    s : State
    s = state_of d.desk

    c : Checks
    c = checks_of planned windows is.xs

    wants : event_outcome s (event.Take own_worker) ≡ of_run s (run.handed s.run c None)
    wants = wanted_take s own_worker ∙ ap (λ (p : Phase). of_run s (run.taken_in s.run p)) is.phase
        ∙ ap (λ (o : Option run.Offer). of_run s (run.handed s.run c o)) next
take_by d planned windows number k r d' is handled (Some offer) next =
    elim (came_quiet d (event.Take own_worker) r d' (run.handed s.run c (Some offer)) refl refl
    is.is_open wants refl handled) [
      | inl over ↦ inl over
      | inr took ↦ inr (
        record {
          is_open = took.is_open;
          number_is = ap (λ (x : run.Run). x.number) took.run_is ∙ is.number_is;
          xs = slice_set is.xs offer.number (run.raised offer.tile);
          phase = ap (λ (x : run.Run). x.phase) took.run_is;
          count = length-set is.xs offer.number (run.raised offer.tile) ∙ is.count;
          done = raised_same is.xs offer.number offer.tile at ∙ is.done;
          left = is.left;
          unanswered = unanswered;
        },
        ap ends took.told,
      )
    ]
  where
    s : State
    s = state_of d.desk

    c : Checks
    c = checks_of planned windows is.xs

    at : slice_get is.xs offer.number ≡ Some offer.tile
    at = let i = next_is 0 is.xs offer next in
        ap (slice_get is.xs) (let n = i.number in omega (arith, n)) ∙ i.at

    wants : event_outcome s (event.Take own_worker) ≡ of_run s (run.handed s.run c (Some offer))
    wants = wanted_take s own_worker ∙ ap (λ (p : Phase). of_run s (run.taken_in s.run p)) is.phase
        ∙ ap (λ (o : Option run.Offer). of_run s (run.handed s.run c o)) next

    unanswered : (j : ℕ) → k ≤ j → j < tiles planned.plan
        → (x : Tile) × (slice_get (slice_set is.xs offer.number (run.raised offer.tile)) j ≡ Some x)
        × (x.answer ≡ None)
    unanswered j from within = elim (cases_eq j offer.number) [
      | inl same ↦ (
        run.raised offer.tile,
        ap (slice_get (slice_set is.xs offer.number (run.raised offer.tile))) same
            ∙ same_tile is.xs offer.number (run.raised offer.tile)
            (slice_get_within is.xs offer.number offer.tile at),
        (next_is 0 is.xs offer next).unanswered,
      )
      | inr other ↦ let old = is.unanswered j from within in
          (old.0, other_tile is.xs offer.number j (run.raised offer.tile) other ∙ old.1, old.2)
    ]

tile_is : TestsAreExact → (r : run.Run) (c : Checks) (a : FoundMarkers) (x : Tile) (number k : ℕ)
    → r.phase ≡ Checking c → r.number ≡ number
    → a.job ≡ tile_job_of c.planned.snapshot c.planned.plan c.windows number k
    → slice_get c.tiles k ≡ Some x → x.answer ≡ None
    → run.tile_answered r a ≡ run.kept r c
    (slice_set c.tiles a.job.tile (run.answered_by a.markers x))
tile_is exact r c a x number k phase is job at none =
    let here : a.job.tile ≡ k = ap (λ (t : TileJob). t.tile) job in
    let own : a.job ≡ run.job_of_tile r.number c a.job.tile =
    job ∙ ap (λ m. tile_job_of c.planned.snapshot c.planned.plan c.windows m k) (sym is)
    ∙ ap (λ m. tile_job_of c.planned.snapshot c.planned.plan c.windows r.number m) (sym here) in
    ap (λ (b : Bool). if b then run.tile_in r a r.phase else run.left_as told.OldRun r)
    (eq-eqb r.number a.job.run (is ∙ sym (ap (λ (t : TileJob). t.run) job)))
    ∙ ap (λ (p : Phase). run.tile_in r a p) phase
    ∙ ap (λ (o : Option Tile). run.tile_checked r c a o) (ap (slice_get c.tiles) here ∙ at)
    ∙ ap (λ m. run.tile_compared r c a x m) none
    ∙ ap (λ (b : Bool). if b then run.kept r c
    (slice_set c.tiles a.job.tile (run.answered_by a.markers x))
    else run.left_as told.Stranger r) ((exact.tile_jobs _ _).1 own)

tile_step : TestsAreExact → (d : KeptDesk) (planned : Planned) (windows : List (List Rectangle))
    (number k : ℕ) (a : FoundMarkers) (r : Response) (d' : KeptDesk)
    → Checks_at d planned windows number k
    → a.job ≡ tile_job_of planned.snapshot planned.plan windows number k
    → IsHandled d (event.Tile a) r d'
    → (IsOver d' × (ends r ≡ true)) ⊎ (Checks_at d' planned windows number (k + 1)
    × (ends r ≡ false))
tile_step exact d planned windows number k a r d' is job handled =
    by (answered_of now == tiles planned.plan) refl
  where
    s : State
    s = state_of d.desk

    c : Checks
    c = checks_of planned windows is.xs

    u : (x : Tile) × (slice_get is.xs k ≡ Some x) × (x.answer ≡ None)
    u = is.unanswered k (omega arith) is.left

    here : a.job.tile ≡ k
    here = ap (λ (t : TileJob). t.tile) job

    now : List Tile
    now = slice_set is.xs a.job.tile (run.answered_by a.markers u.0)

    more : answered_of now ≡ k + 1
    more = one_answered is.xs a.job.tile u.0 a.markers (ap (slice_get is.xs) here ∙ u.1) u.2
        ∙ ap (λ m. m + 1) is.done

    wants : (o : run.Outcome) → run.kept s.run c now ≡ o
        → event_outcome s (event.Tile a) ≡ of_run s o
    wants o e = wanted_tile s a ∙ ap (of_run s)
        (tile_is exact s.run c a u.0 number k is.phase is.number_is job u.1 u.2 ∙ e)

    last_left : (answered_of now == tiles planned.plan) ≡ false → k + 1 < tiles planned.plan
    last_left f = elim (cases_lt (k + 1) (tiles planned.plan)) [
      | inl l ↦ l
      | inr g
          ↦
          absurd (true≢false (sym (eq-eqb (answered_of now) (tiles planned.plan)
          (omega (arith, more, g, is.left))) ∙ f))
    ]

    kept_as : Bool → run.Outcome
    kept_as b = if b
        then record {
          reply = told.Finished;
          run = record {
            number = s.run.number;
            phase = Finished (record { planned = planned; book = stitched (answers_of now) });
          };
        }
        else record {
          reply = told.Kept;
          run = record {
            number = s.run.number;
            phase = Checking (checks_of planned windows now);
          };
        }

    by : (b : Bool) → (answered_of now == tiles planned.plan) ≡ b → (IsOver d' × (ends r ≡ true))
        ⊎ (Checks_at d' planned windows number (k + 1) × (ends r ≡ false))
    by true e = inl (came_last d a r d' (kept_as true) is.is_open
        (wants (kept_as true) (ap kept_as e)) refl refl handled)
    by false e = elim (came_quiet d (event.Tile a) r d' (kept_as false) refl refl is.is_open
        (wants (kept_as false) (ap kept_as e)) refl handled) [
          | inl over ↦ inl (over.0, ap ends over.1)
          | inr took ↦ inr (
            record {
              is_open = took.is_open;
              number_is = ap (λ (x : run.Run). x.number) took.run_is ∙ is.number_is;
              xs = now;
              phase = ap (λ (x : run.Run). x.phase) took.run_is;
              count = length-set is.xs a.job.tile (run.answered_by a.markers u.0) ∙ is.count;
              done = more;
              left = last_left e;
              unanswered = λ j from within.
                  let old = is.unanswered j (omega (arith, from)) within in (
                    old.0,
                    other_tile is.xs a.job.tile j _ (λ same. omega (arith, from, same, here))
                        ∙ old.1,
                    old.2,
                  );
            },
            ap ends took.told,
          )
        ]

-- ---- one tile

call_tile : (d : KeptDesk) (planned : Planned) (windows : List (List Rectangle)) (number k : ℕ)
    (over : Bool) (d' : KeptDesk) → Checks_at d planned windows number k
    → (call : HandsOver d (event.Take own_worker) over d') → IsAnswered call.came
    → (IsOver d' × (over ≡ true)) ⊎ (Checks_at d' planned windows number k × (over ≡ false))
call_tile d planned windows number k over d' is call all = by call.came call.handled call.ends all
  where
    by : (came : Option Response) → CameOf d (event.Take own_worker) came d' → is_over came ≡ over
        → IsAnswered came
        → (IsOver d' × (over ≡ true)) ⊎ (Checks_at d' planned windows number k × (over ≡ false))
    by None h e a = absurd a
    by (Some r) h e a = elim (take_by d planned windows number k r d' is h (run.next_from 0 is.xs)
        refl) [
          | inl o ↦ inl (o.0, sym e ∙ ap ends o.1)
          | inr c ↦ inr (c.0, sym e ∙ c.1)
        ]

answer_tile : TestsAreExact → (d : KeptDesk) (planned : Planned) (windows : List (List Rectangle))
    (number k : ℕ) (a : FoundMarkers) (tile : Event) (over : Bool) (d' : KeptDesk)
    → Checks_at d planned windows number k
    → a.job ≡ tile_job_of planned.snapshot planned.plan windows number k → tile ≡ event.Tile a
    → (answer : HandsOver d tile over d') → IsAnswered answer.came
    → (IsOver d' × (over ≡ true)) ⊎ (Checks_at d' planned windows number (k + 1) × (over ≡ false))
answer_tile exact d planned windows number k a tile over d' is job same answer all =
    by answer.came answer.handled answer.ends all
  where
    by : (came : Option Response) → CameOf d tile came d' → is_over came ≡ over → IsAnswered came
        → (IsOver d' × (over ≡ true)) ⊎ (Checks_at d' planned windows number (k + 1)
        × (over ≡ false))
    by None h e all = absurd all
    by (Some r) h e all = elim (tile_step exact d planned windows number k a r d' is job
        (subst (λ t. IsHandled d t r d') same h)) [
          | inl o ↦ inl (o.0, sym e ∙ o.1)
          | inr c ↦ inr (c.0, sym e ∙ c.1)
        ]

one_tile : TestsAreExact → (d : KeptDesk) (planned : Planned) (windows : List (List Rectangle))
    (number k : ℕ) (a : FoundMarkers) (tile : Event) (over : Bool) (d' : KeptDesk)
    → Checks_at d planned windows number k
    → a.job ≡ tile_job_of planned.snapshot planned.plan windows number k → tile ≡ event.Tile a
    → (one : HandsTile d tile over d') → TileAnswered d tile over d' one
    → (IsOver d' × (over ≡ true)) ⊎ (Checks_at d' planned windows number (k + 1) × (over ≡ false))
one_tile exact d planned windows number k a tile over d' is job same (HandsTile.uncalled near call)
    all = elim (call_tile d planned windows number k true near is call all) [
      | inl o ↦ inl (o.0, refl)
      | inr c ↦ absurd (true≢false c.1)
    ]
one_tile exact d planned windows number k a tile over d' is job same
    (HandsTile.handed last near far call answer) all =
    elim (call_tile d planned windows number k false near is call all.0) [
      | inl o ↦ absurd (true≢false (sym o.1))
      | inr c ↦ answer_tile exact near planned windows number k a tile last far c.0 job same answer
          all.1
    ]

-- ---- all tiles

abbrev is_tile : Job → Bool
is_tile (jobs.Cut job) = false
is_tile (jobs.Tile job) = true

abbrev job_in : Job → TileJob → TileJob
job_in (jobs.Cut job) t = t
job_in (jobs.Tile job) t = job

tile_answer : (x : Answer) (t : TileJob) → job_of x ≡ jobs.Tile t
    → (a : FoundMarkers) × (event_of x ≡ event.Tile a) × (a.job ≡ t)
tile_answer (answers.Cut c) t e = absurd (true≢false (sym (ap is_tile e)))
tile_answer (answers.Tile a) t e = (a, refl, ap (λ j. job_in j t) e)

tiles_end : TestsAreExact → (planned : Planned) (windows : List (List Rectangle)) (number m k : ℕ)
    (d : KeptDesk) (events : List Event) (xs : List Answer) (d' : KeptDesk)
    → k + m ≡ tiles planned.plan → Checks_at d planned windows number k → events ≡ map event_of xs
    → map job_of xs ≡ map (job_at planned.snapshot planned.plan windows number) (range_with_len k m)
    → (handed : HandsTiles d events d') → TilesAnswered d events d' handed → IsOver d'
tiles_end exact planned windows number zero k d events xs d' sum is e js handed all =
    absurd (omega (arith, sum, is.left))
tiles_end exact planned windows number (suc m) k d events [] d' sum is e js handed all =
    absurd (omega (arith, ap (λ l. length l) js))
tiles_end exact planned windows number (suc m) k d events (x ∷ xs) d' sum is e js
    (HandsTiles.none here) all = absurd (omega (arith, ap (λ l. length l) e))
tiles_end exact planned windows number (suc m) k d events (x ∷ xs) d' sum is e js
    (HandsTiles.last here tile rest near one) all =
    let t = tile_answer x _ (ap (λ l. get_or l 0 (job_of x)) js) in
    elim (one_tile exact here planned windows number k t.0 tile true near is t.2
    (ap (λ l. get_or l 0 tile) e ∙ t.1) one all) [
      | inl o ↦ o.0
      | inr c ↦ absurd (true≢false c.1)
    ]
tiles_end exact planned windows number (suc m) k d events (x ∷ xs) d' sum is e js
    (HandsTiles.next here tile rest near far one more) all =
    let t = tile_answer x _ (ap (λ l. get_or l 0 (job_of x)) js) in
    elim (one_tile exact here planned windows number k t.0 tile false near is t.2
    (ap (λ l. get_or l 0 tile) e ∙ t.1) one all.0) [
      | inl o ↦ absurd (true≢false (sym o.1))
      | inr c ↦ tiles_end exact planned windows number m (k + 1) near rest xs far
          (omega (arith, sum)) c.0 (ap (λ l. drop 1 l) e) (ap (λ l. drop 1 l) js) more all.1
    ]

pub done_ends : TestsAreExact → (planned : Planned) (a : CutWindows) (number : ℕ) (d d' : KeptDesk)
    → Checks_at d planned a.windows number 0 → plan_for planned.snapshot ≡ Some planned.plan
    → a.job ≡ (let j : CutJob = record { run = number; snapshot = planned.snapshot } in j)
    → (work : WorksTiles d a d') → DoneAnswered d a d' work → IsOver d'
done_ends exact planned a number d d' is plan job WorksTiles.unworked all = absurd all
done_ends exact planned a number d d' is plan job (WorksTiles.worked events near done handed) all =
    tiles_end exact planned a.windows number (tiles planned.plan) 0 d events done.done near
    (omega arith) is done.events_are
    (done.jobs_are ∙ ap (jobs_by a) (ap (λ (j : CutJob). plan_for j.snapshot) job ∙ plan)
    ∙ ap (λ (j : CutJob). map (job_at j.snapshot planned.plan a.windows j.run)
    (range_with_len 0 (tiles planned.plan))) job)
    handed all
