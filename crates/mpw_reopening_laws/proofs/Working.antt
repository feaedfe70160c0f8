-- A run that is executed again: the windows of its snapshot and the markers of tiles are handed in, and it is
-- finished or isn't yet. Its book is that of the flat layout, whoever computed the windows and the markers.
use Rattle.std.proofs.Common.{◌≡◌, ◌∙◌, ℕ, Bool, true, false, List, [], ◌∷◌, ◌++◌, map, length, Some, refl, sym, ap, subst}
use Rattle.std.specs.Prelude.{All, if◌then◌else◌}
use Rattle.std.proofs.lemmas.List.Elements.{All-head, All-tail}
use Rattle.mpw_tiles.specs.Plan.{tiles}
use Rattle.mpw_tiles.specs.Snapshots.{IsSnapshot, plan_for}
use Rattle.mpw_markers.specs.declared.marker.Marker.{Marker}
use Rattle.mpw_job.specs.Jobs.{CutWindows, FoundMarkers, IsCutAnswer, IsTileAnswer}
use Rattle.mpw_job.specs.Laws.{AnswersMakeTheLayout}
use Rattle.mpw_job.specs.Layout.{AreLayoutMarkers}
use Rattle.mpw_run.specs.declared.phase.Phase.{Phase}
use Rattle.mpw_run.specs.declared.phase.Phase.TheVariants.{Cutting, Checking, Finished}
use Rattle.mpw_run.specs.Laws.{StitchedComputes, finishes}
use Rattle.mpw_run.specs.Run.{Planned, Tile, Checks, answers_of, answered}
use Rattle.mpw_run.specs.Step as run
use Rattle.mpw_run.specs.Stitching.{stitched}
use Rattle.mpw_run.proofs.Opened.{finishes as makes_the_book}
use Rattle.mpw_waiver.specs.Waivers.{none_asked}
use Rattle.mpw_events.specs.History.{Desk, answering, state_of}
use Rattle.mpw_events.specs.Step.{State, of_run, event_outcome, with_trail}
use Rattle.mpw_events.specs.declared.event.Event.{Event}
use Rattle.mpw_events.specs.declared.event.Event.TheVariants as event
use Rattle.mpw_events.specs.declared.keeper.KeptChange.{KeptChange}
use Rattle.mpw_store_restoring.specs.Restoring.{AreFound, behind, changes_by}
use Rattle.mpw_store_restoring.proofs.Again.{again_state, unchanged}
use Rattle.mpw_run_laws.proofs.Moves.{Cuts, Answered, IsAsked, cuts, answers, tiles_with}
use Rattle.mpw_reopening_laws.proofs.Sound.{IsSound, IsSoundRun, answer_right, sound_begins, sound_more, sound_phase}

-- ---- states of a run

abbrev pub cutting_run : ℕ → Planned → run.Run
cutting_run number planned = record { number = number; phase = Cutting planned }

abbrev pub with_run : State → run.Run → State
with_run s r = record s { run = r }

-- that run is finished with this book
abbrev pub finished_run : ℕ → Planned → List Marker → run.Run
finished_run number planned book = record {
  number = number;
  phase = Finished (record { planned = planned; book = book });
}

abbrev pub finished_state : State → Planned → List Marker → State
finished_state s planned book = record s {
  run = finished_run s.run.number planned book;
  waivers = none_asked (length book);
}

-- the state without its run, which checks that and isn't finished
pub record GoesOn (first : State) (planned : Planned) (t : State) : Type 0 where
  pub now : run.Run
  pub state : t ≡ with_run first now
  pub back : run.restarted now ≡ cutting_run first.run.number planned
  pub sound : IsSoundRun now

-- or which is finished
pub record IsDone (first : State) (planned : Planned) (t : State) : Type 0 where
  pub book : List Marker
  pub layout : AreLayoutMarkers planned.snapshot book
  pub state : t ≡ finished_state first planned book

data Comes (first : State) (planned : Planned) (d : Desk) (e : Event) : Type 0 where
  goes : GoesOn first planned (state_of (answering d e true).desk)
      → (answering d e true).changes ≡ [] → Comes first planned d e
  ends : IsDone first planned (state_of (answering d e true).desk) → Comes first planned d e

cutting_is : (p q : Planned) → Cutting p ≡ Cutting q → p ≡ q
cutting_is p q e = cc

-- what is checked, by the phase
looks_at : (number : ℕ) (r : run.Run) (phase : Phase) (planned : Planned) → r.phase ≡ phase
    → run.restarted r ≡ cutting_run number planned
    → run.restarted_phase phase ≡ Cutting planned
looks_at number r phase planned is back =
    sym (ap run.restarted_phase is) ∙ ap (λ (q : run.Run). q.phase) back

again_at : (number : ℕ) (r : run.Run) (phase : Phase) (planned : Planned) → r.phase ≡ phase
    → run.restarted r ≡ cutting_run number planned
    → (let q : run.Run = record { number = r.number; phase = run.restarted_phase phase } in q)
    ≡ cutting_run number planned
again_at number r phase planned is back =
    sym (ap (λ (p : Phase). (let q : run.Run = record {
      number = r.number;
      phase = run.restarted_phase p;
    } in q)) is) ∙ back

-- ---- one event

next_state : (d : Desk) (e : Event) (u : State) → state_of d ≡ u
    → state_of (answering d e true).desk ≡ with_trail u e (event_outcome u e)
next_state d e u is =
    again_state d e ∙ ap (λ (x : State). with_trail x e (event_outcome x e)) is

-- an event of the run that doesn't finish it changes nothing but the run
pub unfinished_state : (u : State) (o : run.Outcome) → finishes o.reply ≡ false
    → (of_run u o).state ≡ with_run u o.run
unfinished_state u o none =
    ap (λ (b : Bool). (let x : State = record u {
      run = o.run;
      waivers = if b then none_asked (run.book_size o.run.phase) else u.waivers;
    } in x)) none

pub last_state : (u : State) (o : run.Outcome) (number : ℕ) (planned : Planned)
    (book : List Marker) → finishes o.reply ≡ true → o.run ≡ finished_run number planned book
    → (of_run u o).state ≡ (let x : State = record u {
      run = finished_run number planned book;
      waivers = none_asked (length book);
    } in x)
last_state u o number planned book last is =
    ap (λ (b : Bool). (let x : State = record u {
      run = o.run;
      waivers = if b then none_asked (run.book_size o.run.phase) else u.waivers;
    } in x)) last
    ∙ ap (λ (q : run.Run). (let x : State = record u {
      run = q;
      waivers = none_asked (run.book_size q.phase);
    } in x)) is

-- an event of a run adds nothing to the trail
abbrev IsOfRun : Event → State → run.Outcome → Type 0
IsOfRun e u o = with_trail u e (event_outcome u e) ≡ (of_run u o).state

cut_of_run : (u : State) (a : CutWindows)
    → IsOfRun (event.Cut a) u (run.cut_answered u.run a)
unfolding event_outcome
cut_of_run u a = refl

tile_of_run : (u : State) (f : FoundMarkers)
    → IsOfRun (event.Tile f) u (run.tile_answered u.run f)
unfolding event_outcome
tile_of_run u f = refl

cut_changes : (u : State) (a : CutWindows)
    → (event_outcome u (event.Cut a)).changes ≡ finishes (run.cut_answered u.run a).reply
unfolding event_outcome
cut_changes u a = refl

tile_changes : (u : State) (f : FoundMarkers)
    → (event_outcome u (event.Tile f)).changes ≡ finishes (run.tile_answered u.run f).reply
unfolding event_outcome
tile_changes u f = refl

goes_as : (first : State) (planned : Planned) (d : Desk) (e : Event) (r now : run.Run)
    (o : run.Outcome) → state_of d ≡ with_run first r → IsOfRun e (with_run first r) o
    → (event_outcome (with_run first r) e).changes ≡ finishes o.reply
    → finishes o.reply ≡ false → o.run ≡ now
    → run.restarted now ≡ cutting_run first.run.number planned → IsSoundRun now
    → Comes first planned d e
goes_as first planned d e r now o is own changes none same back sound =
    Comes.goes
    (record {
      now = now;
      state = next_state d e (with_run first r) is ∙ own
          ∙ unfinished_state (with_run first r) o none ∙ ap (with_run first) same;
      back = back;
      sound = sound;
    })
    (unchanged d e (ap (λ (x : State). (event_outcome x e).changes) is ∙ changes ∙ none))

cut_comes : (first : State) (planned : Planned) (d : Desk) (a : CutWindows)
    → IsSnapshot planned.snapshot → IsCutAnswer a → GoesOn first planned (state_of d)
    → Comes first planned d (event.Cut a)
cut_comes first planned d a snapshot right g = by (cuts g.now a)
  where
    o : run.Outcome
    o = run.cut_answered g.now a

    as_now : (now : run.Run) → finishes o.reply ≡ false → o.run ≡ now
        → run.restarted now ≡ cutting_run first.run.number planned → IsSoundRun now
        → Comes first planned d (event.Cut a)
    as_now now none same back sound =
        goes_as first planned d (event.Cut a) g.now now o g.state
        (cut_of_run (with_run first g.now) a) (cut_changes (with_run first g.now) a) none same back
        sound

    by : Cuts g.now a o → Comes first planned d (event.Cut a)
    by (Cuts.stays same none) = as_now g.now none same g.back g.sound
    by (Cuts.begins p phase own same none) =
        let looked : p ≡ planned = cutting_is p planned
        (looks_at first.run.number g.now (Cutting p) planned phase g.back) in
        as_now _ none same (again_at first.run.number g.now (Cutting p) planned phase g.back)
        (sound_begins g.now.number p a
        (subst (λ (q : Planned). IsSnapshot q.snapshot) (sym looked) snapshot) right own)

tile_comes : AnswersMakeTheLayout → StitchedComputes → (first : State) (planned : Planned)
    (d : Desk) (f : FoundMarkers) → IsSnapshot planned.snapshot
    → plan_for planned.snapshot ≡ Some planned.plan → IsTileAnswer f
    → GoesOn first planned (state_of d) → Comes first planned d (event.Tile f)
tile_comes law computes first planned d f snapshot plan right g = by (answers g.now f)
  where
    o : run.Outcome
    o = run.tile_answered g.now f

    u : State
    u = with_run first g.now

    as_now : (now : run.Run) → finishes o.reply ≡ false → o.run ≡ now
        → run.restarted now ≡ cutting_run first.run.number planned → IsSoundRun now
        → Comes first planned d (event.Tile f)
    as_now now none same back sound =
        goes_as first planned d (event.Tile f) g.now now o g.state (tile_of_run u f)
        (tile_changes u f) none same back sound

    looked : (c : Checks) → g.now.phase ≡ Checking c → c.planned ≡ planned
    looked c phase = cutting_is c.planned planned
        (looks_at first.run.number g.now (Checking c) planned phase g.back)

    last : (c : Checks) (x : Tile) → IsAsked g.now f c x → finishes o.reply ≡ true
        → o.run ≡ finished_run g.now.number c.planned (stitched (answers_of (tiles_with c f x)))
        → answered (tiles_with c f x) ≡ tiles c.planned.plan
        → IsDone first planned (state_of (answering d (event.Tile f) true).desk)
    last c x asked told same all =
        let book = stitched (answers_of (tiles_with c f x)) in
        let is = looked c asked.phase in
        let sound = sound_phase g.now c asked.phase g.sound in
        record {
          book = book;
          layout = subst (λ (q : Planned). AreLayoutMarkers q.snapshot book) is
              (makes_the_book law computes g.now.number c f.job.tile x f.markers
              (record {
                snapshot = sound.snapshot;
                plan = subst (λ (q : Planned). plan_for q.snapshot ≡ Some q.plan) (sym is) plan;
              })
              sound.checks asked.at (answer_right g.now f c x asked right) all);
          state = next_state d (event.Tile f) u g.state ∙ tile_of_run u f
              ∙ last_state u o g.now.number c.planned book told same
              ∙ ap (λ (n : ℕ). (let y : State = record first {
                run = finished_run n c.planned book;
                waivers = none_asked (length book);
              } in y)) (ap (λ (q : run.Run). q.number) g.back)
              ∙ ap (λ (p : Planned). finished_state first p book) is;
        }

    by : Answered g.now f o → Comes first planned d (event.Tile f)
    by (Answered.stays same k none) = as_now g.now none same g.back g.sound
    by (Answered.more c x asked told same other) =
        as_now _ (ap finishes told) same
        (again_at first.run.number g.now (Checking c) planned asked.phase g.back)
        (sound_more g.now f c x asked right other (sound_phase g.now c asked.phase g.sound))
    by (Answered.last c x asked told same all) =
        Comes.ends (last c x asked (ap finishes told) same all)

-- a finished run stays so
done_on : (first : State) (planned : Planned) (d : Desk) (f : FoundMarkers)
    → IsDone first planned (state_of d)
    → IsDone first planned (state_of (answering d (event.Tile f) true).desk)
done_on first planned d f done = by (answers u.run f)
  where
    u : State
    u = finished_state first planned done.book

    never : (c : Checks) → u.run.phase ≡ Checking c → ⊥
    never c is = cc is

    by : Answered u.run f (run.tile_answered u.run f)
        → IsDone first planned (state_of (answering d (event.Tile f) true).desk)
    by (Answered.stays same k none) = record {
      book = done.book;
      layout = done.layout;
      state = next_state d (event.Tile f) u done.state ∙ tile_of_run u f
          ∙ unfinished_state u (run.tile_answered u.run f) none ∙ ap (with_run u) same;
    }
    by (Answered.more c x asked told same other) = absurd (never c asked.phase)
    by (Answered.last c x asked told same all) = absurd (never c asked.phase)

-- ---- all events

done_all : (first : State) (planned : Planned) (d : Desk) (found : List FoundMarkers)
    → IsDone first planned (state_of d)
    → IsDone first planned (state_of (behind d (map event.Tile found)))
unfolding behind
done_all first planned d [] done = done
done_all first planned d (f ∷ found) done =
    done_all first planned (answering d (event.Tile f) true).desk found
    (done_on first planned d f done)

data Ended (first : State) (planned : Planned) (d : Desk) (found : List FoundMarkers) : Type 0
  where
    goes : changes_by d (map event.Tile found) ≡ [] → Ended first planned d found
    done : IsDone first planned (state_of (behind d (map event.Tile found)))
        → Ended first planned d found

tiles_end : AnswersMakeTheLayout → StitchedComputes → (first : State) (planned : Planned)
    (d : Desk) (found : List FoundMarkers) → IsSnapshot planned.snapshot
    → plan_for planned.snapshot ≡ Some planned.plan → All IsTileAnswer found
    → GoesOn first planned (state_of d) → Ended first planned d found
unfolding behind changes_by
tiles_end law computes first planned d [] snapshot plan right g = Ended.goes refl
tiles_end law computes first planned d (f ∷ found) snapshot plan right g =
    by (tile_comes law computes first planned d f snapshot plan
    (All-head IsTileAnswer f found right) g)
    (λ far. tiles_end law computes first planned (answering d (event.Tile f) true).desk found
    snapshot plan (All-tail IsTileAnswer f found right) far)
  where
    near : Desk
    near = (answering d (event.Tile f) true).desk

    on : (answering d (event.Tile f) true).changes ≡ [] → Ended first planned near found
        → Ended first planned d (f ∷ found)
    on none (Ended.goes others) =
        Ended.goes (ap (λ (l : List KeptChange). l ++ changes_by near (map event.Tile found)) none
        ∙ others)
    on none (Ended.done end) = Ended.done end

    by : Comes first planned d (event.Tile f)
        → (GoesOn first planned (state_of near) → Ended first planned near found)
        → Ended first planned d (f ∷ found)
    by (Comes.goes far none) rest = on none (rest far)
    by (Comes.ends end) rest = Ended.done (done_all first planned near found end)

-- the windows and the markers of the tiles of a run in `Cutting` leave it finished, if something had to be
-- stored
pub work_done : AnswersMakeTheLayout → StitchedComputes → (d : Desk) (planned : Planned)
    (a : CutWindows) (found : List FoundMarkers) (kept : KeptChange)
    → (state_of d).run.phase ≡ Cutting planned → IsSnapshot planned.snapshot
    → plan_for planned.snapshot ≡ Some planned.plan → AreFound a found
    → changes_by d (event.Cut a ∷ map event.Tile found) ≡ kept ∷ []
    → IsDone (state_of d) planned (state_of (behind d (event.Cut a ∷ map event.Tile found)))
unfolding behind changes_by
work_done law computes d planned a found kept phase snapshot plan are changes =
    by (cut_comes first planned d a snapshot are.windows begun)
  where
    first : State
    first = state_of d

    near : Desk
    near = (answering d (event.Cut a) true).desk

    begun : GoesOn first planned (state_of d)
    begun = record {
      now = first.run;
      state = refl;
      back = ap (λ (p : Phase). (let q : run.Run = record {
        number = first.run.number;
        phase = run.restarted_phase p;
      } in q)) phase;
      sound = subst (IsSound first.run.number) (sym phase) tt;
    }

    never : [] ≡ kept ∷ [] → ⊥
    never is = cc is

    on : (answering d (event.Cut a) true).changes ≡ [] → Ended first planned near found
        → IsDone first planned (state_of (behind near (map event.Tile found)))
    on none (Ended.goes others) =
        absurd (never (sym (ap (λ (l : List KeptChange).
        l ++ changes_by near (map event.Tile found)) none ∙ others) ∙ changes))
    on none (Ended.done end) = end

    by : Comes first planned d (event.Cut a)
        → IsDone first planned (state_of (behind near (map event.Tile found)))
    by (Comes.goes far none) =
        on none (tiles_end law computes first planned near found snapshot plan are.right far)
    by (Comes.ends end) = done_all first planned near found end
