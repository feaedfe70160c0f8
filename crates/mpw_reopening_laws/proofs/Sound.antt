-- What is known of the run in every state that right answers lead to.
use Rattle.std.proofs.Common.{◌≡◌, ◌∙◌, ◌≤◌, ℕ, ◌+◌, sym, ap, subst, arith, length-set}
use Rattle.mpw_tiles.specs.Plan.{tiles}
use Rattle.mpw_tiles.specs.Snapshots.{Snapshot, IsSnapshot, StandFor}
use Rattle.mpw_job.specs.Answers.{TileJob, Answers}
use Rattle.mpw_job.specs.Jobs.{CutWindows, FoundMarkers, IsCutAnswer, IsTileAnswer}
use Rattle.mpw_run.specs.declared.phase.Phase.{Phase}
use Rattle.mpw_run.specs.declared.phase.Phase.TheVariants.{Idle, Cutting, Checking, Finished}
use Rattle.mpw_run.specs.Run.{Planned, Tile, Checks, answered, IsChecks}
use Rattle.mpw_run.specs.Step.{Run, answered_by, job_of_tile, new_tiles, restarted_phase, with_tiles}
use Rattle.mpw_run.proofs.TileLists.{few_answered}
use Rattle.mpw_run.proofs.Opened.{begins, raise_keeps, answer_keeps}
use Rattle.mpw_events.specs.declared.event.Call.{Call}
use Rattle.mpw_events.specs.declared.event.Event.TheVariants as event
use Rattle.mpw_events.specs.Step.{State}
use Rattle.mpw_run_laws.specs.Right.{IsRight, IsRightCut}
use Rattle.mpw_run_laws.proofs.Moves.{Takes, Cuts, Answered, IsAsked, tiles_with}
use Rattle.mpw_run_laws.proofs.Calls.{Does}

pub record AreSound (number : ℕ) (c : Checks) : Type 0 where
  pub snapshot : IsSnapshot c.planned.snapshot
  pub checks : IsChecks number c

abbrev pub IsSound : ℕ → Phase → Type 0
IsSound number Idle = Unit {0}
IsSound number (Cutting planned) = Unit {0}
IsSound number (Checking c) = AreSound number c
IsSound number (Finished f) = Unit {0}

abbrev pub IsSoundRun : Run → Type 0
IsSoundRun r = IsSound r.number r.phase

pub sound_restarted : (number : ℕ) (phase : Phase) → IsSound number (restarted_phase phase)
sound_restarted number Idle = tt
sound_restarted number (Cutting planned) = tt
sound_restarted number (Checking c) = tt
sound_restarted number (Finished f) = tt

pub sound_phase : (r : Run) (c : Checks) → r.phase ≡ Checking c → IsSoundRun r
    → AreSound r.number c
sound_phase r c is h = subst (IsSound r.number) is h

-- the windows of a snapshot are handed in
pub sound_begins : (number : ℕ) (planned : Planned) (a : CutWindows) → IsSnapshot planned.snapshot
    → IsCutAnswer a → a.job.snapshot ≡ planned.snapshot
    → IsSound number (Checking (let c : Checks = record {
      planned = planned;
      windows = a.windows;
      tiles = new_tiles (tiles planned.plan);
    } in c))
sound_begins number planned a snapshot right own = record {
  snapshot = snapshot;
  checks = begins number planned a.windows
      (subst (λ (s : Snapshot). StandFor s a.windows) own right);
}

pub answer_right : (r : Run) (f : FoundMarkers) (c : Checks) (x : Tile) → IsAsked r f c x
    → IsTileAnswer f → Answers (job_of_tile r.number c f.job.tile) f.markers
answer_right r f c x asked right =
    subst (λ (j : TileJob). Answers j f.markers) asked.job right

-- the markers of a tile that isn't the last are handed in
pub sound_more : (r : Run) (f : FoundMarkers) (c : Checks) (x : Tile) → IsAsked r f c x
    → IsTileAnswer f → (answered (tiles_with c f x) ≡ tiles c.planned.plan → ⊥)
    → AreSound r.number c → AreSound r.number (with_tiles c (tiles_with c f x))
sound_more r f c x asked right other h =
    let count = length-set c.tiles f.job.tile (answered_by f.markers x) ∙ h.checks.count in
    record {
      snapshot = h.snapshot;
      checks = answer_keeps r.number c f.job.tile x f.markers h.checks asked.at
          (answer_right r f c x asked right)
          (omega (arith, other, few_answered (tiles_with c f x), count));
    }

-- ---- calls

cut_right : (call : Call) (a : CutWindows) → call.event ≡ event.Cut a → IsRight call.event
    → IsRightCut a
cut_right call a is h = subst IsRight is h

tile_right : (call : Call) (f : FoundMarkers) → call.event ≡ event.Tile f → IsRight call.event
    → IsTileAnswer f
tile_right call f is h = subst IsRight is h

as_run : (r q : Run) → r ≡ q → IsSoundRun q → IsSoundRun r
as_run r q is h = subst IsSoundRun (sym is) h

pub sound_on : (s : State) (call : Call) (s' : State) → Does s call s' → IsRight call.event
    → IsSoundRun s.run → IsSoundRun s'.run
sound_on s call s' (Does.begun p began stood planned e) right h = as_run s'.run _ e tt
sound_on s call s' (Does.left left not e) right h = as_run s'.run _ e tt
sound_on s call s' (Does.restarted r q e) right h =
    as_run s'.run _ e (sound_restarted s.run.number s.run.phase)
sound_on s call s' (Does.stayed q r e) right h = as_run s'.run s.run e h
sound_on s call s' (Does.took o q r (Takes.stays same f) e) right h =
    as_run s'.run s.run (e ∙ same) h
sound_on s call s' (Does.took o q r (Takes.raises c k x phase at same f) e) right h =
    let sound = sound_phase s.run c phase h in
    as_run s'.run _ (e ∙ same) (record {
      snapshot = sound.snapshot;
      checks = raise_keeps s.run.number c k x sound.checks at;
    })
sound_on s call s' (Does.cut a o ev q r (Cuts.stays same f) e) right h =
    as_run s'.run s.run (e ∙ same) h
sound_on s call s' (Does.cut a o ev q r (Cuts.begins p phase own same f) e) right h =
    let is = cut_right call a ev right in
    as_run s'.run _ (e ∙ same)
    (sound_begins s.run.number p a (subst IsSnapshot own is.snapshot) is.windows own)
sound_on s call s' (Does.answered f o ev told g r (Answered.stays same k none) e) right h =
    as_run s'.run s.run (e ∙ same) h
sound_on s call s' (Does.answered f o ev told g r (Answered.more c x asked reply same other) e)
    right
    h =
    as_run s'.run _ (e ∙ same) (sound_more s.run f c x asked (tile_right call f ev right) other
    (sound_phase s.run c asked.phase h))
sound_on s call s' (Does.answered f o ev told g r (Answered.last c x asked reply same all) e) right
    h = as_run s'.run _ (e ∙ same) tt

-- ---- how many runs were accepted

number_is : {r q : Run} → r ≡ q → r.number ≡ q.number
number_is is = ap (λ (r : Run). r.number) is

-- at most one more
pub number_on : (s : State) (call : Call) (s' : State) → Does s call s'
    → s'.run.number ≤ s.run.number + 1
number_on s call s' (Does.begun p began stood planned e) = omega (arith, number_is e)
number_on s call s' (Does.left left not e) = omega (arith, number_is e)
number_on s call s' (Does.restarted r q e) = omega (arith, number_is e)
number_on s call s' (Does.stayed q r e) = omega (arith, number_is e)
number_on s call s' (Does.took o q r (Takes.stays same f) e) =
    omega (arith, number_is (e ∙ same))
number_on s call s' (Does.took o q r (Takes.raises c k x phase at same f) e) =
    omega (arith, number_is (e ∙ same))
number_on s call s' (Does.cut a o ev q r (Cuts.stays same f) e) =
    omega (arith, number_is (e ∙ same))
number_on s call s' (Does.cut a o ev q r (Cuts.begins p phase own same f) e) =
    omega (arith, number_is (e ∙ same))
number_on s call s' (Does.answered f o ev told g r (Answered.stays same k none) e) =
    omega (arith, number_is (e ∙ same))
number_on s call s' (Does.answered f o ev told g r (Answered.more c x asked reply same other) e) =
    omega (arith, number_is (e ∙ same))
number_on s call s' (Does.answered f o ev told g r (Answered.last c x asked reply same all) e) =
    omega (arith, number_is (e ∙ same))
