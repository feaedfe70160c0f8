-- If the run is finished: what was called.
use Rattle.std.proofs.Common.{◌≡◌, ℕ, ◌<◌, true, false, List, [], ◌∷◌, ◌++◌, length, Some, refl, sym, subst, ap, ◌∙◌, arith, append-nil, append_assoc, length-set}
use Rattle.std.specs.Prelude.{All, slice_get, slice_set}
use Rattle.std.proofs.lemmas.List.Elements.{All-nil, All-push}
use Rattle.mpw_tiles.specs.Plan.{tiles}
use Rattle.mpw_tiles.specs.Snapshots.{Snapshot, plan_for}
use Rattle.mpw_markers.specs.declared.marker.Marker.{Marker}
use Rattle.mpw_job.specs.Jobs.{CutWindows, FoundMarkers}
use Rattle.mpw_run.specs.declared.phase.Phase.{Phase}
use Rattle.mpw_run.specs.declared.phase.Phase.TheVariants.{Idle, Cutting, Checking, Finished}
use Rattle.mpw_run.specs.Run.{Planned, Tile, Checks, answered}
use Rattle.mpw_run.specs.Step.{Run, raised, answered_by, with_tiles, new_tiles, restarted_phase}
use Rattle.mpw_run.proofs.TileLists.{own, new_open, all_answered}
use Rattle.mpw_events.specs.declared.event.Call.{Call}
use Rattle.mpw_events.specs.History.{state_after, IsLegal}
use Rattle.mpw_events.specs.Step.{State, after}
use Rattle.mpw_run_laws.specs.Calls.{is_restart, begins, GoesOn, KeepsTile, WasKept}
use Rattle.mpw_run_laws.specs.Finishing.{StandsIn, WasChecked, HasChecked}
use Rattle.mpw_run_laws.proofs.Moves.{Takes, Cuts, Answered, tiles_with, keeps}
use Rattle.mpw_run_laws.proofs.Calls.{Does, IsQuiet, does}
use Rattle.mpw_run_laws.proofs.Histories.{state_after-append, along}
use Rattle.mpw_run_laws.proofs.Counted.{IsCounted, new_counted, raised_counted, more_counted, set_cases, unkept_quiet, keeps_tile, was_before, was_now}

-- a run that began among the calls goes on after it
record Began (first : State) (calls : List Call) (p : Planned) (rest : List Call) : Type 0 where
  before : List Call
  begin : Call
  parts : calls ≡ before ++ begin ∷ rest
  began : begins begin ≡ true
  stood : StandsIn (state_after first before) p.snapshot
  planned : plan_for p.snapshot ≡ Some p.plan
  goes_on : All GoesOn rest

began_on : (first : State) (calls : List Call) (p : Planned) (rest : List Call) (call : Call)
    → GoesOn call → Began first calls p rest
    → Began first (calls ++ call ∷ []) p (rest ++ call ∷ [])
began_on first calls p rest call goes b = record {
  before = b.before;
  begin = b.begin;
  parts = ap (λ (cs : List Call). cs ++ call ∷ []) b.parts
      ∙ append_assoc b.before (b.begin ∷ rest) (call ∷ []);
  began = b.began;
  stood = b.stood;
  planned = b.planned;
  goes_on = All-push GoesOn rest call b.goes_on goes;
}

began_as : (first : State) (calls : List Call) (p : Planned) (rest other : List Call)
    → rest ≡ other → Began first calls p rest → Began first calls p other
began_as first calls p rest other e b = subst (Began first calls p) e b

record IsChecking (first : State) (calls : List Call) (c : Checks) : Type 0 where
  since : List Call
  stretch : List Call
  began : Began first calls c.planned (since ++ stretch)
  in_one : All (λ (call : Call). is_restart call.event ≡ false) stretch
  counted : IsCounted c
  kept : (k : ℕ) (x : Tile) (m : List Marker) → slice_get c.tiles k ≡ Some x
      → x.answer ≡ Some m → WasKept stretch k

record IsDone (first : State) (calls : List Call) (p : Planned) : Type 0 where
  since : List Call
  stretch : List Call
  behind : List Call
  began : Began first calls p (since ++ (stretch ++ behind))
  in_one : All (λ (call : Call). is_restart call.event ≡ false) stretch
  all : (k : ℕ) → k < tiles p.plan → WasKept stretch k

record IsCutting (first : State) (calls : List Call) (p : Planned) : Type 0 where
  rest : List Call
  began : Began first calls p rest

abbrev Told : State → List Call → Phase → Type 0
Told first calls Idle = Unit {0}
Told first calls (Cutting p) = IsCutting first calls p
Told first calls (Checking c) = IsChecking first calls c
Told first calls (Finished f) = IsDone first calls f.planned

-- a finished run stays so
done_on : (first : State) (calls : List Call) (call : Call) (p : Planned) → GoesOn call
    → IsDone first calls p → IsDone first (calls ++ call ∷ []) p
done_on first calls call p goes t = record {
  since = t.since;
  stretch = t.stretch;
  behind = t.behind ++ call ∷ [];
  began = began_as first (calls ++ call ∷ []) p _ _
      (append_assoc t.since (t.stretch ++ t.behind) (call ∷ [])
      ∙ ap (λ (cs : List Call). t.since ++ cs) (append_assoc t.stretch t.behind (call ∷ [])))
      (began_on first calls p (t.since ++ (t.stretch ++ t.behind)) call goes t.began);
  in_one = t.in_one;
  all = t.all;
}

-- a call that doesn't change the run
quiet_on : (first : State) (calls : List Call) (call : Call) (phase : Phase) → IsQuiet call
    → is_restart call.event ≡ false → Told first calls phase → Told first (calls ++ call ∷ []) phase
quiet_on first calls call Idle q r t = tt
quiet_on first calls call (Cutting p) q r t = record {
  rest = t.rest ++ call ∷ [];
  began = began_on first calls p t.rest call q.goes_on t.began;
}
quiet_on first calls call (Checking c) q r t = record {
  since = t.since;
  stretch = t.stretch ++ call ∷ [];
  began = began_as first (calls ++ call ∷ []) c.planned _ _
      (append_assoc t.since t.stretch (call ∷ []))
      (began_on first calls c.planned (t.since ++ t.stretch) call q.goes_on t.began);
  in_one = All-push (λ (x : Call). is_restart x.event ≡ false) t.stretch call t.in_one r;
  counted = t.counted;
  kept = λ k x m at e. was_before t.stretch call k (t.kept k x m at e);
}
quiet_on first calls call (Finished f) q r t = done_on first calls call f.planned q.goes_on t

-- a restart
restarted_on : (first : State) (calls : List Call) (call : Call) (phase : Phase) → IsQuiet call
    → Told first calls phase → Told first (calls ++ call ∷ []) (restarted_phase phase)
restarted_on first calls call Idle q t = tt
restarted_on first calls call (Cutting p) q t = record {
  rest = t.rest ++ call ∷ [];
  began = began_on first calls p t.rest call q.goes_on t.began;
}
restarted_on first calls call (Checking c) q t = record {
  rest = (t.since ++ t.stretch) ++ call ∷ [];
  began = began_on first calls c.planned (t.since ++ t.stretch) call q.goes_on t.began;
}
restarted_on first calls call (Finished f) q t = done_on first calls call f.planned q.goes_on t

-- what holds of a phase holds of that of a run
at_phase : (first : State) (calls : List Call) (r : Run) (phase : Phase) → r.phase ≡ phase
    → Told first calls r.phase → Told first calls phase
at_phase first calls r phase e t = subst (Told first calls) e t

of_run : (first : State) (calls : List Call) (r q : Run) → r ≡ q → Told first calls q.phase
    → Told first calls r.phase
of_run first calls r q e t = subst (λ (x : Run). Told first calls x.phase) (sym e) t

raised_on : (first : State) (calls : List Call) (call : Call) (c : Checks) (k : ℕ) (x : Tile)
    → IsQuiet call → is_restart call.event ≡ false → slice_get c.tiles k ≡ Some x
    → IsChecking first calls c
    → IsChecking first (calls ++ call ∷ []) (with_tiles c (slice_set c.tiles k (raised x)))
raised_on first calls call c k x q r at t =
    let u : IsChecking first (calls ++ call ∷ []) c = quiet_on first calls call (Checking c) q r t
    in
    record {
      since = u.since;
      stretch = u.stretch;
      began = u.began;
      in_one = u.in_one;
      counted = raised_counted c k x at u.counted;
      kept = λ j y m g a. set_cases c.tiles k j x (raised x) y at g (WasKept u.stretch j)
          (λ s e. u.kept j x m (ap (slice_get c.tiles) s ∙ at) (ap (λ (z : Tile). z.answer) e ∙ a))
          (λ ne g'. u.kept j y m g' a);
    }

-- the windows are handed in
cut_on : (first : State) (calls : List Call) (call : Call) (answer : CutWindows) (p : Planned)
    → IsQuiet call → is_restart call.event ≡ false → IsCutting first calls p
    → IsChecking first (calls ++ call ∷ []) (record {
      planned = p;
      windows = answer.windows;
      tiles = new_tiles (tiles p.plan);
    })
cut_on first calls call answer p q r t = record {
  since = t.rest ++ call ∷ [];
  stretch = [];
  began = began_as first (calls ++ call ∷ []) p _ _ (sym (append-nil (t.rest ++ call ∷ [])))
      (began_on first calls p t.rest call q.goes_on t.began);
  in_one = All-nil (λ (x : Call). is_restart x.event ≡ false);
  counted = new_counted p answer.windows;
  kept = λ k x m at e. absurd (new_open (tiles p.plan) k x m at e);
}

-- the markers of a tile are handed in
kept_with : (c : Checks) (answer : FoundMarkers) (x : Tile) (stretch : List Call) (call : Call)
    → slice_get c.tiles answer.job.tile ≡ Some x → KeepsTile answer.job.tile call
    → ((k : ℕ) (y : Tile) (m : List Marker) → slice_get c.tiles k ≡ Some y → y.answer ≡ Some m
    → WasKept stretch k)
    → (k : ℕ) (y : Tile) (m : List Marker) → slice_get (tiles_with c answer x) k ≡ Some y
    → y.answer ≡ Some m → WasKept (stretch ++ call ∷ []) k
kept_with c answer x stretch call at keeps old k y m g a =
    set_cases c.tiles answer.job.tile k x (answered_by answer.markers x) y at g
    (WasKept (stretch ++ call ∷ []) k)
    (λ s e. subst (WasKept (stretch ++ call ∷ [])) (sym s)
    (was_now stretch call answer.job.tile keeps))
    (λ ne g'. was_before stretch call k (old k y m g' a))

more_on : (first : State) (calls : List Call) (call : Call) (answer : FoundMarkers) (c : Checks)
    (x : Tile) → GoesOn call → is_restart call.event ≡ false → KeepsTile answer.job.tile call
    → slice_get c.tiles answer.job.tile ≡ Some x
    → (answered (tiles_with c answer x) ≡ tiles c.planned.plan → ⊥) → IsChecking first calls c
    → IsChecking first (calls ++ call ∷ []) (with_tiles c (tiles_with c answer x))
more_on first calls call answer c x goes r keeps at ne t = record {
  since = t.since;
  stretch = t.stretch ++ call ∷ [];
  began = began_as first (calls ++ call ∷ []) c.planned _ _
      (append_assoc t.since t.stretch (call ∷ []))
      (began_on first calls c.planned (t.since ++ t.stretch) call goes t.began);
  in_one = All-push (λ (x : Call). is_restart x.event ≡ false) t.stretch call t.in_one r;
  counted = more_counted c answer x t.counted ne;
  kept = kept_with c answer x t.stretch call at keeps t.kept;
}

last_on : (first : State) (calls : List Call) (call : Call) (answer : FoundMarkers) (c : Checks)
    (x : Tile) → GoesOn call → is_restart call.event ≡ false → KeepsTile answer.job.tile call
    → slice_get c.tiles answer.job.tile ≡ Some x
    → answered (tiles_with c answer x) ≡ tiles c.planned.plan → IsChecking first calls c
    → IsDone first (calls ++ call ∷ []) c.planned
last_on first calls call answer c x goes r keeps at all t = record {
  since = t.since;
  stretch = t.stretch ++ call ∷ [];
  behind = [];
  began = began_as first (calls ++ call ∷ []) c.planned _ _
      (append_assoc t.since t.stretch (call ∷ [])
      ∙ ap (λ (cs : List Call). t.since ++ cs) (sym (append-nil (t.stretch ++ call ∷ []))))
      (began_on first calls c.planned (t.since ++ t.stretch) call goes t.began);
  in_one = All-push (λ (x : Call). is_restart x.event ≡ false) t.stretch call t.in_one r;
  all = λ k l.
      let count : length (tiles_with c answer x) ≡ tiles c.planned.plan =
      length-set c.tiles answer.job.tile (answered_by answer.markers x) ∙ t.counted.count in
      let a = all_answered (tiles_with c answer x) (all ∙ sym count) k (omega (arith, l, count)) in
      kept_with c answer x t.stretch call at keeps t.kept k a.0 _ a.1 a.2;
}

-- any call
told_on : (first : State) (calls : List Call) (s : State) (call : Call) (s' : State)
    → s ≡ state_after first calls → Does s call s' → Told first calls s.run.phase
    → Told first (calls ++ call ∷ []) s'.run.phase
told_on first calls s call s' is (Does.begun p began stood planned e) t =
    of_run first (calls ++ call ∷ []) s'.run _ e (record {
      rest = [];
      began = record {
        before = calls;
        begin = call;
        parts = refl;
        began = began;
        stood = subst (λ (x : State). StandsIn x p.snapshot) is stood;
        planned = planned;
        goes_on = All-nil GoesOn;
      };
    })
told_on first calls s call s' is (Does.left left not e) t =
    of_run first (calls ++ call ∷ []) s'.run _ e tt
told_on first calls s call s' is (Does.restarted r q e) t =
    of_run first (calls ++ call ∷ []) s'.run _ e (restarted_on first calls call s.run.phase q t)
told_on first calls s call s' is (Does.stayed q r e) t =
    of_run first (calls ++ call ∷ []) s'.run s.run e (quiet_on first calls call s.run.phase q r t)
told_on first calls s call s' is (Does.took o q r (Takes.stays same f) e) t =
    of_run first (calls ++ call ∷ []) s'.run s.run (e ∙ same)
    (quiet_on first calls call s.run.phase q r t)
told_on first calls s call s' is (Does.took o q r (Takes.raises c k x p at same f) e) t =
    of_run first (calls ++ call ∷ []) s'.run _ (e ∙ same)
    (raised_on first calls call c k x q r at (at_phase first calls s.run (Checking c) p t))
told_on first calls s call s' is (Does.cut answer o ev q r (Cuts.stays same f) e) t =
    of_run first (calls ++ call ∷ []) s'.run s.run (e ∙ same)
    (quiet_on first calls call s.run.phase q r t)
told_on first calls s call s' is (Does.cut answer o ev q r (Cuts.begins p ph own same f) e) t =
    of_run first (calls ++ call ∷ []) s'.run _ (e ∙ same)
    (cut_on first calls call answer p q r (at_phase first calls s.run (Cutting p) ph t))
told_on first calls s call s' is (Does.answered answer o ev told goes r (Answered.stays same k f) e)
    t = of_run first (calls ++ call ∷ []) s'.run s.run (e ∙ same)
    (quiet_on first calls call s.run.phase (unkept_quiet call o.reply told goes k) r t)
told_on first calls s call s' is
    (Does.answered answer o ev told goes r (Answered.more c x h reply same ne) e) t =
    of_run first (calls ++ call ∷ []) s'.run _ (e ∙ same)
    (more_on first calls call answer c x goes r
    (keeps_tile call answer o.reply ev told (ap keeps reply)) h.at ne
    (at_phase first calls s.run (Checking c) h.phase t))
told_on first calls s call s' is
    (Does.answered answer o ev told goes r (Answered.last c x h reply same all) e) t =
    of_run first (calls ++ call ∷ []) s'.run _ (e ∙ same)
    (last_on first calls call answer c x goes r
    (keeps_tile call answer o.reply ev told (ap keeps reply)) h.at all
    (at_phase first calls s.run (Checking c) h.phase t))

-- any history
record IsTold (first : State) (calls : List Call) (s : State) : Type 0 where
  here : s ≡ state_after first calls
  told : Told first calls s.run.phase

abbrev Any : Call → Type 0
Any call = Unit {0}

told_after : (first : State) (calls : List Call) → IsLegal first calls → first.run.phase ≡ Idle
    → Told first calls (state_after first calls).run.phase
told_after first calls legal new =
    (along Any (IsTold first) (λ done s call is any h. record {
      here = ap (λ (x : State). after x call.event call.kept) h.here
          ∙ sym (state_after-append first done (call ∷ []));
      told = told_on first done s call (after s call.event call.kept) h.here
          (does s call is.told) h.told;
    }) [] first calls legal (λ k d l. tt)
    (record { here = refl; told = subst (Told first []) (sym new) tt })).told

pub was_checked : (first : State) (calls : List Call) (snapshot : Snapshot) → IsLegal first calls
    → first.run.phase ≡ Idle → HasChecked (state_after first calls) snapshot
    → WasChecked first calls snapshot
was_checked first calls snapshot legal new h =
    let d : IsDone first calls h.checked.planned = at_phase first calls
    (state_after first calls).run (Finished h.checked) h.finished
    (told_after first calls legal new) in
    subst (WasChecked first calls) h.looked_at (record {
      before = d.began.before;
      begin = d.began.begin;
      since = d.since;
      stretch = d.stretch;
      behind = d.behind;
      parts = d.began.parts;
      began = d.began.began;
      stood = d.began.stood;
      goes_on = d.began.goes_on;
      in_one = d.in_one;
      plan = h.checked.planned.plan;
      planned = d.began.planned;
      all = d.all;
    })
