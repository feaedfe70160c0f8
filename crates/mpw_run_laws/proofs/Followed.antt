-- If each tile was accepted in one stretch, the run is finished.
use Rattle.std.proofs.Common.{◌≡◌, ℕ, suc, ◌<◌, true, false, List, [], ◌∷◌, ◌++◌, length, Option, Some, None, refl, sym, subst, ap, ◌∙◌, arith, length-append}
use Rattle.std.specs.Prelude.{All, slice_get, slice_set, is_some}
use Rattle.std.proofs.lemmas.Bool.{true≢false}
use Rattle.std.proofs.lemmas.Option.{slice_get_within, same_Some}
use Rattle.mpw_deck.specs.Decks.{Deck}
use Rattle.mpw_hier.specs.declared.submission.Submission.{Submission}
use Rattle.mpw_walk.specs.declared.root.Root.{Root}
use Rattle.mpw_tiles.specs.Plan.{Tiling, tiles}
use Rattle.mpw_tiles.specs.Snapshots.{Snapshot, plan_for}
use Rattle.mpw_markers.specs.declared.marker.Marker.{Marker}
use Rattle.mpw_job.specs.Jobs.{FoundMarkers}
use Rattle.mpw_run.specs.declared.phase.Phase.{Phase}
use Rattle.mpw_run.specs.declared.phase.Phase.TheVariants.{Idle, Cutting, Checking, Finished}
use Rattle.mpw_run.specs.Run.{Planned, Tile, Checks, answers_of, answered}
use Rattle.mpw_run.specs.Step.{Run, raised, answered_by, with_tiles, restarted_phase}
use Rattle.mpw_run.proofs.TileLists.{own, own_some}
use Rattle.mpw_run.proofs.Opened.{some_tile}
use Rattle.mpw_events.specs.declared.event.Call.{Call}
use Rattle.mpw_events.specs.declared.event.Event.TheVariants as event
use Rattle.mpw_events.specs.History.{state_after, IsLegal}
use Rattle.mpw_events.specs.Step.{State, new_state, after}
use Rattle.mpw_run_laws.specs.Calls.{is_restart, begins, GoesOn, WasKept}
use Rattle.mpw_run_laws.specs.Finishing.{StandsIn, WasChecked, HasChecked, FinishedExactlyThen}
use Rattle.mpw_run_laws.proofs.Moves.{Takes, Cuts, Answered, tiles_with}
use Rattle.mpw_run_laws.proofs.Calls.{Does, IsQuiet, does}
use Rattle.mpw_run_laws.proofs.Told.{was_checked}
use Rattle.mpw_run_laws.proofs.Histories.{state_after-append, legal_front, legal_rest, all_front, all_rest, along}
use Rattle.mpw_run_laws.proofs.Counted.{IsCounted, new_counted, raised_counted, more_counted, set_cases, unkept_quiet, was_cases, tile_is}

-- the run goes on with what it began with
abbrev Follows : Planned → Phase → Type 0
Follows p Idle = ⊥
Follows p (Cutting q) = q ≡ p
Follows p (Checking c) = (c.planned ≡ p) × IsCounted c
Follows p (Finished f) = f.planned ≡ p

follows_run : (p : Planned) (r q : Run) → r ≡ q → Follows p q.phase → Follows p r.phase
follows_run p r q e h = subst (λ (x : Run). Follows p x.phase) (sym e) h

follows_restarted : (p : Planned) (phase : Phase) → Follows p phase
    → Follows p (restarted_phase phase)
follows_restarted p Idle h = h
follows_restarted p (Cutting q) h = h
follows_restarted p (Checking c) h = h.0
follows_restarted p (Finished f) h = h

follows_on : (p : Planned) (s : State) (call : Call) (s' : State) → Does s call s' → GoesOn call
    → Follows p s.run.phase → Follows p s'.run.phase
follows_on p s call s' (Does.begun q began stood planned e) goes h =
    absurd (true≢false (sym began ∙ goes.same))
follows_on p s call s' (Does.left left not e) goes h =
    absurd (true≢false (sym left ∙ goes.stays))
follows_on p s call s' (Does.restarted r q e) goes h =
    follows_run p s'.run _ e (follows_restarted p s.run.phase h)
follows_on p s call s' (Does.stayed q r e) goes h = follows_run p s'.run s.run e h
follows_on p s call s' (Does.took o q r (Takes.stays same f) e) goes h =
    follows_run p s'.run s.run (e ∙ same) h
follows_on p s call s' (Does.took o q r (Takes.raises c k x ph at same f) e) goes h =
    let now = subst (Follows p) ph h in
    follows_run p s'.run _ (e ∙ same) (now.0, raised_counted c k x at now.1)
follows_on p s call s' (Does.cut answer o ev q r (Cuts.stays same f) e) goes h =
    follows_run p s'.run s.run (e ∙ same) h
follows_on p s call s' (Does.cut answer o ev q r (Cuts.begins planned ph own same f) e) goes h =
    follows_run p s'.run _ (e ∙ same) (subst (Follows p) ph h, new_counted planned answer.windows)
follows_on p s call s' (Does.answered answer o ev told g r (Answered.stays same k f) e) goes h =
    follows_run p s'.run s.run (e ∙ same) h
follows_on p s call s' (Does.answered answer o ev told g r (Answered.more c x a reply same ne) e)
    goes h =
    let now = subst (Follows p) a.phase h in
    follows_run p s'.run _ (e ∙ same) (now.0, more_counted c answer x now.1 ne)
follows_on p s call s' (Does.answered answer o ev told g r (Answered.last c x a reply same all) e)
    goes h = follows_run p s'.run _ (e ∙ same) (subst (Follows p) a.phase h).0

-- the run has the answers that were accepted in the stretch so far
abbrev Holds : List Call → Phase → Type 0
Holds done Idle = Unit {0}
Holds done (Cutting q) = (k : ℕ) → WasKept done k → ⊥
Holds done (Checking c) = (k : ℕ) (x : Tile) → slice_get c.tiles k ≡ Some x → WasKept done k
    → is_some x.answer ≡ true
Holds done (Finished f) = Unit {0}

holds_run : (done : List Call) (r q : Run) → r ≡ q → Holds done q.phase → Holds done r.phase
holds_run done r q e h = subst (λ (x : Run). Holds done x.phase) (sym e) h

holds_quiet : (done : List Call) (call : Call) (phase : Phase) → IsQuiet call → Holds done phase
    → Holds (done ++ call ∷ []) phase
holds_quiet done call Idle q h = tt
holds_quiet done call (Cutting p) q h = λ k w. was_cases done call k ⊥ w (h k) (q.keeps_none k)
holds_quiet done call (Checking c) q h = λ k x at w. was_cases done call k
    (is_some x.answer ≡ true) w (h k x at) (λ n. absurd (q.keeps_none k n))
holds_quiet done call (Finished f) q h = tt

holds_raised : (done : List Call) (c : Checks) (k : ℕ) (x : Tile) → slice_get c.tiles k ≡ Some x
    → Holds done (Checking c)
    → Holds done (Checking (with_tiles c (slice_set c.tiles k (raised x))))
holds_raised done c k x at h = λ j y g w. set_cases c.tiles k j x (raised x) y at g
    (is_some y.answer ≡ true)
    (λ s e. ap (λ (z : Tile). is_some z.answer) (sym e)
    ∙ h j x (ap (slice_get c.tiles) s ∙ at) w)
    (λ ne g'. h j y g' w)

holds_more : (done : List Call) (call : Call) (answer : FoundMarkers) (c : Checks) (x : Tile)
    → call.event ≡ event.Tile answer → slice_get c.tiles answer.job.tile ≡ Some x
    → Holds done (Checking c)
    → Holds (done ++ call ∷ []) (Checking (with_tiles c (tiles_with c answer x)))
holds_more done call answer c x is at h = λ j y g w.
    set_cases c.tiles answer.job.tile j x (answered_by answer.markers x) y at g
    (is_some y.answer ≡ true)
    (λ s e. ap (λ (z : Tile). is_some z.answer) (sym e))
    (λ ne g'. was_cases done call j (is_some y.answer ≡ true) w (h j y g')
    (λ k. absurd (ne (sym k.of_tile ∙ ap (λ (a : FoundMarkers). a.job.tile)
    (tile_is k.answer answer (sym k.is ∙ is))))))

holds_on : (done : List Call) (s : State) (call : Call) (s' : State) → Does s call s' → GoesOn call
    → is_restart call.event ≡ false → Holds done s.run.phase
    → Holds (done ++ call ∷ []) s'.run.phase
holds_on done s call s' (Does.begun q began stood planned e) goes r h =
    absurd (true≢false (sym began ∙ goes.same))
holds_on done s call s' (Does.left left not e) goes r h =
    absurd (true≢false (sym left ∙ goes.stays))
holds_on done s call s' (Does.restarted ev q e) goes r h =
    absurd (true≢false (ap is_restart (sym ev) ∙ r))
holds_on done s call s' (Does.stayed q r e) goes r' h =
    holds_run (done ++ call ∷ []) s'.run s.run e (holds_quiet done call s.run.phase q h)
holds_on done s call s' (Does.took o q r (Takes.stays same f) e) goes r' h =
    holds_run (done ++ call ∷ []) s'.run s.run (e ∙ same) (holds_quiet done call s.run.phase q h)
holds_on done s call s' (Does.took o q r (Takes.raises c k x ph at same f) e) goes r' h =
    holds_run (done ++ call ∷ []) s'.run _ (e ∙ same)
    (holds_raised (done ++ call ∷ []) c k x at
    (holds_quiet done call (Checking c) q (subst (Holds done) ph h)))
holds_on done s call s' (Does.cut answer o ev q r (Cuts.stays same f) e) goes r' h =
    holds_run (done ++ call ∷ []) s'.run s.run (e ∙ same) (holds_quiet done call s.run.phase q h)
holds_on done s call s' (Does.cut answer o ev q r (Cuts.begins p ph own same f) e) goes r' h =
    let none = holds_quiet done call (Cutting p) q (subst (Holds done) ph h) in
    holds_run (done ++ call ∷ []) s'.run _ (e ∙ same) (λ k x at w. absurd (none k w))
holds_on done s call s' (Does.answered answer o ev told g r (Answered.stays same k f) e) goes r' h =
    holds_run (done ++ call ∷ []) s'.run s.run (e ∙ same)
    (holds_quiet done call s.run.phase (unkept_quiet call o.reply told g k) h)
holds_on done s call s' (Does.answered answer o ev told g r (Answered.more c x a reply same ne) e)
    goes r' h =
    holds_run (done ++ call ∷ []) s'.run _ (e ∙ same)
    (holds_more done call answer c x ev a.at (subst (Holds done) a.phase h))
holds_on done s call s' (Does.answered answer o ev told g r (Answered.last c x a reply same all) e)
    goes r' h = holds_run (done ++ call ∷ []) s'.run _ (e ∙ same) tt

-- the run is finished, and checked that
abbrev IsAtEnd : Planned → Phase → Type 0
IsAtEnd p Idle = ⊥
IsAtEnd p (Cutting q) = ⊥
IsAtEnd p (Checking c) = ⊥
IsAtEnd p (Finished f) = f.planned ≡ p

ends_run : (p : Planned) (r q : Run) → r ≡ q → IsAtEnd p q.phase → IsAtEnd p r.phase
ends_run p r q e h = subst (λ (x : Run). IsAtEnd p x.phase) (sym e) h

ends_restarted : (p : Planned) (phase : Phase) → IsAtEnd p phase
    → IsAtEnd p (restarted_phase phase)
ends_restarted p Idle h = h
ends_restarted p (Cutting q) h = absurd h
ends_restarted p (Checking c) h = absurd h
ends_restarted p (Finished f) h = h

ends_on : (p : Planned) (s : State) (call : Call) (s' : State) → Does s call s' → GoesOn call
    → IsAtEnd p s.run.phase → IsAtEnd p s'.run.phase
ends_on p s call s' (Does.begun q began stood planned e) goes h =
    absurd (true≢false (sym began ∙ goes.same))
ends_on p s call s' (Does.left left not e) goes h = absurd (true≢false (sym left ∙ goes.stays))
ends_on p s call s' (Does.restarted r q e) goes h =
    ends_run p s'.run _ e (ends_restarted p s.run.phase h)
ends_on p s call s' (Does.stayed q r e) goes h = ends_run p s'.run s.run e h
ends_on p s call s' (Does.took o q r (Takes.stays same f) e) goes h =
    ends_run p s'.run s.run (e ∙ same) h
ends_on p s call s' (Does.took o q r (Takes.raises c k x ph at same f) e) goes h =
    absurd (subst (IsAtEnd p) ph h)
ends_on p s call s' (Does.cut answer o ev q r (Cuts.stays same f) e) goes h =
    ends_run p s'.run s.run (e ∙ same) h
ends_on p s call s' (Does.cut answer o ev q r (Cuts.begins planned ph own same f) e) goes h =
    absurd (subst (IsAtEnd p) ph h)
ends_on p s call s' (Does.answered answer o ev told g r (Answered.stays same k f) e) goes h =
    ends_run p s'.run s.run (e ∙ same) h
ends_on p s call s' (Does.answered answer o ev told g r (Answered.more c x a reply same ne) e) goes
    h = absurd (subst (IsAtEnd p) a.phase h)
ends_on p s call s' (Does.answered answer o ev told g r (Answered.last c x a reply same all) e) goes
    h = absurd (subst (IsAtEnd p) a.phase h)

-- if each tile has an answer, all are answered
each_on : (t : Tile) (xs : List Tile) (a : Option (List Marker)) → t.answer ≡ a
    → is_some t.answer ≡ true → answered xs ≡ length xs
    → answered (t ∷ xs) ≡ length (t ∷ xs)
each_on t xs None e h rest =
    absurd (true≢false (sym h ∙ ap (λ (o : Option (List Marker)). is_some o) e))
each_on t xs (Some m) e h rest =
    omega (arith, length-append (own t) (answers_of xs), own_some t m e, rest)

each_answered : (xs : List Tile) → ((k : ℕ) (t : Tile) → slice_get xs k ≡ Some t
    → is_some t.answer ≡ true) → answered xs ≡ length xs
each_answered [] h = refl
each_answered (t ∷ xs) h =
    each_on t xs t.answer refl (h 0 t refl) (each_answered xs (λ k u e. h (suc k) u e))

at_end : (p : Planned) (done : List Call) (phase : Phase) → Follows p phase → Holds done phase
    → ((k : ℕ) → k < tiles p.plan → WasKept done k) → IsAtEnd p phase
at_end p done Idle f h all = f
at_end p done (Cutting q) f h all = h 0 (all 0 (omega (arith, some_tile p.plan)))
at_end p done (Checking c) f h all =
    let count : length c.tiles ≡ tiles p.plan =
    f.1.count ∙ ap (λ (q : Planned). tiles q.plan) f.0 in
    let full = each_answered c.tiles (λ k x e. h k x e
    (all k (omega (arith, slice_get_within c.tiles k x e, count)))) in
    let less = f.1.left in
    let own_count = f.1.count in
    omega (arith, full, less, own_count)
at_end p done (Finished f) g h all = g

-- ---- the whole history

ended_as : (p : Planned) (s : State) (phase : Phase) → s.run.phase ≡ phase → IsAtEnd p phase
    → HasChecked s p.snapshot
ended_as p s Idle e h = absurd h
ended_as p s (Cutting q) e h = absurd h
ended_as p s (Checking c) e h = absurd h
ended_as p s (Finished f) e h =
    record { checked = f; finished = e; looked_at = ap (λ (q : Planned). q.snapshot) h }

-- a state has one such snapshot
one_stands : (s : State) (a b : Snapshot) → StandsIn s a → StandsIn s b → a ≡ b
one_stands s a b f g =
    let decks : a.deck ≡ b.deck = same_Some a.deck b.deck (sym f.deck ∙ g.deck) in
    let roots : a.roots ≡ b.roots = sym f.roots ∙ g.roots in
    let shelves : a.shelf ≡ b.shelf = sym f.shelf ∙ g.shelf in
    let first : Deck → Snapshot =
    λ d. record { deck = d; roots = a.roots; shelf = a.shelf } in
    let second : List Root → Snapshot =
    λ r. record { deck = b.deck; roots = r; shelf = a.shelf } in
    let third : List Submission → Snapshot =
    λ ss. record { deck = b.deck; roots = b.roots; shelf = ss } in
    ap first decks ∙ ap second roots ∙ ap third shelves

-- the state after the call with which a run begins
record IsBegun (s : State) (snapshot : Snapshot) : Type 0 where
  p : Planned
  phase : s.run.phase ≡ Cutting p
  is : p.snapshot ≡ snapshot
  plan : plan_for p.snapshot ≡ Some p.plan

begun : (s : State) (call : Call) (s' : State) (snapshot : Snapshot) → Does s call s'
    → begins call ≡ true → StandsIn s snapshot → IsBegun s' snapshot
begun s call s' snapshot (Does.begun p began stood planned e) is stands = record {
  p = p;
  phase = ap (λ (r : Run). r.phase) e;
  is = one_stands s p.snapshot snapshot stood stands;
  plan = planned;
}
begun s call s' snapshot (Does.left left not e) is stands =
    absurd (true≢false (sym is ∙ not))
begun s call s' snapshot (Does.restarted r q e) is stands =
    absurd (true≢false (sym is ∙ q.goes_on.same))
begun s call s' snapshot (Does.stayed q r e) is stands =
    absurd (true≢false (sym is ∙ q.goes_on.same))
begun s call s' snapshot (Does.took o q r t e) is stands =
    absurd (true≢false (sym is ∙ q.goes_on.same))
begun s call s' snapshot (Does.cut answer o ev q r t e) is stands =
    absurd (true≢false (sym is ∙ q.goes_on.same))
begun s call s' snapshot (Does.answered answer o ev told g r t e) is stands =
    absurd (true≢false (sym is ∙ g.same))

record IsIn (p : Planned) (done : List Call) (s : State) : Type 0 where
  follows : Follows p s.run.phase
  holds : Holds done s.run.phase

record StaysIn (call : Call) : Type 0 where
  goes : GoesOn call
  one : is_restart call.event ≡ false

pub has_checked : (first : State) (calls : List Call) (snapshot : Snapshot) → IsLegal first calls
    → WasChecked first calls snapshot → HasChecked (state_after first calls) snapshot
has_checked first calls snapshot legal w =
    subst (λ (x : State). HasChecked x snapshot) (sym whole)
    (subst (HasChecked end) b.is (ended_as b.p end end.run.phase refl at_last))
  where
    rest : List Call
    rest = w.since ++ (w.stretch ++ w.behind)

    there : State
    there = state_after first w.before

    legal_there : IsLegal there (w.begin ∷ rest)
    legal_there = legal_rest first w.before (w.begin ∷ rest) (subst (IsLegal first) w.parts legal)

    s1 : State
    s1 = after there w.begin.event w.begin.kept

    b : IsBegun s1 snapshot
    b = begun there w.begin s1 snapshot (does there w.begin legal_there.0.told) w.began w.stood

    legal1 : IsLegal s1 rest
    legal1 = legal_there.1

    s2 : State
    s2 = state_after s1 w.since

    legal2 : IsLegal s2 (w.stretch ++ w.behind)
    legal2 = legal_rest s1 w.since (w.stretch ++ w.behind) legal1

    s3 : State
    s3 = state_after s2 w.stretch

    end : State
    end = state_after s3 w.behind

    goes2 : All GoesOn (w.stretch ++ w.behind)
    goes2 = all_rest GoesOn w.since (w.stretch ++ w.behind) w.goes_on

    follows2 : Follows b.p s2.run.phase
    follows2 = along GoesOn (λ done s. Follows b.p s.run.phase)
        (λ done s call is goes h. follows_on b.p s call (after s call.event call.kept)
        (does s call is.told) goes h) [] s1 w.since
        (legal_front s1 w.since (w.stretch ++ w.behind) legal1)
        (all_front GoesOn w.since (w.stretch ++ w.behind) w.goes_on)
        (subst (Follows b.p) (sym b.phase) refl)

    goes3 : All GoesOn w.stretch
    goes3 = all_front GoesOn w.stretch w.behind goes2

    in3 : IsIn b.p w.stretch s3
    in3 = along StaysIn (IsIn b.p)
        (λ done s call is stays h. record {
          follows = follows_on b.p s call (after s call.event call.kept) (does s call is.told)
              stays.goes h.follows;
          holds = holds_on done s call (after s call.event call.kept) (does s call is.told)
              stays.goes stays.one h.holds;
        }) [] s2 w.stretch (legal_front s2 w.stretch w.behind legal2)
        (λ k d l. record { goes = goes3 k d l; one = w.in_one k d l })
        (record { follows = follows2; holds = none_held s2.run.phase })
      where
        none_held : (phase : Phase) → Holds [] phase
        none_held Idle = tt
        none_held (Cutting q) = λ k x. absurd (omega (arith, x.1.1))
        none_held (Checking c) = λ k t at x. absurd (omega (arith, x.1.1))
        none_held (Finished f) = tt

    plans : w.plan ≡ b.p.plan
    plans = same_Some w.plan b.p.plan
        (sym w.planned ∙ ap plan_for (sym b.is) ∙ b.plan)

    at3 : IsAtEnd b.p s3.run.phase
    at3 = at_end b.p w.stretch s3.run.phase in3.follows in3.holds
        (λ k l. w.all k (subst (λ (q : Tiling). k < tiles q) (sym plans) l))

    at_last : IsAtEnd b.p end.run.phase
    at_last = along GoesOn (λ done s. IsAtEnd b.p s.run.phase)
        (λ done s call is goes h. ends_on b.p s call (after s call.event call.kept)
        (does s call is.told) goes h) [] s3 w.behind
        (legal_rest s2 w.stretch w.behind legal2)
        (all_rest GoesOn w.stretch w.behind goes2) at3

    whole : state_after first calls ≡ end
    whole = ap (state_after first) w.parts
        ∙ state_after-append first w.before (w.begin ∷ rest)
        ∙ state_after-append s1 w.since (w.stretch ++ w.behind)
        ∙ state_after-append s2 w.stretch w.behind

new_idle : (officer digest : List ℕ) → (new_state officer digest).run.phase ≡ Idle
unfolding new_state
new_idle officer digest = refl

pub finished_exactly : FinishedExactlyThen
finished_exactly officer digest calls snapshot legal = (
  was_checked (new_state officer digest) calls snapshot legal (new_idle officer digest),
  has_checked (new_state officer digest) calls snapshot legal,
)
