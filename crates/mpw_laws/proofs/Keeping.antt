-- A run is finished exactly if an answer of each of its tiles was accepted.
use Rattle.std.proofs.Common.{◌≡◌, ℕ, suc, ◌<◌, Bool, true, false, ◌&&◌, ◌||◌, List, [], ◌∷◌, length, Option, Some, None, refl, sym, subst, ap, ◌∙◌, inl, inr, arith, length-append, length-set}
use Rattle.std.specs.Prelude.{◌==◌, slice_get, slice_set, is_some, nat_lt}
use Rattle.std.proofs.lemmas.Bool.{false≢true, cases_eq, eqb-true, eq-eqb}
use Rattle.std.proofs.lemmas.Option.{slice_get_within, same_Some, none-some}
use Rattle.mpw_tiles.specs.Plan.{tiles}
use Rattle.mpw_markers.specs.declared.marker.Marker.{Marker}
use Rattle.mpw_job.specs.Jobs.{CutWindows, FoundMarkers}
use Rattle.mpw_job.specs.Laws.{AnswersMakeTheLayout}
use Rattle.mpw_run.specs.declared.phase.Phase.{Phase}
use Rattle.mpw_run.specs.declared.phase.Phase.TheVariants.{Idle, Cutting, Checking, Finished}
use Rattle.mpw_run.specs.declared.phase.RunReply.{RunReply}
use Rattle.mpw_run.specs.declared.phase.RunReply.TheVariants as reply
use Rattle.mpw_run.specs.Run.{Planned, Tile, Checks, answers_of, answered}
use Rattle.mpw_run.specs.Same.{same_snapshot, same_tile_job}
use Rattle.mpw_run.specs.Step.{Run, Offer, Outcome, IsPhase, IsRun, raised, answered_by, next_from, handed, taken_in, left_as, cut_in, kept, job_of_tile, tile_compared, tile_checked, tile_in}
use Rattle.mpw_run.specs.Laws.{StitchedComputes}
use Rattle.mpw_laws.specs.RunLaws.{Event, AreRight, run_after, is_kept, looked_at, was_kept, is_finished, AllWereKept, FinishedOnceAllWereKept}
use Rattle.mpw_laws.proofs.Tests.{either}
use Rattle.mpw_run.proofs.TileLists.{own, own_some, same_tile, other_tile, new_get, all_answered}
use Rattle.mpw_run.proofs.Next.{next_is}
use Rattle.mpw_run.proofs.Opened.{some_tile}
use Rattle.mpw_laws.proofs.Coming.{keeps}

-- ---- what was accepted, by the phase

-- an answer of a tile was accepted exactly if the tile is answered
abbrev HaveKept : (ℕ → Bool) → List Tile → Type 0
HaveKept was xs = (k : ℕ) (t : Tile) → slice_get xs k ≡ Some t → was k ≡ is_some t.answer

abbrev Agrees : Option Planned → (ℕ → Bool) → Phase → Type 0
Agrees looked was Idle = looked ≡ None
Agrees looked was (Cutting planned) = (looked ≡ Some planned) × ((k : ℕ) → was k ≡ false)
Agrees looked was (Checking c) = (looked ≡ Some c.planned) × HaveKept was c.tiles
Agrees looked was (Finished f) =
    (looked ≡ Some f.planned) × ((k : ℕ) → k < tiles f.planned.plan → was k ≡ true)

-- ---- calls for a job

raised_kept : (was : ℕ → Bool) (xs : List Tile) (k : ℕ) (x : Tile) → slice_get xs k ≡ Some x
    → HaveKept was xs → HaveKept was (slice_set xs k (raised x))
raised_kept was xs k x e h j t g = elim (cases_eq j k) [
  | inl s ↦
      let same : raised x ≡ t = same_Some _ t
      (sym (same_tile xs k (raised x) (slice_get_within xs k x e))
      ∙ ap (slice_get (slice_set xs k (raised x))) (sym s) ∙ g) in
      h j x (ap (slice_get xs) s ∙ e) ∙ ap (λ (u : Tile). is_some u.answer) same
  | inr ne ↦ h j t (sym (other_tile xs k j (raised x) ne) ∙ g)
]

handed_agrees : (looked : Option Planned) (was : ℕ → Bool) (run : Run) (c : Checks)
    (o : Option Offer) → next_from 0 c.tiles ≡ o
    → Agrees looked was (Checking c) → Agrees looked was run.phase
    → Agrees looked was (handed run c o).run.phase
handed_agrees looked was run c None e h r = r
handed_agrees looked was run c (Some o) e h r =
    let i = next_is 0 c.tiles o e in
    let at : slice_get c.tiles o.number ≡ Some o.tile =
    ap (slice_get c.tiles) (let n = i.number in omega (arith, n)) ∙ i.at in
    (h.0, raised_kept was c.tiles o.number o.tile at h.1)

take_agrees : (looked : Option Planned) (was : ℕ → Bool) (run : Run) (phase : Phase)
    → Agrees looked was phase → Agrees looked was run.phase
    → Agrees looked was (taken_in run phase).run.phase
take_agrees looked was run Idle h r = r
take_agrees looked was run (Cutting planned) h r = r
take_agrees looked was run (Checking c) h r =
    handed_agrees looked was run c (next_from 0 c.tiles) refl h r
take_agrees looked was run (Finished f) h r = r

-- ---- cuts

abbrev RunAgrees : Option Planned → (ℕ → Bool) → Outcome → Type 0
RunAgrees looked was o = Agrees looked was o.run.phase

no_answer : (t : Tile) → t.answer ≡ None → is_some t.answer ≡ false
no_answer t e = ap (λ (a : Option (List Marker)). is_some a) e

cut_agrees : (looked : Option Planned) (was : ℕ → Bool) (run : Run) (answer : CutWindows)
    (phase : Phase) → Agrees looked was phase → Agrees looked was run.phase
    → RunAgrees looked was (cut_in run answer phase)
cut_agrees looked was run answer Idle h r = r
cut_agrees looked was run answer (Cutting planned) h r =
    either (RunAgrees looked was) (same_snapshot answer.job.snapshot planned.snapshot) _ _
    (λ e. (h.0, λ k t g. h.1 k ∙ sym (no_answer t (new_get (tiles planned.plan) k t g))))
    (λ e. r)
cut_agrees looked was run answer (Checking c) h r = r
cut_agrees looked was run answer (Finished f) h r = r

-- ---- answers of tiles

-- what was accepted, with one more answer
abbrev with_one : (ℕ → Bool) → ℕ → RunReply → ℕ → Bool
with_one was tile r k = ((tile == k) && is_kept r) || was k

abbrev AgreesWith : Option Planned → (ℕ → Bool) → ℕ → Outcome → Type 0
AgreesWith looked was tile o = Agrees looked (with_one was tile o.reply) o.run.phase

and_false : (b : Bool) → (b && false) ≡ false
and_false true = refl
and_false false = refl

not_one : (was : ℕ → Bool) (tile : ℕ) (r : RunReply) (k : ℕ) → is_kept r ≡ false
    → with_one was tile r k ≡ was k
not_one was tile r k e = ap (λ (b : Bool). ((tile == k) && b) || was k) e
    ∙ ap (λ (b : Bool). b || was k) (and_false (tile == k))

-- an answer that is not accepted
left : (looked : Option Planned) (was : ℕ → Bool) (tile : ℕ) (r : RunReply) (run : Run)
    → is_kept r ≡ false → Agrees looked was run.phase → AgreesWith looked was tile (left_as r run)
left looked was tile r run e h =
    let same : was ≡ with_one was tile r = (λ i k. sym (not_one was tile r k e) i) in
    subst (λ (f : ℕ → Bool). Agrees looked f run.phase) same h

-- the answer that is accepted
own_one : (was : ℕ → Bool) (tile k : ℕ) (r : RunReply) → is_kept r ≡ true → k ≡ tile
    → with_one was tile r k ≡ true
own_one was tile k r e s =
    ap (λ (b : Bool). (b && is_kept r) || was k) (eq-eqb tile k (sym s))
    ∙ ap (λ (b : Bool). b || was k) e

other_one : (was : ℕ → Bool) (tile k : ℕ) (r : RunReply) → (k ≡ tile → ⊥)
    → with_one was tile r k ≡ was k
other_one was tile k r ne = by (tile == k) refl
  where
    by : (b : Bool) → (tile == k) ≡ b → ((b && is_kept r) || was k) ≡ was k
    by true e = absurd (ne (sym (eqb-true tile k e)))
    by false e = refl

set_kept : (was : ℕ → Bool) (xs : List Tile) (k : ℕ) (x : Tile) (m : List Marker) (r : RunReply)
    → is_kept r ≡ true → slice_get xs k ≡ Some x → HaveKept was xs
    → HaveKept (with_one was k r) (slice_set xs k (answered_by m x))
set_kept was xs k x m r e at h j t g = elim (cases_eq j k) [
  | inl s ↦
      let same : answered_by m x ≡ t = same_Some _ t
      (sym (same_tile xs k (answered_by m x) (slice_get_within xs k x at))
      ∙ ap (slice_get (slice_set xs k (answered_by m x))) (sym s) ∙ g) in
      own_one was k j r e s ∙ ap (λ (u : Tile). is_some u.answer) same
  | inr ne ↦ other_one was k j r ne ∙ h j t (sym (other_tile xs k j (answered_by m x) ne) ∙ g)
]

-- if all tiles are answered, an answer of each was accepted
all_kept : (was : ℕ → Bool) (xs : List Tile) (n : ℕ) → HaveKept was xs → length xs ≡ n
    → answered xs ≡ n → (k : ℕ) → k < n → was k ≡ true
all_kept was xs n h count all k l =
    let a = all_answered xs (all ∙ sym count) k (omega (arith, l, count)) in
    h k a.0 a.1 ∙ ap (λ (o : Option (List Marker)). is_some o) a.2

kept_agrees : (looked : Option Planned) (was : ℕ → Bool) (run : Run) (c : Checks) (k : ℕ) (x : Tile)
    (m : List Marker) → Agrees looked was (Checking c)
    → length c.tiles ≡ tiles c.planned.plan → slice_get c.tiles k ≡ Some x
    → AgreesWith looked was k (kept run c (slice_set c.tiles k (answered_by m x)))
kept_agrees looked was run c k x m h count at =
    either (AgreesWith looked was k) (answered now == tiles c.planned.plan) _ _
    (λ e. (
      h.0,
      all_kept (with_one was k reply.Finished) now (tiles c.planned.plan)
          (set_kept was c.tiles k x m reply.Finished refl at h.1)
          (length-set c.tiles k (answered_by m x) ∙ count) (eqb-true _ _ e),
    ))
    (λ e. (h.0, set_kept was c.tiles k x m reply.Kept refl at h.1))
  where
    now : List Tile
    now = slice_set c.tiles k (answered_by m x)

compared_agrees : (looked : Option Planned) (was : ℕ → Bool) (run : Run) (c : Checks)
    (answer : FoundMarkers) (x : Tile) (a : Option (List Marker)) → Agrees looked was (Checking c)
    → length c.tiles ≡ tiles c.planned.plan → slice_get c.tiles answer.job.tile ≡ Some x
    → Agrees looked was run.phase → AgreesWith looked was answer.job.tile
    (tile_compared run c answer x a)
compared_agrees looked was run c answer x (Some m) h count at r =
    left looked was answer.job.tile reply.Double run refl r
compared_agrees looked was run c answer x None h count at r =
    either (AgreesWith looked was answer.job.tile)
    (same_tile_job answer.job (job_of_tile run.number c answer.job.tile)) _ _
    (λ b. kept_agrees looked was run c answer.job.tile x answer.markers h count at)
    (λ f. left looked was answer.job.tile reply.Stranger run refl r)

checked_agrees : (looked : Option Planned) (was : ℕ → Bool) (run : Run) (c : Checks)
    (answer : FoundMarkers) (x : Option Tile) → Agrees looked was (Checking c)
    → length c.tiles ≡ tiles c.planned.plan → slice_get c.tiles answer.job.tile ≡ x
    → Agrees looked was run.phase → AgreesWith looked was answer.job.tile
    (tile_checked run c answer x)
checked_agrees looked was run c answer None h count at r =
    left looked was answer.job.tile reply.Stranger run refl r
checked_agrees looked was run c answer (Some x) h count at r =
    compared_agrees looked was run c answer x x.answer h count at r

tile_agrees : (looked : Option Planned) (was : ℕ → Bool) (run : Run) (answer : FoundMarkers)
    (phase : Phase) → IsPhase run.number phase → Agrees looked was phase
    → Agrees looked was run.phase → AgreesWith looked was answer.job.tile (tile_in run answer phase)
tile_agrees looked was run answer Idle t h r =
    left looked was answer.job.tile reply.OldRun run refl r
tile_agrees looked was run answer (Cutting planned) t h r =
    left looked was answer.job.tile reply.Stranger run refl r
tile_agrees looked was run answer (Checking c) t h r =
    checked_agrees looked was run c answer (slice_get c.tiles answer.job.tile) h t.1.count refl r
tile_agrees looked was run answer (Finished f) t h r =
    either (AgreesWith looked was answer.job.tile)
    (nat_lt answer.job.tile (tiles f.planned.plan)) _ _
    (λ e. left looked was answer.job.tile reply.Double run refl r)
    (λ e. left looked was answer.job.tile reply.Stranger run refl r)

-- ---- all events

event_agrees : (event : Event) (before : List Event) → IsRun (run_after before)
    → Agrees (looked_at before) (was_kept before) (run_after before).phase
    → Agrees (looked_at (event ∷ before)) (was_kept (event ∷ before))
    (run_after (event ∷ before)).phase
event_agrees (Event.start planned) before t h = (refl, λ k. refl)
event_agrees Event.cancel before t h = refl
event_agrees Event.take before t h =
    take_agrees (looked_at before) (was_kept before) (run_after before) (run_after before).phase h h
event_agrees (Event.cut answer) before t h =
    either (RunAgrees (looked_at before) (was_kept before))
    ((run_after before).number == answer.job.run) _ _
    (λ e. cut_agrees (looked_at before) (was_kept before) (run_after before) answer
    (run_after before).phase h h)
    (λ e. h)
event_agrees (Event.tile answer) before t h =
    either (AgreesWith (looked_at before) (was_kept before) answer.job.tile)
    ((run_after before).number == answer.job.run) _ _
    (λ e. tile_agrees (looked_at before) (was_kept before) (run_after before) answer
    (run_after before).phase t h h)
    (λ e. left (looked_at before) (was_kept before) answer.job.tile reply.OldRun (run_after before)
    refl h)

agrees : AnswersMakeTheLayout → StitchedComputes → (events : List Event) → AreRight events
    → Agrees (looked_at events) (was_kept events) (run_after events).phase
agrees law computes [] right = refl
agrees law computes (event ∷ before) right =
    event_agrees event before (keeps law computes before right.1)
    (agrees law computes before right.1)

-- ---- finished

-- if each tile has an answer, all are answered
each_on : (t : Tile) (xs : List Tile) → answered xs ≡ length xs → is_some t.answer ≡ true
    → answered (t ∷ xs) ≡ length (t ∷ xs)
each_on t xs rest h = by t.answer refl
  where
    by : (a : Option (List Marker)) → t.answer ≡ a → answered (t ∷ xs) ≡ length (t ∷ xs)
    by None e = absurd (false≢true (sym (no_answer t e) ∙ h))
    by (Some m) e = omega (arith, length-append (own t) (answers_of xs), own_some t m e, rest)

each_answered : (xs : List Tile) → ((k : ℕ) (t : Tile) → slice_get xs k ≡ Some t
    → is_some t.answer ≡ true) → answered xs ≡ length xs
each_answered [] h = refl
each_answered (t ∷ xs) h = each_on t xs (each_answered xs (λ k u e. h (suc k) u e)) (h 0 t refl)

is_known : (looked : Option Planned) (p q : Planned) → looked ≡ Some p → looked ≡ Some q → p ≡ q
is_known looked p q e f = same_Some p q (sym e ∙ f)

to_all : (events : List Event) (phase : Phase) → Agrees (looked_at events) (was_kept events) phase
    → is_finished phase ≡ true → AllWereKept events
to_all events Idle h e = absurd (false≢true e)
to_all events (Cutting planned) h e = absurd (false≢true e)
to_all events (Checking c) h e = absurd (false≢true e)
to_all events (Finished f) h e = record { planned = f.planned; goes_on = h.0; all = h.1 }

from_all : (events : List Event) (number : ℕ) (phase : Phase) → IsPhase number phase
    → Agrees (looked_at events) (was_kept events) phase → AllWereKept events
    → is_finished phase ≡ true
from_all events number Idle t h a = absurd (none-some a.planned (sym h ∙ a.goes_on))
from_all events number (Cutting planned) t h a =
    absurd (false≢true (sym (h.1 0) ∙ a.all 0 (omega (arith, some_tile a.planned.plan))))
from_all events number (Checking c) t h a =
    let same : a.planned ≡ c.planned = is_known (looked_at events) a.planned c.planned a.goes_on
    h.0 in
    let few : (k : ℕ) → k < tiles c.planned.plan
    → was_kept events k ≡ true = subst (λ (p : Planned). (k : ℕ) → k < tiles p.plan
    → was_kept events k ≡ true) same a.all in
    let count = t.1.count in
    let less = t.1.left in
    let full = each_answered c.tiles (λ k x e. sym (h.1 k x e)
    ∙ few k (omega (arith, slice_get_within c.tiles k x e, count))) in
    absurd (omega (arith, count, less, full))
from_all events number (Finished f) t h a = refl

pub finished : AnswersMakeTheLayout → StitchedComputes → FinishedOnceAllWereKept
finished law computes events right =
    let h = agrees law computes events right in
    let r = keeps law computes events right in (
      to_all events (run_after events).phase h,
      from_all events (run_after events).number
          (run_after events).phase r h,
    )
