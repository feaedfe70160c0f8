-- Answers to the goals of `join` in `src/stitching.rt`.
use Rattle.std.proofs.Common.{ℕ, ◌≤◌, ◌-◌, ◌≡◌, Bor, length, take, List, drop, sym, subst, ap, ◌∙◌}
use Rattle.std.specs.Prelude.{All, Contains}
use Rattle.std.proofs.lemmas.List.{take_all, take_rest}
use Rattle.std.proofs.lemmas.List.Elements.{All-drop}
use Rattle.mpw_markers.specs.declared.marker.Marker.{Marker}
use Rattle.mpw_markers.specs.Markers.{IsFilled}
use Rattle.mpw_markers.specs.Internal.Order.{AreInOrder}
use Rattle.mpw_markers.specs.Internal.Runs.{AddsRun}
use Rattle.mpw_markers.specs.Stitched.{IsJoined}
use Rattle.mpw_markers.proofs.Order.{AreInOrder-drop}
use Rattle.mpw_markers.proofs.Joins.{Joins-start, Joins-more}
use Rattle.mpw_markers.proofs.Referred.{seen, many, behind}
use Rattle.mpw_markers.proofs.stitching.join.Goals as goal

pub loop-start-init : goal.loop-start-init
loop-start-init c = rw c.in_ok-book.ensures.items (Joins-start (seen c.args.markers.now))

-- what is left, as the call gets it
left : (ms : List (Bor Marker)) (start : ℕ)
    → seen (take (length ms - start) (drop start ms)) ≡ drop start (seen ms)
left ms start = ap seen (take_rest ms start) ∙ behind ms start

pub add_run-requires-clause-filled : goal.add_run-requires-clause-filled
add_run-requires-clause-filled c =
    let ms = c.args.markers.now in
    subst (All IsFilled) (sym (left ms c.loop-start.start))
    (All-drop IsFilled c.loop-start.start (seen ms) c.requires.filled)

pub add_run-requires-clause-ordered : goal.add_run-requires-clause-ordered
add_run-requires-clause-ordered c =
    let ms = c.args.markers.now in
    subst AreInOrder (sym (left ms c.loop-start.start))
    (AreInOrder-drop c.loop-start.start (seen ms) c.requires.ordered)

pub loop-start-preserved : goal.loop-start-preserved
loop-start-preserved c =
    let ms = c.args.markers.now in
    Joins-more (seen ms) c.loop-start.start c.in_ok-start.field-0 c.loop-start.book.items
    c.add_run.new.book.items c.requires.filled c.loop-start.invariant
    (subst (λ (ys : List Marker). AddsRun ys c.in_ok-start.field-0 c.loop-start.book.items
    c.add_run.new.book.items) (left ms c.loop-start.start) c.in_ok-start.ensures)

pub returns : goal.returns
returns c =
    let ms = c.args.markers.now in
    subst (λ (ys : List Marker). IsJoined (Contains ys) c.loop-start.book.items)
    (take_all c.loop-start.start (seen ms)
    (subst (λ n. n ≤ c.loop-start.start) (sym (many ms)) c.loop-start-test.false))
    c.loop-start.invariant.joined
