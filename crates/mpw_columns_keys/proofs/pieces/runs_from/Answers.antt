-- Answers to the goals of `runs_from` in `src/pieces.rt`.
use Rattle.std.proofs.Common.{get_or}
use Rattle.std.proofs.lemmas.List.{get_or_default}
use Rattle.mpw_markers.specs.declared.marker.Key.{Key}
use Rattle.mpw_columns_keys.proofs.Runs.{no_key, goes_on_to, begins_anew, come_to_end}
use Rattle.mpw_columns_keys.proofs.pieces.runs_from.Goals as goal
use Rattle.mpw_columns_keys.proofs.pieces.runs_from.Goals.{then-goes_on, else-goes_on+in_ok-push}

pub loop-piece-preserved : goal.loop-piece-preserved
loop-piece-preserved c =
    let i = c.loop-piece.piece-index in
    let rest = c.args.rest.now in
    let run = c.loop-piece.run in
    let done = c.loop-piece.runs.items in
    let piece : Key = get_or rest i no_key in
    let within = c.loop-piece-test.true in
    let is = get_or_default rest i no_key piece within in
    elim c.if-goes_on.branch [
      | then-goes_on w ↦ rw (w.runs-is, w.run-is, w.lengthened-run.ensures)
          (goes_on_to c.args.first rest done run piece i c.loop-piece.invariant within is
          w.if-goes_on.ensures)
      | else-goes_on+in_ok-push w ↦ rw (w.runs-is, w.run-is, w.in_ok-push.ensures.items)
          (begins_anew c.args.first rest done run piece i c.loop-piece.invariant within is
          w.if-goes_on.ensures)
    ]

pub returns : goal.returns
returns c = rw c.in_ok-push-2.ensures.items
    (come_to_end c.args.first c.args.rest.now c.loop-piece.runs.items c.loop-piece.run
    c.loop-piece.piece-index c.loop-piece.invariant c.loop-piece-test.false)
