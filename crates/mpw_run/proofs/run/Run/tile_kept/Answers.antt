-- Answers to the goals of `Run::tile_kept` in `src/run.rt`.
use Rattle.std.proofs.Common.{◌∙◌, sym, subst, ap, arith, List}
use Rattle.mpw_markers.specs.declared.marker.Marker.{Marker}
use Rattle.mpw_run.specs.Internal.Prepared.{answers_with}
use Rattle.mpw_run.specs.Stitching.{stitched, AreFilled}
use Rattle.mpw_run.proofs.Answering.{open_tile, keep_is, filled_is, finish_is}
use Rattle.mpw_run.proofs.run.Run.tile_kept.Goals as goal

pub returns-then-done-total : goal.returns-then-done-total
returns-then-done-total c =
    let free = open_tile c.args.self.now c.args.c.now c.args.answer.now c.args.number
    c.requires.phase c.is_counted.ensures c.is_run.ensures c.requires.number c.requires.unanswered
    c.requires.job c.is_answer.ensures in
    keep_is c.args.self.now c.args.c.now c.args.answer.now c.args.number c.in_ok-copy.field-0 free
    (c.in_ok-copy.ensures ∙ c.markers-markers.ensures)
    (let t = c.if-done-total.true in omega (arith, t, c.done.ensures, c.total.ensures))

pub book_with-requires-clause-filled : goal.book_with-requires-clause-filled
book_with-requires-clause-filled c =
    let free = open_tile c.args.self.now c.args.c.now c.args.answer.now c.args.number
    c.requires.phase c.is_counted.ensures c.is_run.ensures c.requires.number c.requires.unanswered
    c.requires.job c.is_answer.ensures in
    let filled = filled_is c.args.self.now c.args.c.now c.args.answer.now c.args.number free
    (let t = c.if-done-total.false in omega (arith, t, c.done.ensures, c.total.ensures)) in
    subst (λ (m : List Marker). AreFilled (answers_with m c.args.number c.args.c.now.tiles))
    (sym c.markers-markers.ensures) filled

pub returns : goal.returns
returns c =
    let free = open_tile c.args.self.now c.args.c.now c.args.answer.now c.args.number
    c.requires.phase c.is_counted.ensures c.is_run.ensures c.requires.number c.requires.unanswered
    c.requires.job c.is_answer.ensures in
    finish_is c.answers_make_the_layout.ensures c.stitched_computes.ensures c.args.self.now
    c.args.c.now c.args.answer.now c.args.number c.in_ok-book.book free
    (let t = c.if-done-total.false in omega (arith, t, c.done.ensures, c.total.ensures))
    (c.in_ok-book.ensures ∙ ap (λ (m : List Marker).
    stitched (answers_with m c.args.number c.args.c.now.tiles)) c.markers-markers.ensures)
