-- The invariants of the loops of `write_cells` in `src/markers.rt`.
use Rattle.std.proofs.Common.{length}
use Rattle.mpw_reply_text.specs.Reply.{cell_part}
use Rattle.mpw_reply_text.proofs.ListingLemmas.{IsWritten}
use Rattle.mpw_reply_text.proofs.markers.write_cells.Given as goal

abbrev pub invariant-loop-cell : goal.invariant-loop-cell
invariant-loop-cell g l =
    IsWritten cell_part (g.W.Sink.contents l.initial.writer) (g.W.Sink.contents l.writer)
    (g.W.Sink.failures l.initial.writer) (g.W.Sink.failures l.writer) l.initial.cells l.cells

abbrev pub decreases-loop-cell : goal.decreases-loop-cell
decreases-loop-cell g l = length l.cells
