-- The invariants of the loops of `write_shapes` in `src/shape.rt`.
use Rattle.std.proofs.Common.{length}
use Rattle.mpw_reply_text.specs.Reply.{listed_text}
use Rattle.mpw_reply_text.proofs.ListingLemmas.{IsWritten}
use Rattle.mpw_reply_text.proofs.shape.write_shapes.Given as goal

abbrev pub invariant-loop-shape : goal.invariant-loop-shape
invariant-loop-shape g l =
    IsWritten listed_text (g.W.Sink.contents l.initial.writer) (g.W.Sink.contents l.writer)
    (g.W.Sink.failures l.initial.writer) (g.W.Sink.failures l.writer) l.initial.views l.views

abbrev pub decreases-loop-shape : goal.decreases-loop-shape
decreases-loop-shape g l = length l.views
