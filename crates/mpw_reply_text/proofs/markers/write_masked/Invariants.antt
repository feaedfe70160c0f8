-- The invariants of the loops of `write_masked` in `src/markers.rt`.
use Rattle.std.proofs.Common.{length}
use Rattle.mpw_reply_text.specs.Reply.{listed_text}
use Rattle.mpw_reply_text.proofs.ListingLemmas.{IsWritten}
use Rattle.mpw_reply_text.proofs.markers.write_masked.Given as goal

abbrev pub invariant-loop-view : goal.invariant-loop-view
invariant-loop-view g l =
    IsWritten listed_text (g.W.Sink.contents l.initial.writer) (g.W.Sink.contents l.writer)
    (g.W.Sink.failures l.initial.writer) (g.W.Sink.failures l.writer) l.initial.views l.views

abbrev pub decreases-loop-view : goal.decreases-loop-view
decreases-loop-view g l = length l.views
