-- The invariants of the loops of `write_full` in `src/markers.rt`.
use Rattle.std.proofs.Common.{length}
use Rattle.mpw_reply_text.specs.Reply.{listed_text}
use Rattle.mpw_reply_text.proofs.ListingLemmas.{IsWritten}
use Rattle.mpw_reply_text.proofs.markers.write_full.Given as goal

abbrev pub invariant-loop-marker : goal.invariant-loop-marker
invariant-loop-marker g l =
    IsWritten listed_text (g.W.Sink.contents l.initial.writer) (g.W.Sink.contents l.writer)
    (g.W.Sink.failures l.initial.writer) (g.W.Sink.failures l.writer) l.initial.views l.views

abbrev pub decreases-loop-marker : goal.decreases-loop-marker
decreases-loop-marker g l = length l.views
