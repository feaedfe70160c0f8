-- Answers to the goals of `write_full` in `src/markers.rt`.
use Rattle.mpw_reply_text.proofs.ListingLemmas.{written_more, written_stop}
use Rattle.mpw_reply_text.proofs.markers.write_full.Goals as goal

pub loop-marker-preserved : goal.loop-marker-preserved
loop-marker-preserved g c =
    written_more c.loop-marker.invariant c.in-Some.ensures.some c.in_ok-write_marker.ensures

pub returns-in_err-write_marker : goal.returns-in_err-write_marker
returns-in_err-write_marker g c =
    written_stop _ _ _ _ c.from_residual.ensures.1 c.loop-marker.invariant c.in-Some.ensures.some
    c.in_err-write_marker.ensures
