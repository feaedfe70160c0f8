-- Answers to the goals of `write_masked` in `src/markers.rt`.
use Rattle.mpw_reply_text.proofs.ListingLemmas.{written_more, written_stop}
use Rattle.mpw_reply_text.proofs.markers.write_masked.Goals as goal

pub loop-view-preserved : goal.loop-view-preserved
loop-view-preserved g c =
    written_more c.loop-view.invariant c.in-Some.ensures.some c.in_ok-write_number.ensures

pub returns-in_err-write_number : goal.returns-in_err-write_number
returns-in_err-write_number g c =
    written_stop _ _ _ _ c.from_residual.ensures.1 c.loop-view.invariant c.in-Some.ensures.some
    c.in_err-write_number.ensures
