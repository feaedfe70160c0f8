-- Answers to the goals of `write_cells` in `src/markers.rt`.
use Rattle.mpw_reply_text.proofs.ListingLemmas.{written_more, written_stop}
use Rattle.mpw_reply_text.proofs.markers.write_cells.Goals as goal

pub loop-cell-preserved : goal.loop-cell-preserved
loop-cell-preserved g c =
    written_more c.loop-cell.invariant c.in-Some.ensures.some c.in_ok-write_met_cell.ensures

pub returns-in_err-write_met_cell : goal.returns-in_err-write_met_cell
returns-in_err-write_met_cell g c =
    written_stop _ _ _ _ c.from_residual.ensures.1 c.loop-cell.invariant c.in-Some.ensures.some
    c.in_err-write_met_cell.ensures
