-- Answers to the goals of `write_met` in `src/markers.rt`.
use Rattle.std.proofs.Common.{ap}
use Rattle.std.specs.List.{flat_map}
use Rattle.mpw_reply_text.specs.Reply.{cell_part, met_text}
use Rattle.mpw_reply_text.specs.Lines.{line_feed}
use Rattle.mpw_wire.specs.Writing.{fault_of}
use Rattle.mpw_reply_text.proofs.WritingLemmas.{Writes_first, Writes_both, handed_on}
use Rattle.mpw_reply_text.proofs.markers.write_met.Goals as goal

pub returns-in_err-write_cells : goal.returns-in_err-write_cells
unfolding met_text
returns-in_err-write_cells g c =
    let fault = c.in_err-write_cells.field-0.0 in
    Writes_first _ _ _ _ fault _ _ (flat_map cell_part c.args.cells) line_feed
    (ap fault_of c.in_err-write_cells.was)
    (handed_on c.from_residual.result fault c.from_residual.ensures.1) c.write_cells.ensures

pub returns : goal.returns
unfolding met_text
returns g c =
    Writes_both _ _ _ _ _ _ _ _ (flat_map cell_part c.args.cells) line_feed
    (ap fault_of c.in_ok-write_cells.was) c.write_cells.ensures c.write_parts.ensures
