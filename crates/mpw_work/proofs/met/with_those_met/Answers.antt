-- Answers to the goals of `with_those_met` in `src/met.rt`.
use Rattle.std.proofs.Common.{◌∙◌}
use Rattle.mpw_work.proofs.Meeting.{are_markers}
use Rattle.mpw_work.proofs.met.with_those_met.Goals as goal

pub returns : goal.returns
returns c =
    are_markers c.args.window.now c.args.keys.now c.in_ok-mets.mets.items
    c.in_ok-markers.markers.items c.in_ok-markers.ensures.keys (c.in_ok-markers.ensures.mets
    ∙ c.as_slice.ensures.value) c.in_ok-mets.ensures
