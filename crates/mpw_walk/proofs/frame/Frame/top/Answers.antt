-- Answers to the goals of `Frame::top` in `src/frame.rt`.
use Rattle.std.proofs.Common.{◌-◌, length}
use Rattle.mpw_walk.specs.Internal.Frames.{IsFront}
use Rattle.mpw_walk.proofs.Targets.{top_target, top_low}
use Rattle.mpw_walk.proofs.frame.Frame.top.Goals as goal

pub returns-clause-shows : goal.returns-clause-shows
returns-clause-shows c =
    let w : IsFront c.args.shelf.now c.args.submission c.unwrap-nodes.result.now
    (length c.unwrap-nodes.result.now - 1) c.front.result = c.front.ensures in
    top_target c.names_are_walked.ensures c.args.shelf.now c.args.submission
    c.unwrap-nodes.result.now c.front.result w

pub returns-clause-low : goal.returns-clause-low
returns-clause-low c =
    let w : IsFront c.args.shelf.now c.args.submission c.unwrap-nodes.result.now
    (length c.unwrap-nodes.result.now - 1) c.front.result = c.front.ensures in
    top_low c.names_are_walked.ensures c.args.shelf.now c.args.submission c.nodes.result
    c.unwrap-nodes.result c.front.result c.unwrap-nodes.ensures c.nodes.ensures.some w
