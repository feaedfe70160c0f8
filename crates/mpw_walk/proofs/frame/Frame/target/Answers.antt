-- Answers to the goals of `Frame::target` in `src/frame.rt`.
use Rattle.mpw_walk.proofs.Targets.{own_within, own_shows, outer_within, outer_target}
use Rattle.mpw_walk.proofs.frame.Frame.target.Goals as goal

pub front-requires-clause-place : goal.front-requires-clause-place
front-requires-clause-place c =
    own_within c.args.shelf.now c.args.self.now c.requires.frame c.args.target c.args.reference.now
    c.requires.next c.in-Own.place c.in-Own.is

pub top-requires : goal.top-requires
top-requires c =
    outer_within c.names_are_walked.ensures c.args.shelf.now c.args.self.now c.requires.frame
    c.args.target c.args.reference.now c.requires.next c.in-Outer.number c.in-Outer.is

pub returns-in-Own : goal.returns-in-Own
returns-in-Own c =
    own_shows c.names_are_walked.ensures c.args.shelf.now c.args.self.now c.requires.frame
    c.args.target c.args.reference.now c.requires.next c.in-Own.place c.in-Own.is c.front.result
    c.front.ensures

pub returns-in-Outer : goal.returns-in-Outer
returns-in-Outer c =
    outer_target c.names_are_walked.ensures c.args.shelf.now c.args.self.now c.requires.frame
    c.args.target c.args.reference.now c.requires.next c.in-Outer.number c.in-Outer.is
    c.top.result c.top.ensures.shows
