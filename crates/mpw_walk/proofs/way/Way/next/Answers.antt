-- Answers to the goals of `Way::next` in `src/way.rt`.
use Rattle.mpw_walk.specs.Way.{walked}
use Rattle.mpw_walk.proofs.Starts.{last_gives, gives_item, last_ends}
use Rattle.mpw_walk.proofs.way.Way.next.Goals as goal

pub returns-in-Given-clause-some : goal.returns-in-Given-clause-some
returns-in-Given-clause-some c =
    let old = walked c.args.self.now c.args.self.now.frames.items in
    let now = walked c.loop-placed.self c.loop-placed.self.frames.items in
    let new = walked c.step.new.self c.step.new.self.frames.items in
    gives_item old new c.in-Given.placed
    (last_gives old now new c.in-Given.placed c.loop-placed.invariant.on
    c.in-Given.ensures.does)

pub returns-in-Ended-clause-none : goal.returns-in-Ended-clause-none
returns-in-Ended-clause-none c =
    let old = walked c.args.self.now c.args.self.now.frames.items in
    let now = walked c.loop-placed.self c.loop-placed.self.frames.items in
    let new = walked c.step.new.self c.step.new.self.frames.items in
    (last_ends old now new c.loop-placed.invariant.on c.in-Ended.ensures.does).none

pub returns-in-Given-clause-placeable : goal.returns-in-Given-clause-placeable
returns-in-Given-clause-placeable c = c.in-Given.ensures.does.placeable
