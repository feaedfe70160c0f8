-- Answers to the goals of `Way::give` in `src/way.rt`.
use Rattle.std.proofs.Common.{arith, sym, ◌∙◌}
use Rattle.mpw_walk.proofs.GivenShapes.{given_placeable, given_near, given_short, gives_shape, passes_shape}
use Rattle.mpw_walk.proofs.Nexts.{shape_within}
use Rattle.mpw_walk.proofs.Steps.{few_frames, last_frame}
use Rattle.mpw_walk.proofs.way.Way.give.Goals as goal

pub placed_element-placed-requires-clause-place : goal.placed_element-placed-requires-clause-place
placed_element-placed-requires-clause-place c =
    let v = c.args.self.now in
    let f = c.args.frame.now in
    shape_within v.shelf.now f (last_frame v f c.requires.way) c.requires.shape

pub push-requires : goal.push-requires
push-requires c =
    few_frames c.names_are_walked.ensures c.args.self.now c.args.frame.now c.requires.way

pub is_given-requires : goal.is_given-requires
is_given-requires c =
    let law = c.names_are_walked.ensures in
    let v = c.args.self.now in
    let f = c.args.frame.now in
    let placed = c.placed_element-placed.result in record {
      element = (given_placeable law v f c.requires.way c.requires.shape placed
          c.placed_element-placed.ensures).element;
      near =
          given_near law v f c.requires.way c.requires.shape placed c.placed_element-placed.ensures;
      short =
          given_short law v f c.requires.way c.requires.shape placed
          c.placed_element-placed.ensures;
    }

pub returns-then-not-is_given : goal.returns-then-not-is_given
returns-then-not-is_given c =
    let over = passes_shape c.names_are_walked.ensures c.args.self.now c.args.frame.now
    c.requires.way c.requires.shape c.placed_element-placed.result c.placed_element-placed.ensures
    c.push.new.self c.push.ensures (sym c.is_given.ensures ∙ c.if-not-is_given.true) in
    record { way = over.way; does = over.does }

pub overflow_add-self : goal.overflow_add-self
overflow_add-self c =
    let given = gives_shape c.names_are_walked.ensures c.args.self.now c.args.frame.now
    c.requires.way c.requires.shape c.placed_element-placed.result c.placed_element-placed.ensures
    c.push.new.self c.push.ensures (sym c.is_given.ensures ∙ c.if-not-is_given.false) in
    omega (arith, given.way.few)

pub returns : goal.returns
returns c =
    let given = gives_shape c.names_are_walked.ensures c.args.self.now c.args.frame.now
    c.requires.way c.requires.shape c.placed_element-placed.result c.placed_element-placed.ensures
    c.push.new.self c.push.ensures (sym c.is_given.ensures ∙ c.if-not-is_given.false) in
    record { way = given.way; does = given.does }
