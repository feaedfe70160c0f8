-- Answers to the goals of `Way::enter` in `src/way.rt`.
use Rattle.std.proofs.Common.{refl, arith, sym, ◌∙◌}
use Rattle.mpw_walk.proofs.Arrays.{in_plane}
use Rattle.mpw_walk.proofs.EnteredInstances.{grid, child_within, array_near, frames_room, near, short, enters_instance, misses_instances, read}
use Rattle.mpw_walk.proofs.Steps.{few_frames, last_frame}
use Rattle.mpw_walk.proofs.way.Way.enter.Goals as goal

pub target-entered-requires-clause-frame : goal.target-entered-requires-clause-frame
target-entered-requires-clause-frame c =
    last_frame c.args.self.now c.args.frame.now c.requires.way

pub instance-requires : goal.instance-requires
instance-requires c =
    let at = grid c.names_are_walked.ensures c.args.self.now c.args.frame.now c.requires.way
    c.args.target c.args.reference.now c.requires.next in record {
      row = at.0;
      column = at.1;
      near = array_near c.names_are_walked.ensures c.args.self.now c.args.frame.now c.requires.way
          c.args.target c.args.reference.now c.requires.next c.target-entered.result
          c.target-entered.ensures;
    }

pub then-placing-requires : goal.then-placing-requires
then-placing-requires c =
    let f = c.args.frame.now in
    let at = grid c.names_are_walked.ensures c.args.self.now f c.requires.way c.args.target
    c.args.reference.now c.requires.next in
    let near = array_near c.names_are_walked.ensures c.args.self.now f c.requires.way c.args.target
    c.args.reference.now c.requires.next c.target-entered.result c.target-entered.ensures in
    record {
      inner = in_plane _ (rw c.instance.ensures (near f.row f.column at.0 at.1));
      outer = in_plane _ (last_frame c.args.self.now f c.requires.way).near;
    }

pub behind_instance-requires : goal.behind_instance-requires
behind_instance-requires c =
    let at = grid c.names_are_walked.ensures c.args.self.now c.args.frame.now c.requires.way
    c.args.target c.args.reference.now c.requires.next in record {
      child = child_within c.names_are_walked.ensures c.args.self.now c.args.frame.now
          c.requires.way c.args.target c.args.reference.now c.requires.next;
      row = at.0;
      column = at.1;
    }

pub push-requires : goal.push-requires
push-requires c =
    few_frames c.names_are_walked.ensures c.args.self.now c.args.frame.now c.requires.way

pub push-requires-2 : goal.push-requires-2
push-requires-2 c =
    few_frames c.names_are_walked.ensures c.args.self.now c.args.frame.now c.requires.way

pub push-requires-3 : goal.push-requires-3
push-requires-3 c =
    let room = frames_room c.names_are_walked.ensures c.args.self.now c.args.frame.now
    c.requires.way c.args.target c.args.reference.now c.requires.next c.target-entered.result
    c.target-entered.ensures c.requires.shapes in
    rw (c.push-2.ensures, c.behind_instance.ensures) room

pub is_in-requires : goal.is_in-requires
is_in-requires c = record {
  near = near c.names_are_walked.ensures c.args.self.now c.args.frame.now c.requires.way c.args.target
      c.args.reference.now c.requires.next c.target-entered.result c.target-entered.ensures;
  short = short c.names_are_walked.ensures c.args.self.now c.args.frame.now c.requires.way
      c.args.target c.args.reference.now c.requires.next c.target-entered.result
      c.target-entered.ensures c.requires.shapes c.instance.result c.then-placing.result
      c.instance.ensures c.then-placing.ensures.displacement c.then-placing.ensures.points;
}

pub behind_missed-next-requires : goal.behind_missed-next-requires
behind_missed-next-requires c =
    let law = c.names_are_walked.ensures in
    let v = c.args.self.now in
    let f = c.args.frame.now in
    let at = grid law v f c.requires.way c.args.target c.args.reference.now c.requires.next in
    record {
      child = child_within law v f c.requires.way c.args.target c.args.reference.now
          c.requires.next;
      row = at.0;
      column = at.1;
      reference = read law v f c.requires.way c.args.target c.args.reference.now c.requires.next;
      near = near law v f c.requires.way c.args.target c.args.reference.now c.requires.next
          c.target-entered.result c.target-entered.ensures;
      short = short law v f c.requires.way c.args.target c.args.reference.now c.requires.next
          c.target-entered.result c.target-entered.ensures c.requires.shapes c.instance.result
          c.then-placing.result c.instance.ensures c.then-placing.ensures.displacement
          c.then-placing.ensures.points;
      missed = sym c.is_in.ensures ∙ c.if-not-is_in.true;
    }

pub returns-then-not-is_in : goal.returns-then-not-is_in
returns-then-not-is_in c =
    let missed = misses_instances c.names_are_walked.ensures c.args.self.now c.args.frame.now
    c.requires.way c.args.target c.args.reference.now c.requires.next c.target-entered.result
    c.target-entered.ensures c.requires.shapes c.instance.result c.then-placing.result
    c.instance.ensures c.then-placing.ensures.displacement c.then-placing.ensures.points
    (sym c.is_in.ensures ∙ c.if-not-is_in.true) c.behind_missed-next.result
    c.behind_missed-next.ensures c.push.new.self c.push.ensures in
    record { way = missed.way; does = missed.does }

pub overflow_add-self : goal.overflow_add-self
overflow_add-self c =
    let entered = enters_instance c.names_are_walked.ensures c.args.self.now c.args.frame.now
    c.requires.way c.args.target c.args.reference.now c.requires.next c.target-entered.result
    c.target-entered.ensures c.requires.shapes c.instance.result c.then-placing.result
    c.instance.ensures c.then-placing.ensures.displacement c.then-placing.ensures.points
    (sym c.is_in.ensures ∙ c.if-not-is_in.false) c.push-3.new.self
    (rw (c.push-3.ensures, c.push-2.ensures, c.behind_instance.ensures) refl) in
    omega (arith, entered.way.few)

pub returns : goal.returns
returns c =
    let entered = enters_instance c.names_are_walked.ensures c.args.self.now c.args.frame.now
    c.requires.way c.args.target c.args.reference.now c.requires.next c.target-entered.result
    c.target-entered.ensures c.requires.shapes c.instance.result c.then-placing.result
    c.instance.ensures c.then-placing.ensures.displacement c.then-placing.ensures.points
    (sym c.is_in.ensures ∙ c.if-not-is_in.false) c.push-3.new.self
    (rw (c.push-3.ensures, c.push-2.ensures, c.behind_instance.ensures) refl) in
    record { way = entered.way; does = entered.does }
