-- Answers to the goals of `Way::enter_root` in `src/way.rt`.
use Rattle.std.proofs.Common.{arith, sym, ◌∙◌}
use Rattle.mpw_walk.proofs.EnteredRoots.{root_near, root_short, enters_root, misses_root}
use Rattle.mpw_walk.proofs.way.Way.enter_root.Goals as goal

pub is_in-requires : goal.is_in-requires
is_in-requires c = record {
  near = root_near c.names_are_walked.ensures c.args.self.now c.requires.way c.requires.empty
      c.args.root.now c.requires.next c.args.top c.requires.shows c.requires.low c.requires.some;
  short = root_short c.names_are_walked.ensures c.args.self.now c.requires.way c.requires.empty
      c.args.root.now c.requires.next c.args.top c.requires.shows c.requires.low c.requires.some;
}

pub returns-then-not-is_in : goal.returns-then-not-is_in
returns-then-not-is_in c =
    let missed = misses_root c.names_are_walked.ensures c.args.self.now c.requires.way
    c.requires.empty c.args.root.now c.requires.next c.args.top c.requires.shows c.requires.low
    c.requires.some (sym c.is_in.ensures ∙ c.if-not-is_in.true) in
    record { way = missed.way; does = missed.does }

pub overflow_add-self-2 : goal.overflow_add-self-2
overflow_add-self-2 c =
    let entered = enters_root c.names_are_walked.ensures c.args.self.now c.requires.way
    c.requires.empty c.args.root.now c.requires.next c.args.top c.requires.shows c.requires.low
    c.requires.some (sym c.is_in.ensures ∙ c.if-not-is_in.false) c.push.new.self
    c.push.ensures in
    omega (arith, entered.way.few)

pub returns : goal.returns
returns c =
    let entered = enters_root c.names_are_walked.ensures c.args.self.now c.requires.way
    c.requires.empty c.args.root.now c.requires.next c.args.top c.requires.shows c.requires.low
    c.requires.some (sym c.is_in.ensures ∙ c.if-not-is_in.false) c.push.new.self
    c.push.ensures in
    record { way = entered.way; does = entered.does }
