-- Answers to the goals of `list_rectangle` in `src/fill.rt`.
use Rattle.std.proofs.Common.{arith}
use Rattle.std.proofs.lemmas.Int.{ints}
use Rattle.mpw_tiles.proofs.Lists.{adds_rectangle, adds_nothing, no_width, no_height}
use Rattle.mpw_tiles.proofs.fill.list_rectangle.Goals as goal
use Rattle.mpw_tiles.proofs.fill.list_rectangle.Goals.{then-area-via-then-area, then-area-via-else-area+then-area-2}

pub returns-then-area : goal.returns-then-area
returns-then-area c = record {
  ok = elim c.then-area.branch [
    | then-area-via-then-area w ↦ adds_nothing c.args.plan.now c.args.lists.now.items
        c.args.rectangle.now (no_width c.args.rectangle.now
        (let h = w.if-area.true in omega (arith, ints)))
    | then-area-via-else-area+then-area-2 w ↦ adds_nothing c.args.plan.now c.args.lists.now.items
        c.args.rectangle.now (no_height c.args.rectangle.now
        (let h = w.if-area-2.true in omega (arith, ints)))
  ];
}

pub returns : goal.returns
returns c = record {
  ok = adds_rectangle c.args.plan.now c.args.lists.now.items c.list_in_block.new.lists.items
      c.args.rectangle.now c.meeting-block.result c.requires.count c.in_ok-list_in_block.ensures.ok
      c.meeting-block.ensures.exact;
}
