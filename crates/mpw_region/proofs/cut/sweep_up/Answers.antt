-- Answers to the goals of `sweep_up` in `src/cut.rt`.
use Rattle.std.proofs.Common.{rules, w64, SFits}
use Rattle.std.proofs.lemmas.Int.{to_z-of_z}
use Rattle.mpw_region.proofs.Sweeping.{SweepsUp-end}
use Rattle.mpw_region.proofs.cut.sweep_up.Goals as goal

pub returns-clause-squares : goal.returns-clause-squares
returns-clause-squares c = SweepsUp-end c.args.boxes.items c.loop-next.out.items
    c.loop-next.sweep c.loop-next.invariant.moved c.loop-next.invariant.sweeps
    c.in_default.ensures

pub sweep_of-requires : goal.sweep_of-requires
sweep_of-requires c = c.requires

pub loop-next-init : goal.loop-next-init
loop-next-init c = record {
  sweeps = rw c.in_ok-out.ensures.items c.in_ok-sweep.ensures.sweeps;
  moved = c.in_ok-sweep.ensures.moved;
}

pub next_border-requires-clause-ahead : goal.next_border-requires-clause-ahead
next_border-requires-clause-ahead c = c.loop-next.invariant.sweeps.ahead

pub next_border-requires-clause-filled : goal.next_border-requires-clause-filled
next_border-requires-clause-filled c = c.loop-next.invariant.sweeps.filled

pub add_next-requires-clause-up : goal.add_next-requires-clause-up
add_next-requires-clause-up c =
    let fits : SFits w64 c.in-Some.next = search rules in
    rw (to_z-of_z w64 c.in-Some.next fits) c.in-Some.ensures.0

pub add_next-requires-clause-between : goal.add_next-requires-clause-between
add_next-requires-clause-between c =
    let fits : SFits w64 c.in-Some.next = search rules in
    rw (to_z-of_z w64 c.in-Some.next fits) c.in-Some.ensures.1

pub loop-next-preserved : goal.loop-next-preserved
loop-next-preserved c = record {
  sweeps = c.in_ok-add_next.ensures.sweeps;
  moved = rw c.in_ok-add_next.ensures.boxes c.loop-next.invariant.moved;
}

pub returns-clause-banded : goal.returns-clause-banded
returns-clause-banded c = c.loop-next.invariant.sweeps.swept.banded
