-- Answers to the goals of `sweep_of` in `src/cut.rt`.
use Rattle.std.proofs.Common.{rules, w64}
use mir.Val.{SFits}
use Rattle.std.proofs.lemmas.Int.{to_z-of_z}
use Rattle.std.proofs.lemmas.List.Sorted.{All-permutation}
use Rattle.mpw_geom.specs.Plane.{HasArea}
use Rattle.mpw_region.proofs.Sweeping.{SweepsUp-start}
use Rattle.mpw_region.proofs.cut.sweep_of.Goals as goal

pub returns-clause-sweeps : goal.returns-clause-sweeps
returns-clause-sweeps c =
    let fits : SFits w64 c.lowest-lowest.result = search rules in
    let row_is = to_z-of_z w64 c.lowest-lowest.result fits in
    SweepsUp-start c.in_ok-sweep.sweep c.step.new.self c.lowest-lowest.result (record {
      sweep = c.in_ok-step.ensures.sweep;
      row = rw row_is at c.in_ok-step.ensures.row;
      boxes = c.in_ok-step.ensures.boxes;
      ahead = rw row_is at c.in_ok-step.ensures.ahead;
      exact = rw row_is at c.in_ok-step.ensures.exact;
      ordered = c.in_ok-step.ensures.ordered;
    }) (All-permutation HasArea c.args.boxes.items c.in_ok-sweep.sweep.boxes.items
    c.in_ok-sweep.ensures.boxes c.requires) c.lowest-lowest.ensures.least
