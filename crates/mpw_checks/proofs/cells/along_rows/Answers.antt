-- Answers to the goals of `along_rows` in `src/cells.rt`.
use Rattle.std.proofs.Common.{List, subst}
use Rattle.std.proofs.lemmas.List.Elements.{All-nil}
use Rattle.mpw_edges.specs.declared.run.Axis.TheVariants.{V}
use Rattle.mpw_checks.specs.declared.strips.Strip.{Strip}
use Rattle.mpw_checks.specs.Internal.Cells.{StepsIn}
use Rattle.mpw_checks.specs.Strips.{IsStrip}
use Rattle.mpw_checks.specs.Internal.Strips.{AddsStrips}
use Rattle.mpw_checks.proofs.Halving.{all_steps}
use Rattle.mpw_checks.proofs.cells.along_rows.Goals as goal

pub returns-clause-steps : goal.returns-clause-steps
returns-clause-steps c = λ rule le line j.
    let first = c.in_ok-layers.layers.first.items in
    let second = c.in_ok-layers.layers.second.items in
    let added = subst (λ (ss : List Strip). AddsStrips c.args.distance ss
    c.add_core.new.strips.items (λ r. StepsIn r first second c.args.core V))
    c.new-strips.ensures.items c.in_ok-add_core.ensures in
    all_steps c.args.distance c.add_core.new.strips.items c.args.first.now c.args.second.now first
    second c.args.core V c.in_ok-layers.ensures.first c.in_ok-layers.ensures.second added rule
    le line j

pub returns-clause-banded : goal.returns-clause-banded
returns-clause-banded c =
    c.in_ok-add_core.ensures.banded (rw c.new-strips.ensures.items (All-nil IsStrip))
