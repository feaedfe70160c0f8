-- Answers to the goals of `add_core` in `src/cells.rt`.
use Rattle.std.proofs.Common.{arith}
use Rattle.std.proofs.lemmas.Result.{on_ok_weaker}
use Rattle.mpw_edges.specs.declared.run.Axis.TheVariants.{V}
use Rattle.mpw_checks.proofs.Halving.{AddsStrips-halves, seen_slices}
use Rattle.mpw_checks.proofs.cells.+add_core.Goals as goal

pub returns : goal.returns
returns t c =
    on_ok_weaker c.add_core-2.result
    (λ h. AddsStrips-halves c.args.distance c.args.strips.now.items c.add_core.new.strips.items
    c.add_core-2.new.strips.items c.args.layers.now.first.items c.args.layers.now.second.items
    c.in_ok-low.low.first.items c.in_ok-low.low.second.items c.in_ok-high.high.first.items
    c.in_ok-high.high.second.items
    c.args.core c.halves.result.0 c.halves.result.1 V c.halves.ensures.cores
    (seen_slices _ _ c.as_slice-first.ensures.value _ _ c.in_ok-low.ensures.first)
    (seen_slices _ _ c.as_slice-second.ensures.value _ _ c.in_ok-low.ensures.second)
    (seen_slices _ _ c.as_slice-first.ensures.value _ _ c.in_ok-high.ensures.first)
    (seen_slices _ _ c.as_slice-second.ensures.value _ _ c.in_ok-high.ensures.second)
    c.in_ok-add_core.ensures h)
    c.add_core-2.ensures

pub in_window-requires : goal.in_window-requires
in_window-requires t c = c.halves.ensures.low

pub in_window-requires-2 : goal.in_window-requires-2
in_window-requires-2 t c = c.halves.ensures.high

pub add_core-requires : goal.add_core-requires
add_core-requires t c =
    (omega (arith, c.decreases, c.if-depth-eq0.false), c.halves.ensures.low)

pub add_core-requires-2 : goal.add_core-requires-2
add_core-requires-2 t c =
    (omega (arith, c.decreases, c.if-depth-eq0.false), c.halves.ensures.high)

pub returns-then-depth-eq0 : goal.returns-then-depth-eq0
returns-then-depth-eq0 t c = c.add_strip.ensures

pub returns-then-not-is_eased_by : goal.returns-then-not-is_eased_by
returns-then-not-is_eased_by t c = c.add_strip-then-not-is_eased_by.ensures
