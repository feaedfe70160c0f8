-- Answers to the goals of `add_strip` in `src/cells.rt`.
use Rattle.std.proofs.Common.{◌≡◌, ◌∙◌, ap}
use mathlib.Core.Path.{fun_ext}
use Rattle.mpw_region.specs.Squares.{covers}
use Rattle.mpw_edges.specs.declared.run.Axis.TheVariants.{V}
use Rattle.mpw_checks.specs.Internal.Cells.{StepsIn}
use Rattle.mpw_checks.proofs.Halving.{AddsStrips-push, same_steps}
use Rattle.mpw_checks.proofs.cells.add_strip.Goals as goal

pub returns : goal.returns
returns c =
    let first_is : covers c.in_ok-first.first.items ≡ covers c.args.layers.now.first.items =
    fun_ext (λ i. fun_ext (λ j. c.in_ok-first.ensures.squares i j))
    ∙ ap covers c.as_slice.ensures.value in
    let second_is : covers c.in_ok-second.second.items ≡ covers c.args.layers.now.second.items =
    fun_ext (λ i. fun_ext (λ j. c.in_ok-second.ensures.squares i j))
    ∙ ap covers c.as_slice-2.ensures.value in
    AddsStrips-push c.args.distance c.args.strips.now.items _
    (record { core = c.args.core; first = c.in_ok-first.first; second = c.in_ok-second.second })
    (λ rule. StepsIn rule c.args.layers.now.first.items c.args.layers.now.second.items c.args.core
    V)
    c.in_ok-push.ensures.items
    (record { first = c.in_ok-first.ensures.banded; second = c.in_ok-second.ensures.banded })
    (λ rule line j. same_steps rule _ _ _ _ c.args.core V line j first_is second_is)
