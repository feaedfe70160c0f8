-- Answers to the goals of `Shared::of` in `src/shared.rt`.
use Rattle.std.proofs.Common.{◌≡◌, ◌∙◌, ap, subst}
use mathlib.Core.Path.{fun_ext}
use Rattle.mpw_region.specs.Squares.{covers}
use Rattle.mpw_edges.specs.Edges.{Squares}
use Rattle.mpw_checks.specs.Strips.{AreStrips}
use Rattle.mpw_job.specs.Answers.{listed_on}
use Rattle.mpw_work.specs.Internal.Shared.{squares_on}
use Rattle.mpw_work.proofs.shared.Shared.of.Goals as goal

pub returns-clause-shared : goal.returns-clause-shared
returns-clause-shared c =
    let on = listed_on c.args.rectangles.now in
    let first = c.layers_for-second.result.0 in
    let second = c.layers_for-second.result.1 in
    let first_is : covers c.as_slice.result.now ≡ on first = ap covers c.as_slice.ensures.value
    ∙ fun_ext (λ i. fun_ext (λ j. c.in_ok-on_first.ensures i j)) in
    let second_is : covers c.as_slice-2.result.now ≡ squares_on on second =
    ap covers c.as_slice-2.ensures.value
    ∙ fun_ext (λ i. fun_ext (λ j. c.in_ok-on_second.ensures i j)) in
    subst (λ (s : Squares). AreStrips c.max-distance.result (on first) s c.args.core
    c.in_ok-strips.strips) second_is
    (subst (λ (s : Squares). AreStrips c.max-distance.result s (covers c.as_slice-2.result.now)
    c.args.core c.in_ok-strips.strips) first_is c.in_ok-strips.ensures)
