-- Answers to the goals of `in_place` in `src/fit.rt`.
use Rattle.std.proofs.Common.{◌<ℤ◌, arith, refl, ap, ◌∙◌, pos}
use Rattle.std.specs.Int.{int_min, int_max}
use Rattle.std.proofs.lemmas.Int.{ints, clamps}
use Rattle.mpw_columns_contents.specs.Internal.Fitting.{do_share}
use Rattle.mpw_columns_contents.proofs.Spans.{not_le, span_still}
use Rattle.mpw_columns_contents.proofs.fit.in_place.Goals as goal

pub returns-else-max-min-clause-missed : goal.returns-else-max-min-clause-missed
returns-else-max-min-clause-missed c =
    let there = c.args.there in
    let window = c.args.window in
    let apart : int_min there.high window.high <ℤ int_max there.low window.low =
    (let x = c.if-max-min.false in omega (
      arith,
      ints,
      clamps,
      c.max.ensures.value,
      c.min.ensures.value,
    )) in
    λ k h out. ap (λ a. do_share a window) (span_still there k (pos 0) refl)
    ∙ not_le (int_max there.low window.low) (int_min there.high window.high) apart
