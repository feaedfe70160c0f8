-- Answers to the goals of `coordinate_after` in `src/frame.rt`.
use Rattle.std.proofs.Common.{rules, ◌∙◌, ap, ◌+ℤ◌, ◌*ℤ◌, w64, FitsSigned}
use Rattle.mpw_walk.proofs.Arrays.{computed}
use Rattle.mpw_walk.proofs.frame.coordinate_after.Goals as goal

pub returns : goal.returns
returns c =
    let from = c.args.from in
    let step = c.args.step in
    let n = c.from.result in
    let e = c.from.ensures in
    let f : FitsSigned w64 n = search rules in
    let g : FitsSigned w64 step = search rules in
    computed from n step f g c.requires.from (rw e c.requires.to)
    ∙ ap (λ m. from +ℤ (m *ℤ step)) e

pub overflow_mul-result : goal.overflow_mul-result
overflow_mul-result c = search rules

pub overflow_add-result : goal.overflow_add-result
overflow_add-result c = search rules
