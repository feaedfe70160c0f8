-- Answers to the goals of `density` in `src/density.rt`.
use Rattle.std.proofs.Common.{◌≡◌, ◌<◌, ◌+◌, ℕ, List, length, get_or, take, ap, ◌∙◌, arith}
use Rattle.std.specs.Prelude.{replicate}
use Rattle.std.proofs.lemmas.Grind.{common_steps}
use Rattle.std.proofs.lemmas.List.{get_or_read, get_or-replicate, length-replicate, take_all}
use Rattle.std.proofs.lemmas.List.FromFn.{fill_by_all}
use Rattle.mpw_firm_picture.specs.declared.picture.Mark.{Mark}
use Rattle.mpw_firm_picture.specs.Density.{count_in, cell_count}
use Rattle.mpw_firm_picture.proofs.Counted.{counted_more, few_counted}
use Rattle.mpw_firm_picture.proofs.density.density.Goals as goal

pub loop-mark-init : goal.loop-mark-init
loop-mark-init c =
    let is : c.in_ok-counts.counts.items ≡ replicate cell_count 0 =
    c.in_ok-counts.ensures ∙ ap (λ n. replicate n 0) c.cell_count-cells.ensures in (
      ap (λ (xs : List ℕ). length xs) is ∙ length-replicate cell_count 0,
      λ k h. ap (λ (xs : List ℕ). get_or xs k 0) is ∙ get_or-replicate cell_count k 0 0 h,
    )

pub overflow_add-count : goal.overflow_add-count
overflow_add-count c =
    let cell = c.cell_of-cell.result in
    let inside : cell < length c.loop-mark.counts.items =
    omega (arith, c.cell_of-cell.ensures.few, c.loop-mark.invariant.0) in
    omega (
      arith,
      get_or_read c.loop-mark.counts.items _ _ inside c.index-count.ensures 0,
      c.loop-mark.invariant.1 cell c.cell_of-cell.ensures.few,
      few_counted c.args.window c.args.marks.now c.loop-mark.mark-index cell,
    )

pub loop-mark-preserved : goal.loop-mark-preserved
loop-mark-preserved c =
    let cell = c.cell_of-cell.result in
    let inside : cell < length c.loop-mark.counts.items =
    omega (arith, c.cell_of-cell.ensures.few, c.loop-mark.invariant.0) in (
      grind (arith, common_steps),
      counted_more c.args.window c.args.marks.now c.loop-mark.mark-index _
          c.loop-mark.counts.items cell _ c.loop-mark-test.true inside c.cell_of-cell.ensures.cell
          (ap (λ n. n + 1) (get_or_read c.loop-mark.counts.items _ _ inside c.index-count.ensures 0
          ∙ c.loop-mark.invariant.1 cell c.cell_of-cell.ensures.few)) c.loop-mark.invariant.1,
    )

pub returns : goal.returns
returns c =
    let w = c.args.window in
    let marks = c.args.marks.now in
    fill_by_all (count_in w marks) c.loop-mark.counts.items cell_count 0 c.loop-mark.invariant.0
    (λ k h. c.loop-mark.invariant.1 k h
    ∙ ap (λ (ms : List Mark). count_in w ms k) (take_all c.loop-mark.mark-index marks c.loop-mark-test.false))
