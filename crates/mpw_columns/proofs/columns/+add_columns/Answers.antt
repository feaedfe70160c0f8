-- Answers to the goals of `add_columns` in `src/columns.rt`.
use Rattle.std.proofs.Common.{rules, length, sym, ◌∙◌}
use Rattle.std.proofs.lemmas.Result.{on_ok_weaker}
use Rattle.mpw_columns.proofs.Covering.{moved, few_behind}
use Rattle.mpw_columns.proofs.columns.+add_columns.Goals as goal

pub returns-clause-columns : goal.returns-clause-columns
returns-clause-columns t c = λ low h.
    let column = c.args.column.now in
    let is = c.in-Some.ensures in
    let left = c.in-Some.left in
    let right = c.in-Some.right in
    let first =
    c.in_ok-add_columns.ensures.columns low
    (moved column.axis left.axis low column.from left.from
    c.args.columns.now.items (sym is.left_axis) (sym is.from_is) h) in
    let mid = c.add_columns.new.columns.items in
    on_ok_weaker c.add_columns-2.result
    (λ k. moved right.axis column.axis low right.to column.to c.add_columns-2.new.columns.items
    is.right_axis is.to_is k)
    (c.add_columns-2.ensures.columns low (moved left.axis right.axis low left.to right.from mid
    (is.left_axis ∙ sym is.right_axis) is.at first))

pub returns-clause-few : goal.returns-clause-few
returns-clause-few t c =
    on_ok_weaker c.add_columns-2.result
    (λ k. few_behind c.args.depth (length c.args.columns.now.items)
    (length c.add_columns.new.columns.items) (length c.add_columns-2.new.columns.items)
    (search rules) (search rules) c.in_ok-add_columns.ensures.few k) c.add_columns-2.ensures.few
