-- Answers to the goals of `columns_in` in `src/columns.rt`.
use Rattle.std.proofs.Common.{pos, ◌+ℤ◌, List, length, ap, sym, subst, arith}
use Rattle.mpw_columns_keys.specs.declared.column.Column.{Column}
use Rattle.mpw_columns_keys.specs.Columns.{AreColumns}
use Rattle.mpw_columns.proofs.Covering.{moved}
use Rattle.mpw_columns.proofs.columns.columns_in.Goals as goal

pub returns-clause-columns : goal.returns-clause-columns
returns-clause-columns c =
    let view = c.args.view.now in
    let whole = c.whole-whole.result in
    let x0 = view.seen.x0 in
    moved whole.axis view.axis x0 whole.to (view.seen.x1 +ℤ pos 1) c.add_columns.new.columns.items
    c.whole-whole.ensures.axis c.whole-whole.ensures.to
    (c.in_ok-add_columns.ensures.columns x0
    (subst (λ (cs : List Column). AreColumns whole.axis x0 whole.from cs)
    (sym c.new-columns.ensures.items) (sym c.whole-whole.ensures.from)))

pub returns-clause-few : goal.returns-clause-few
returns-clause-few c =
    let none = ap length c.new-columns.ensures.items in
    let few = c.in_ok-add_columns.ensures.few.early (omega (arith, none)) in
    omega (arith, few)
