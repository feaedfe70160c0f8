-- Answers to the goals of `add_one` in `src/columns.rt`.
use Rattle.std.proofs.Common.{List, refl, sym, subst}
use Rattle.mpw_columns_keys.specs.declared.column.Column.{Column}
use Rattle.mpw_columns_keys.specs.Columns.{AreColumns}
use Rattle.mpw_columns.proofs.Covering.{columns_push}
use Rattle.mpw_columns.proofs.columns.add_one.Goals as goal

pub returns-clause-columns : goal.returns-clause-columns
returns-clause-columns c = λ low h.
    let column = c.args.column.now in
    subst (λ (cs : List Column). AreColumns column.axis low column.to cs)
    (sym c.in_ok-push.ensures.items)
    (columns_push column.axis low column.from c.args.columns.now.items column h refl refl
    c.requires)
