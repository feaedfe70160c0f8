-- Answers to the goals of `divided` in `src/fit.rt`.
use Rattle.mpw_columns_contents.proofs.Instances.{no_columns, no_rows, cut_fitted, whole_fitted}
use Rattle.mpw_columns_contents.proofs.fit.divided.Goals as goal
use Rattle.mpw_columns_contents.proofs.fit.divided.Goals.{then-columns-via-then-columns, then-columns-via-else-columns+then-rows}

pub returns-then-columns-clause-none : goal.returns-then-columns-clause-none
returns-then-columns-clause-none c =
    let a = c.args.array.now in
    let there = c.placed_box-there.result in
    elim c.then-columns.branch [
      | then-columns-via-then-columns w ↦ no_columns a there c.args.window c.args.extent
          c.placed_box-there.ensures
          c.columns_met-columns.result c.columns_met-columns.ensures.missed w.if-columns.true
      | then-columns-via-else-columns+then-rows w ↦ no_rows a there c.args.window c.args.extent
          c.placed_box-there.ensures
          c.rows_met-rows.result c.rows_met-rows.ensures.missed w.if-rows.true
    ]

pub returns-in-Some-clause-some : goal.returns-in-Some-clause-some
returns-in-Some-clause-some c =
    cut_fitted c.args.array.now c.placed_box-there.result c.args.window c.args.extent
    c.placed_box-there.ensures
    c.columns_met-columns.result c.rows_met-rows.result c.columns_met-columns.ensures.few
    c.rows_met-rows.ensures.few
    c.columns_met-columns.ensures.missed c.rows_met-rows.ensures.missed c.in-Some.array
    c.in-Some.ensures

pub returns-in-None-clause-some : goal.returns-in-None-clause-some
returns-in-None-clause-some c =
    whole_fitted c.args.array.now c.args.window c.args.extent c.requires.first
