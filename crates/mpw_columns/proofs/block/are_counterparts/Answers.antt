-- Answers to the goals of `are_counterparts` in `src/block.rt`.
use Rattle.std.proofs.Common.{◌+◌, pos, ◌-ℤ◌, arith}
use Rattle.mpw_edges.specs.declared.run.Axis.TheVariants.{V}
use Rattle.mpw_columns_keys.specs.declared.column.Column.{Column}
use Rattle.mpw_columns.proofs.Blocked.{counterparts_more}
use Rattle.mpw_columns.proofs.block.are_counterparts.Goals as goal

abbrev no_column : Column
no_column = record { axis = V; from = pos 0; to = pos 0 }

pub is_counterpart-requires-clause-column : goal.is_counterpart-requires-clause-column
is_counterpart-requires-clause-column c =
    let before = c.requires.before in
    let within = c.requires.within in
    let test = c.loop-k-test.true in
    c.requires.upright (c.args.earlier.now.place + c.loop-k.k) no_column (omega (arith, before, within, test))

pub is_counterpart-requires-clause-other : goal.is_counterpart-requires-clause-other
is_counterpart-requires-clause-other c =
    let within = c.requires.within in
    let test = c.loop-k-test.true in
    c.requires.upright (c.args.block.now.place + c.loop-k.k) no_column (omega (arith, within, test))

pub loop-k-init : goal.loop-k-init
loop-k-init c = λ k d lt. absurd (omega (arith, lt))

pub loop-k-preserved : goal.loop-k-preserved
loop-k-preserved c =
    counterparts_more c.args.all.now.list.now c.args.earlier.now.whole
    (c.args.block.now.whole.from -ℤ c.args.earlier.now.whole.from)
    c.args.earlier.now.place c.args.block.now.place c.loop-k.k c.args.block.now.count no_column
    c.requires.before c.requires.within c.loop-k-test.true c.loop-k.invariant
    (c.is_counterpart.ensures c.if-not-is_counterpart.false)

pub returns : goal.returns
returns c = λ yes k d lt.
    let test = c.loop-k-test.false in
    c.loop-k.invariant k d (omega (arith, lt, test))
