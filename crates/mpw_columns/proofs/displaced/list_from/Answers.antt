-- Answers to the goals of `list_from` in `src/displaced.rt`.
use Rattle.std.proofs.Common.{◌∙◌, ℤ, ◌-ℤ◌, map, ap, sym, subst, arith}
use Rattle.std.proofs.lemmas.Int.{ints}
use Rattle.std.proofs.lemmas.Result.{IfOk-weaker}
use Rattle.mpw_columns_keys.specs.Keys.{displaced_key}
use Rattle.mpw_columns.specs.Lists.{IsColumnList}
use Rattle.mpw_columns.proofs.DisplacedLists.{list_near}
use Rattle.mpw_columns.proofs.displaced.list_from.Goals as goal

pub displaced-requires-clause-edges : goal.displaced-requires-clause-edges
displaced-requires-clause-edges c =
    let layout = c.args.layout.now in
    list_near c.test_decides_pair_steps.ensures layout.snapshot.now layout.extent layout.layers.now
    layout.distance c.args.earlier.now c.args.keys.now c.requires.layout.look
    c.requires.layout.short c.requires.earlier c.requires.list

pub returns : goal.returns
returns c =
    let layout = c.args.layout.now in
    let s = layout.snapshot.now in
    let earlier = c.args.earlier.now in
    let column = c.args.column.now in
    let keys = c.args.keys.now in
    let by = column.from -ℤ earlier.from in
    let list = c.displaced_columns_have_displaced_lists.ensures s layout.extent layout.layers.now
    layout.distance by earlier column keys c.requires.layout.extent_is c.requires.layout.look.near
    c.requires.layout.look.layered c.requires.displaced c.requires.shown c.requires.list in
    IfOk-weaker c.displaced.result _ _
    (λ v e. subst (IsColumnList s column)
    (sym (e ∙ ap (λ (n : ℤ). map (displaced_key n) keys) (omega (arith, ints)))) list)
    c.displaced.ensures
