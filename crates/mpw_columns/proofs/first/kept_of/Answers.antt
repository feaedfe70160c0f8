-- Answers to the goals of `kept_of` in `src/first.rt`.
use Rattle.std.proofs.Common.{◌∙◌, length, ap}
use Rattle.mpw_columns_keys.specs.Firsts.{capped}
use Rattle.mpw_columns_keys.specs.declared.first.First.{First}
use Rattle.mpw_columns_keys.proofs.Room.{counted_more, counted_all}
use Rattle.mpw_columns.proofs.first.kept_of.Goals as goal

pub loop-list-preserved : goal.loop-list-preserved
loop-list-preserved c =
    counted_more (λ (f : First). length f.keys.items) c.args.lists.now
    c.loop-list.list-index c.list-item.result c.loop-list.kept c.held_of.result
    c.saturating_add-kept.result c.loop-list-test.true c.loop-list.invariant
    (ap capped (c.held_of.ensures ∙ ap (λ (f : First). length f.keys.items) c.list-item.is))
    c.saturating_add-kept.ensures

pub returns : goal.returns
returns c =
    counted_all (λ (f : First). length f.keys.items) c.args.lists.now
    c.loop-list.list-index c.loop-list.kept c.loop-list-test.false c.loop-list.invariant
