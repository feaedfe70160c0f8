-- Answers to the goals of `add_rule` in `src/lists.rt`.
use Rattle.std.proofs.lemmas.Result.{on_ok_weaker}
use Rattle.mpw_columns_keys.specs.Keys.{lists_of_sides}
use Rattle.mpw_columns_keys.proofs.Added.{added}
use Rattle.mpw_columns_keys.proofs.lists.add_rule.Goals as goal

pub returns : goal.returns
returns c =
    on_ok_weaker c.add_sides-2.result
    (λ e. added c.args.markers.now.items c.add_sides.new.markers.items
    c.add_sides-2.new.markers.items (lists_of_sides c.args.rule c.args.upright.now)
    (lists_of_sides c.args.rule c.args.across.now) c.in_ok-add_sides.ensures e)
    c.add_sides-2.ensures
