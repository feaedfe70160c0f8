-- Answers to the goals of `Shared::add_rule` in `src/placed.rt`.
use Rattle.std.proofs.lemmas.Result.{on_ok_weaker}
use Rattle.mpw_columns_keys.specs.Firsts.{sides_placed}
use Rattle.mpw_columns_keys.proofs.Room.{adds_more}
use Rattle.mpw_columns_keys.proofs.placed.Shared.add_rule.Goals as goal

pub returns : goal.returns
returns c =
    let shared = c.args.self.now in
    on_ok_weaker c.add_sides-2.result
    (λ e. adds_more (sides_placed shared.firsts.now c.args.rule shared.upright.now)
    (sides_placed shared.firsts.now c.args.rule shared.across.now) c.args.together.now
    c.add_sides.new.together c.add_sides-2.new.together c.in_ok-add_sides.ensures e)
    c.add_sides-2.ensures
