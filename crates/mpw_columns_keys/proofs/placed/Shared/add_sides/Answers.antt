-- Answers to the goals of `Shared::add_sides` in `src/placed.rt`.
use Rattle.std.proofs.Common.{◌+◌, ◌*◌}
use Rattle.std.specs.List.{flat_map}
use Rattle.std.proofs.lemmas.Result.{on_ok_weaker}
use Rattle.mpw_columns_keys.specs.Firsts.{placed_keys}
use Rattle.mpw_columns_keys.proofs.Room.{adds_more}
use Rattle.mpw_columns_keys.proofs.placed.Shared.add_sides.Goals as goal

pub returns : goal.returns
returns c =
    let firsts = c.args.self.now.firsts.now in
    let columns = c.args.columns.now in
    on_ok_weaker c.add_list-2.result
    (λ e. adds_more (flat_map (placed_keys firsts (2 * c.args.rule)) columns)
    (flat_map (placed_keys firsts (2 * c.args.rule + 1)) columns) c.args.together.now
    c.add_list.new.together c.add_list-2.new.together c.in_ok-add_list.ensures e)
    c.add_list-2.ensures
