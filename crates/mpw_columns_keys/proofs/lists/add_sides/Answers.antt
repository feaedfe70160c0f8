-- Answers to the goals of `add_sides` in `src/lists.rt`.
use Rattle.std.proofs.Common.{◌≡◌, ◌+◌, ◌*◌, ◌++◌, ℕ, map, subst}
use Rattle.std.proofs.lemmas.Result.{on_ok_weaker}
use Rattle.mpw_columns_keys.specs.Keys.{list_of, lists_of_sides, of_first}
use Rattle.mpw_columns_keys.proofs.Added.{added}
use Rattle.mpw_columns_keys.proofs.lists.add_sides.Goals as goal

pub returns : goal.returns
returns c =
    let lists = c.args.lists.now in
    let old = c.args.markers.now.items in
    let new = c.add_list-2.new.markers.items in
    let rule = c.from-number.result in
    on_ok_weaker c.add_list-2.result
    (λ e. subst (λ (n : ℕ). new ≡ old ++ map of_first (lists_of_sides n lists)) c.from-number.ensures
    (added old c.add_list.new.markers.items new (list_of (2 * rule) lists)
    (list_of (2 * rule + 1) lists) c.in_ok-add_list.ensures e)) c.add_list-2.ensures
