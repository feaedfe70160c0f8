-- Answers to the goals of `windows_of` in `src/fill.rt`.
use Rattle.std.proofs.Common.{◌∙◌}
use Rattle.mpw_tiles.specs.Listing.{IsListed, AreWindowsOf, ListNear}
use Rattle.mpw_tiles.proofs.Added.{added_to_none, added_near}
use Rattle.mpw_tiles.proofs.Looking.{if_ok_same}
use Rattle.mpw_tiles.proofs.fill.windows_of.Goals as goal

pub returns-clause-windows : goal.returns-clause-windows
returns-clause-windows c =
    let rectangles = c.args.rectangles.now in
    if_ok_same (AreWindowsOf c.args.plan.now (IsListed rectangles)) c.list_all.new.lists.items
    c.windows_from.result
    (added_to_none c.args.plan.now c.in_ok-lists.lists.items c.list_all.new.lists.items
    (IsListed rectangles) (c.in_ok-lists.ensures.count ∙ c.tiles.ensures)
    c.in_ok-lists.ensures.empty c.in_ok-list_all.ensures.ok)
    c.windows_from.ensures

pub returns-clause-near : goal.returns-clause-near
returns-clause-near c =
    if_ok_same (ListNear c.args.plan.now) c.list_all.new.lists.items c.windows_from.result
    (added_near c.args.plan.now c.in_ok-lists.lists.items c.list_all.new.lists.items
    (IsListed c.args.rectangles.now) (c.in_ok-lists.ensures.count ∙ c.tiles.ensures)
    c.in_ok-lists.ensures.empty c.in_ok-list_all.ensures.ok)
    c.windows_from.ensures
