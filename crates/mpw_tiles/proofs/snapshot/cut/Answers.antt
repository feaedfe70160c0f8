-- Answers to the goals of `cut` in `src/snapshot.rt`.
use Rattle.std.proofs.Common.{List, ◌∙◌, sym, subst}
use Rattle.mpw_hier.specs.Items.{Item}
use Rattle.mpw_tiles.specs.Internal.Listing.{AddsSquares}
use Rattle.mpw_tiles.specs.Shown.{IsShown}
use Rattle.mpw_tiles.specs.Snapshots.{shown, StandFor, ListNearby}
use Rattle.mpw_tiles.proofs.Added.{added_to_none, added_near}
use Rattle.mpw_tiles.proofs.Looking.{if_ok_same, stand_for, list_nearby, same_shown}
use Rattle.mpw_tiles.proofs.snapshot.cut.Goals as goal

pub returns-clause-windows : goal.returns-clause-windows
returns-clause-windows c =
    let s = c.args.snapshot.now in
    let new = c.list_shapes.new.lists.items in
    let all = c.new-walk.ensures.given ∙ same_shown s c.shelf.result.now c.roots.result.now
    c.shelf.ensures c.roots.ensures in
    let added = subst (λ (items : List Item). AddsSquares c.in-Some.plan c.in_ok-lists.lists.items
    new (IsShown items)) all c.in_ok-list_shapes.ensures.ok in
    if_ok_same (StandFor s) new c.windows_from.result
    (stand_for s c.in-Some.plan new (sym c.plan.ensures.plan ∙ c.in-Some.is)
    (added_to_none c.in-Some.plan c.in_ok-lists.lists.items new (IsShown (shown s))
    (c.in_ok-lists.ensures.count ∙ c.tiles.ensures) c.in_ok-lists.ensures.empty added))
    c.windows_from.ensures

pub returns-clause-near : goal.returns-clause-near
returns-clause-near c =
    let s = c.args.snapshot.now in
    let new = c.list_shapes.new.lists.items in
    if_ok_same (ListNearby s) new c.windows_from.result
    (list_nearby s c.in-Some.plan new (sym c.plan.ensures.plan ∙ c.in-Some.is)
    (added_near c.in-Some.plan c.in_ok-lists.lists.items new _
    (c.in_ok-lists.ensures.count ∙ c.tiles.ensures) c.in_ok-lists.ensures.empty
    c.in_ok-list_shapes.ensures.ok))
    c.windows_from.ensures
