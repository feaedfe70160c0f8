-- Answers to the goals of `walk_within` in `src/columns.rt`.
use Rattle.std.proofs.Common.{◌∙◌, ap}
use Rattle.mpw_geom.specs.declared.plane.Box2.{Box2}
use Rattle.mpw_walk.specs.Window.{items_met}
use Rattle.mpw_tiles.specs.Snapshots.{shown}
use Rattle.mpw_tiles.proofs.Looking.{same_shown}
use Rattle.mpw_columns_keys.specs.Columns.{seen_box}
use Rattle.mpw_columns.proofs.columns.walk_within.Goals as goal

pub returns : goal.returns
returns c =
    c.within.ensures.given
    ∙ ap (items_met c.seen_box-window.result) (same_shown c.args.snapshot.now c.shelf.result.now
    c.roots.result.now c.shelf.ensures c.roots.ensures)
    ∙ ap (λ (w : Box2). items_met w (shown c.args.snapshot.now))
    (c.seen_box-window.ensures ∙ ap (seen_box c.args.axis) c.window_of.ensures)
