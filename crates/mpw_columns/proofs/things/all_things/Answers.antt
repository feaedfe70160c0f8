-- Answers to the goals of `all_things` in `src/things.rt`.
use Rattle.std.proofs.Common.{List, ◌≡◌, ◌∙◌, ap, sym, subst, IfSome}
use Rattle.std.specs.Prelude.{All}
use Rattle.mpw_geom.specs.declared.plane.Box2.{Box2}
use Rattle.mpw_edges.specs.declared.run.Axis.TheVariants.{V, H}
use Rattle.mpw_hier.specs.declared.submission.Submission.{Submission}
use Rattle.mpw_columns_contents.specs.Boxes.{AreBoxesOf}
use Rattle.mpw_columns_contents.specs.Contents.{IsBoxed}
use Rattle.mpw_columns_contents.specs.Things.{things_items}
use Rattle.mpw_tiles.specs.Snapshots.{shown}
use Rattle.mpw_columns_keys.specs.Columns.{seen_box}
use Rattle.mpw_columns.specs.Internal.Pieces.{MeetsSquaresOf}
use Rattle.mpw_columns.proofs.ThingsListed.{all_told}
use Rattle.mpw_columns.proofs.Windowed.{meets_first, meets_second}
use Rattle.mpw_columns.proofs.things.all_things.Goals as goal

pub within-requires-clause-boxes : goal.within-requires-clause-boxes
within-requires-clause-boxes c =
    let l = c.args.layout.now in
    subst (λ (ss : List Submission). AreBoxesOf ss l.boxes.now) (sym c.shelf-shelf.ensures)
    c.requires.layout.boxes

pub returns : goal.returns
returns c =
    let l = c.args.layout.now in
    let wide = c.window_of-wide.result in
    let high = c.seen_box-high.result in
    let both = c.join.result in
    let shows = subst (λ o. IfSome o (λ things. things_items l.snapshot.now.shelf things ≡ shown l.snapshot.now))
    c.in-Some.is c.in_ok-top.ensures.shown in
    let boxed = subst (λ o. IfSome o (All (IsBoxed l.snapshot.now.shelf))) c.in-Some.is
    c.in_ok-top.ensures.boxed in
    let first = subst (λ (b : Box2). MeetsSquaresOf b both) c.window_of-wide.ensures
    (subst (MeetsSquaresOf wide) (sym c.join.ensures) (meets_first wide high)) in
    let second = subst (λ (b : Box2). MeetsSquaresOf b both)
    (c.seen_box-high.ensures ∙ ap (seen_box H) c.window_of.ensures)
    (subst (MeetsSquaresOf high) (sym c.join.ensures) (meets_second wide high)) in (
      all_told c.squares_lie_in_boxes.ensures.boxes l V c.args.upright.now both c.in-Some.top
          c.in-Some-2.all c.in_ok-on_layers.on_layers c.shelf-shelf.result.now c.within.result
          c.in_ok-all.field-0 c.in_ok-all.was c.in-Some-2.is first c.shelf-shelf.ensures boxed shows
          c.within.ensures.boxed c.within.ensures.whole c.within.ensures.sound c.in_ok-on_layers.ensures.kept
          c.in_ok-on_layers.ensures.sound c.in_ok-on_layers.ensures.boxed,
      all_told c.squares_lie_in_boxes.ensures.boxes l H c.args.lying.now both c.in-Some.top
          c.in-Some-2.all c.in_ok-on_layers.on_layers c.shelf-shelf.result.now c.within.result
          c.in_ok-all.field-0 c.in_ok-all.was c.in-Some-2.is second c.shelf-shelf.ensures boxed shows
          c.within.ensures.boxed c.within.ensures.whole c.within.ensures.sound c.in_ok-on_layers.ensures.kept
          c.in_ok-on_layers.ensures.sound c.in_ok-on_layers.ensures.boxed,
    )
