-- Answers to the goals of `rectangles_in` in `src/shapes.rt`.
use Rattle.std.proofs.Common.{◌≡◌, List, [], subst, ap, ◌∙◌}
use Rattle.mpw_hier.specs.declared.submission.Submission.{Submission}
use Rattle.mpw_hier.specs.Items.{Item}
use Rattle.mpw_tiles.specs.declared.listing.Rectangle.{Rectangle}
use Rattle.mpw_tiles.specs.Shown.{IsShown}
use Rattle.mpw_tiles.specs.Snapshots.{shown}
use Rattle.mpw_walk.specs.declared.root.Root.{Root}
use Rattle.mpw_walk.specs.Turns.{given, flat_roots}
use Rattle.mpw_walk.specs.Window.{items_met}
use Rattle.mpw_firm_picture.specs.Internal.Adding.{AddsIn}
use Rattle.mpw_firm_picture.proofs.Adding.{adds_same, shown_met, shows}
use Rattle.mpw_firm_picture.proofs.shapes.rectangles_in.Goals as goal

pub returns : goal.returns
returns c =
    let s = c.args.snapshot.now in
    let w = c.args.window.now in
    let new = c.add_shapes.new.rectangles.items in
    let met : given c.within-walk.result.left ≡ items_met w (shown s) =
    c.within-walk.ensures.given
    ∙ ap (λ (ss : List Submission). items_met w (flat_roots ss c.roots.result.now)) c.shelf.ensures
    ∙ ap (λ (rs : List Root). items_met w (flat_roots s.shelf rs)) c.roots.ensures in
    let added : AddsIn w [] new (IsShown (items_met w (shown s))) =
    subst (λ (items : List Item). AddsIn w [] new (IsShown items)) met
    (subst (λ (old : List Rectangle). AddsIn w old new (IsShown (given
    c.within-walk.result.left))) c.new-rectangles.ensures.items c.in_ok-add_shapes.ensures.ok) in
    shows s w new
    (adds_same w [] new (IsShown (items_met w (shown s))) (IsShown (shown s))
    (shown_met w (shown s) c.squares_lie_in_boxes.ensures.boxes) added)
