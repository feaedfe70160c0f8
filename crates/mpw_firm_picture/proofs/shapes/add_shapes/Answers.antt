-- Answers to the goals of `add_shapes` in `src/shapes.rt`.
use Rattle.std.proofs.Common.{[], ◌∷◌, ◌++◌, refl}
use Rattle.mpw_hier.specs.Items.{Item}
use Rattle.mpw_region.proofs.Held.{Held-nil}
use Rattle.mpw_walk.specs.Turns.{given}
use Rattle.mpw_walk.specs.Way.{item_of}
use Rattle.mpw_tiles.specs.Shown.{ShowsSquare, IsShown}
use Rattle.mpw_tiles.proofs.Showing.{given_more, shown_more}
use Rattle.mpw_firm_picture.proofs.Adding.{adds_none, adds_next}
use Rattle.mpw_firm_picture.proofs.shapes.add_shapes.Goals as goal

pub loop-placed-init : goal.loop-placed-init
loop-placed-init c = (
  [],
  refl,
  adds_none c.args.window.now c.args.rectangles.now.items (IsShown [])
      (λ s layer origin u h. Held-nil (λ (i : Item). ShowsSquare i layer origin s) h),
)

pub loop-placed-preserved : goal.loop-placed-preserved
loop-placed-preserved c =
    let done = c.loop-placed.invariant.0 in
    let item = item_of c.in-Some.placed in (
      done ++ item ∷ [],
      given_more done (given c.next.new.self.left) _ _ item c.in-Some.ensures.some
          c.loop-placed.invariant.1,
      adds_next c.args.window.now c.args.rectangles.now.items c.loop-placed.rectangles.items
          c.add_shape.new.rectangles.items (IsShown done) (ShowsSquare item)
          (IsShown (done ++ item ∷ []))
          (λ s layer origin u. shown_more done item layer origin s)
          c.loop-placed.invariant.2 c.in_ok-add_shape.ensures.ok,
    )
