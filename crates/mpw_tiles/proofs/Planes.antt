-- The windows of a snapshot's plan lie in the plane.
use Rattle.std.proofs.Common.{◌≡◌, true, List, Option, Some, sym, subst, ◌∙◌}
use Rattle.std.specs.Prelude.{IfSome}
use Rattle.mpw_geom.specs.declared.plane.Box2.{Box2}
use Rattle.mpw_geom.specs.Plane.{IsOrdered}
use Rattle.mpw_hier.specs.declared.submission.Submission.{Submission}
use Rattle.mpw_hier.specs.Boxes.{is_box_near, extent_of}
use Rattle.mpw_hier.specs.Holding.{ExtentsAreOrdered}
use Rattle.mpw_walk.specs.declared.root.Root.{Root}
use Rattle.mpw_walk.specs.Roots.{roots_extent}
use Rattle.mpw_walk.specs.Turns.{flat_roots}
use Rattle.mpw_tiles.specs.GridLaws.{WindowsReachNoFurther}
use Rattle.mpw_tiles.specs.Laws.{PlansLieInPlane}
use Rattle.mpw_tiles.specs.Placed.{WindowsLieInPlane}
use Rattle.mpw_tiles.specs.Snapshots.{shown, shown_extent}
use Rattle.mpw_tiles.proofs.Bounds.{near_roots}
use Rattle.mpw_tiles.proofs.Looking.{windows_in_plane}
use Rattle.mpw_tiles.proofs.Told.{plan_is}

pub plans_in_plane : WindowsReachNoFurther → ExtentsAreOrdered
    → ((ss : List Submission) (roots : List Root)
    → extent_of (flat_roots ss roots) ≡ roots_extent ss roots) → PlansLieInPlane
plans_in_plane reach ordered extents s plan h e =
    let over = plan_is s.deck (shown_extent s) plan e in
    let near = subst (λ (o : Option Box2). IfSome o (λ b. is_box_near b ≡ true))
    (sym (extents s.shelf s.roots) ∙ over.found) (near_roots s.shelf s.roots h.roots.fit) in
    let lower = subst (λ (o : Option Box2). IfSome o IsOrdered) over.found (ordered (shown s)) in
    subst WindowsLieInPlane (sym over.is)
    (windows_in_plane reach s.deck over.extent h.deck lower near)
