-- The box of a frame's next shape is near.
use Rattle.std.proofs.Common.{◌≡◌, ℕ, zero, suc, ◌<◌, true, ℤ, List, [], ◌∷◌, length, Option, Some, None, sym, ap, subst, ◌∙◌, arith}
use Rattle.std.specs.Prelude.{All, IfSome, slice_get, slice_index}
use Rattle.std.specs.List.{flat_map}
use Rattle.std.proofs.lemmas.Int.{ints}
use Rattle.std.proofs.lemmas.List.Elements.{All-head}
use Rattle.mpw_geom.specs.declared.plane.Box2.{Box2}
use Rattle.mpw_geom.specs.Plane.{IsOrdered}
use Rattle.mpw_geom.proofs.Tests.{test_from_le}
use Rattle.mpw_structures.specs.declared.element.Element.{Element}
use Rattle.mpw_hier.specs.Boxes.{element_box, extent_of, is_near, is_box_near}
use Rattle.mpw_hier.specs.Holding.{IsInside, IsHeld}
use Rattle.mpw_hier.specs.Sizes.{IsExtentNear}
use Rattle.mpw_hier.specs.declared.submission.Submission.{Submission}
use Rattle.mpw_walk.specs.declared.frame.Frame.{Frame}
use Rattle.mpw_walk.specs.Frames.{named_turns, shape_turns, turns_of_shapes, turns_of_children, IsFrame}
use Rattle.mpw_walk.specs.Internal.Named.{NamesAreWalked}
use Rattle.mpw_walk.specs.Near.{IsClose}
use Rattle.mpw_walk.specs.Turns.{Turn, give, given}
use Rattle.mpw_walk.proofs.Close.{near_corners}
use Rattle.mpw_walk.proofs.Entered.{named_give, own_turns, node_turns}
use Rattle.mpw_walk.proofs.Held.{IsTurnIn, named_holds, turns_held}
use Rattle.mpw_walk.proofs.Reach.{all_left, all_right}
use Rattle.mpw_walk.proofs.Taken.{both}

-- ---- what lies in a near box is near

near_from : (z : ℤ) → IsClose z → is_near z ≡ true
near_from z h = both _ _ (test_from_le _ _ h.low) (test_from_le _ _ h.high)

near_inside : (a b : Box2) → IsOrdered a → IsInside a b → is_box_near b ≡ true
    → is_box_near a ≡ true
unfolding is_box_near
near_inside a b ordered inside near =
    let c = near_corners b near in
    let left : IsClose a.x0 = record {
      low = omega (arith, ints, inside.left, c.0.x.low);
      high = omega (arith, ints, ordered.x, inside.right, c.1.x.high);
    } in
    let bottom : IsClose a.y0 = record {
      low = omega (arith, ints, inside.bottom, c.0.y.low);
      high = omega (arith, ints, ordered.y, inside.top, c.1.y.high);
    } in
    let right : IsClose a.x1 = record {
      low = omega (arith, ints, ordered.x, inside.left, c.0.x.low);
      high = omega (arith, ints, inside.right, c.1.x.high);
    } in
    let top : IsClose a.y1 = record {
      low = omega (arith, ints, ordered.y, inside.bottom, c.0.y.low);
      high = omega (arith, ints, inside.top, c.1.y.high);
    } in
    both _ _
    (both _ _ (both _ _ (near_from a.x0 left) (near_from a.y0 bottom)) (near_from a.x1 right))
    (near_from a.y1 top)

held_near : (a b : Option Box2) → IsHeld a b → IfSome a IsOrdered → IsExtentNear b
    → IsExtentNear a
held_near None b h ordered near = tt
held_near (Some a) None h ordered near = absurd h
held_near (Some a) (Some b) h ordered near = near_inside a b ordered h near

-- ---- a frame's next shape

flat_part : (P : Turn → Type 0) (g : ℕ → List Turn) (xs : List ℕ) (k : ℕ) → k < length xs
    → All P (flat_map g xs) → All P (g (slice_index xs k))
flat_part P g [] k h all = absurd (omega (arith, h))
flat_part P g (x ∷ xs) zero h all = all_left P (g x) (flat_map g xs) all
flat_part P g (x ∷ xs) (suc k) h all =
    flat_part P g xs k (omega (arith, h)) (all_right P (g x) (flat_map g xs) all)

pub shape_near : (law : NamesAreWalked) (ss : List Submission) (f : Frame) → IsFrame ss f
    → (e : Element) → f.shape < length f.node.now.shapes
    → slice_get f.elements.now (slice_index f.node.now.shapes f.shape) ≡ Some e
    → IsExtentNear (element_box e)
shape_near law ss f q e h is =
    let n = f.submission in
    let m = q.nodes.each q.place f.node.now q.at in
    let name = m.structure.name in
    let es = q.structure.elements in
    let places = f.node.now.shapes in
    let turns = named_turns ss n name in
    let outer = extent_of (given turns) in
    let In : Turn → Type 0 = IsTurnIn outer in
    let whole = own_turns ss n q.submission q.is law f.nodes.now q.place f.node.now q.structure name
    q.nodes q.at q.named m.named in
    let parts = node_turns ss n q.submission q.is f.nodes.now q.place f.node.now q.structure q.nodes
    q.at q.named in
    let holds = named_holds law.extents.placed ss n q.submission q.is name in
    let all = subst (All In) (whole ∙ sym parts) (turns_held law.extents turns holds) in
    let shapes = all_left In (turns_of_shapes n es places)
    (turns_of_children (named_turns ss n) es 0 0 f.node.now.children.items) all in
    let one = flat_part In (λ place. shape_turns n (slice_get es place)) places f.shape h shapes in
    let at : slice_get es (slice_index places f.shape) ≡ Some e =
    subst (λ l. slice_get l (slice_index places f.shape) ≡ Some e) q.elements_are is in
    let here = All-head In (give _) [] (subst (λ o. All In (shape_turns n o)) at one) in
    let own = law.extents.unmoved n e in
    let held = subst (λ o. IsHeld o outer) own here.0 in
    let ordered = subst (λ o. IfSome o IsOrdered) own here.1 in
    let items = (named_give ss n q.submission q.is name).items_given in
    let near = subst IsExtentNear (m.size.extent ∙ ap extent_of (sym items)) m.size.near in
    held_near (element_box e) outer held ordered near
