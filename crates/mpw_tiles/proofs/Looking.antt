-- Snapshots: their extents, their plans, and windows that represent them.
use Rattle.std.proofs.Common.{◌≡◌, ℕ, ◌+◌, ◌≤◌, ◌<◌, ◌^◌, true, List, [], ◌∷◌, length, get_or, drop, max, Option, Some, sym, subst, ap, ◌∙◌, arith}
use Rattle.std.specs.Prelude.{IfOk, Result, Ok, Err, ℤ, All, IfSome, fold}
use Rattle.std.specs.Int.{int_min, int_max}
use Rattle.std.proofs.lemmas.Int.{ints, clamps}
use Rattle.std.proofs.lemmas.List.{at_drop_more, drop_all}
use Rattle.std.proofs.lemmas.List.Elements.{All-head, All-tail}
use Rattle.mpw_geom.proofs.Boxes.{same_box}
use Rattle.mpw_geom.specs.declared.plane.Box2.{Box2}
use Rattle.mpw_geom.specs.declared.plane.Point.{Point}
use Rattle.mpw_geom.specs.declared.placing.Placing.{Placing}
use Rattle.mpw_geom.specs.Plane.{IsOrdered, IsBoxInPlane, box_between}
use Rattle.mpw_geom.specs.Placing.{placed_point}
use Rattle.mpw_geom.proofs.Tests.{SquareIn-from_test}
use Rattle.mpw_deck.specs.declared.rule.Rule.{Rule}
use Rattle.mpw_deck.specs.Decks.{Deck, IsRule, IsDeck}
use Rattle.mpw_tiles.specs.GridLaws.{WindowsReachNoFurther}
use Rattle.mpw_hier.specs.declared.submission.Submission.{Submission}
use Rattle.mpw_hier.specs.Boxes.{hull, placed_box, is_box_near}
use Rattle.mpw_hier.proofs.Hulls.{hull_assoc, hull_none}
use Rattle.mpw_hier.proofs.Nearness.{close_box}
use Rattle.mpw_walk.specs.declared.root.Root.{Root}
use Rattle.mpw_walk.specs.Turns.{flat_roots}
use Rattle.mpw_walk.specs.Roots.{root_extent, roots_extent}
use Rattle.std.specs.Result.{result_ok}
use Rattle.mpw_tiles.specs.declared.listing.Rectangle.{Rectangle}
use Rattle.mpw_tiles.specs.Listing.{AreWindowsOf, ListNear}
use Rattle.mpw_tiles.specs.Shown.{IsShown}
use Rattle.mpw_tiles.specs.Snapshots.{Snapshot, shown, plan_for, AreWindowsFor, StandFor, ListNearby}
use Rattle.mpw_tiles.specs.Plan.{Tiling, greatest_distance, plan_of, tiles, tile_window}
use Rattle.mpw_tiles.specs.Placed.{WindowsLieInPlane}
use Rattle.mpw_tiles.specs.Internal.Placed.{nearest_point}

-- what is near is not moved to the border of the plane
unmoved : (p q : Point) → is_box_near (box_between p q) ≡ true
    → box_between (nearest_point p) (nearest_point q) ≡ box_between p q
unfolding box_between
unmoved p q e =
    let h = close_box (record {
      x0 = int_min p.x q.x;
      y0 = int_min p.y q.y;
      x1 = int_max p.x q.x;
      y1 = int_max p.y q.y;
    }) e in
    same_box _ _ (omega (arith, ints, clamps)) (omega (arith, ints, clamps))
    (omega (arith, ints, clamps)) (omega (arith, ints, clamps))

pub area_is_box : (t : Placing) (b : Box2) (x0 y0 x1 y1 : ℤ) → x0 ≡ b.x0 → y0 ≡ b.y0 → x1 ≡ b.x1
    → y1 ≡ b.y1 → is_box_near (placed_box t b) ≡ true
    → box_between (nearest_point (placed_point t (record { x = x0; y = y0 })))
    (nearest_point (placed_point t (record { x = x1; y = y1 }))) ≡ placed_box t b
unfolding placed_box
area_is_box t b x0 y0 x1 y1 e f g h n =
    rw (e, f, g, h) (unmoved (placed_point t (record { x = b.x0; y = b.y0 }))
    (placed_point t (record { x = b.x1; y = b.y1 })) n)

-- ---- the extent of roots

pub hull_more : (ss : List Submission) (roots : List Root) (i : ℕ) (d : Root) (so_far : Option Box2)
    → i < length roots → hull so_far (roots_extent ss (drop i roots)) ≡ roots_extent ss roots
    → hull (hull so_far (root_extent ss (get_or roots i d))) (roots_extent ss (drop (i + 1) roots))
    ≡ roots_extent ss roots
unfolding roots_extent
hull_more ss roots i d so_far h e =
    hull_assoc so_far (root_extent ss (get_or roots i d)) (roots_extent ss (drop (i + 1) roots))
    ∙ ap (hull so_far) (sym (at_drop_more (roots_extent ss) roots i d h)) ∙ e

pub hull_last : (ss : List Submission) (roots : List Root) (i : ℕ) (so_far whole : Option Box2)
    → length roots ≤ i → hull so_far (roots_extent ss (drop i roots)) ≡ whole → so_far ≡ whole
unfolding roots_extent
hull_last ss roots i so_far whole h e = sym (hull_none so_far)
    ∙ ap (λ rest. hull so_far (roots_extent ss rest)) (sym (drop_all i roots h)) ∙ e

-- ---- plans

least_distance : (n : ℕ) (rules : List Rule) → n ≤ 65535 → All IsRule rules
    → fold (λ greatest (rule : Rule). max greatest rule.distance) n rules ≤ 65535
least_distance n [] h a = h
least_distance n (rule ∷ rules) h a = let m = (All-head IsRule rule rules a).most in
    least_distance (max n rule.distance) rules (omega arith) (All-tail IsRule rule rules a)

pub windows_in_plane : WindowsReachNoFurther → (deck : Deck) (extent : Box2) → IsDeck deck
    → IsOrdered extent → is_box_near extent ≡ true → WindowsLieInPlane (plan_of extent deck)
windows_in_plane law deck extent d o n tile s u w =
    let h = close_box extent n in
    let m : greatest_distance deck.rules ≤ 65535 = least_distance 0 deck.rules (omega arith)
    d.rules in
    let r = law (plan_of extent deck).grid (plan_of extent deck).margin tile (2 ^ 30) (omega arith)
    o u (record { left = h.x0.above; right = h.x1.below; bottom = h.y0.above; top = h.y1.below }) in
    let i = SquareIn-from_test (tile_window (plan_of extent deck) tile) s w in
    record {
      left = omega (arith, ints);
      right = omega (arith, ints);
      bottom = omega (arith, ints);
      top = omega (arith, ints);
    }

pub near_in_plane : (b : Box2) → is_box_near b ≡ true → IsBoxInPlane b
near_in_plane b n =
    let h = close_box b n in
    record {
      x0 = record { low = omega (arith, ints); high = omega (arith, ints) };
      y0 = record { low = omega (arith, ints); high = omega (arith, ints) };
      x1 = record { low = omega (arith, ints); high = omega (arith, ints) };
      y1 = record { low = omega (arith, ints); high = omega (arith, ints) };
    }

pub if_some_ok : {A E : Type 0} (P : A → Type 0) (x : A) (r : Result A E) → P x
    → IfOk r (λ y. y ≡ x) → IfSome (result_ok r) P
if_some_ok P x (Ok y) p e = subst P (sym e) p
if_some_ok P x (Err f) p e = tt

-- ---- windows

pub if_ok_same : {A E : Type 0} (P : A → Type 0) (x : A) (r : Result A E) → P x
    → IfOk r (λ y. y ≡ x) → IfOk r P
if_ok_same P x (Ok y) p e = subst P (sym e) p
if_ok_same P x (Err f) p e = tt

pub stand_for : (s : Snapshot) (plan : Tiling) (new : List (List Rectangle))
    → plan_for s ≡ Some plan → AreWindowsOf plan (IsShown (shown s)) new → StandFor s new
stand_for s plan new e h =
    subst (λ (o : Option Tiling). AreWindowsFor o (shown s) new) (sym e) h

pub list_nearby : (s : Snapshot) (plan : Tiling) (new : List (List Rectangle))
    → plan_for s ≡ Some plan → ListNear plan new → ListNearby s new
list_nearby s plan new e h own f =
    subst (λ (q : Tiling). ListNear q new) (same_some plan own (sym e ∙ f)) h
  where
    same_some : (p q : Tiling) → Some p ≡ Some q → p ≡ q
    same_some p q e = cc

pub same_shown : (s : Snapshot) (shelf : List Submission) (roots : List Root) → shelf ≡ s.shelf
    → roots ≡ s.roots → flat_roots shelf roots ≡ shown s
same_shown s shelf roots e f =
    ap (λ (ss : List Submission). flat_roots ss roots) e ∙ ap (flat_roots s.shelf) f
