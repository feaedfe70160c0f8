-- What lies in an extent that misses a window misses it too.
use Rattle.std.proofs.Common.{◌≡◌, Bool, true, false, List, map, Option, Some, None, refl, sym, ap, ◌∙◌, arith}
use Rattle.std.specs.Prelude.{Contains, option_map}
use Rattle.std.specs.Int.{int_min, int_max}
use Rattle.std.proofs.lemmas.Int.{ints, clamps}
use Rattle.std.proofs.lemmas.Bool.{and_parts}
use Rattle.std.proofs.lemmas.List.Elements.{All-contains}
use Rattle.mpw_geom.specs.declared.plane.Box2.{Box2}
use Rattle.mpw_geom.specs.declared.placing.Placing.{Placing}
use Rattle.mpw_geom.proofs.Tests.{le_from_test, test_from_le}
use Rattle.mpw_hier.specs.Boxes.{placed_box, item_box, extent_of}
use Rattle.mpw_hier.specs.Items.{Item, placed_item}
use Rattle.mpw_hier.specs.Holding.{IsInside, IsHeld}
use Rattle.mpw_walk.specs.Window.{do_meet, is_met}
use Rattle.mpw_walk.proofs.Taken.{both}
use Rattle.mpw_columns_contents.specs.Internal.Opening.{NamesAreOpened}

wider : (a b w : Box2) → IsInside a b → do_meet a w ≡ true → do_meet b w ≡ true
unfolding do_meet
wider a b w inside h =
    let f = and_parts _ _ h in
    let x = le_from_test (int_max a.x0 w.x0) (int_min a.x1 w.x1) f.0 in
    let y = le_from_test (int_max a.y0 w.y0) (int_min a.y1 w.y1) f.1 in
    both _ _
    (test_from_le (int_max b.x0 w.x0) (int_min b.x1 w.x1)
    (omega (arith, ints, clamps, x, inside.left, inside.right)))
    (test_from_le (int_max b.y0 w.y0) (int_min b.y1 w.y1)
    (omega (arith, ints, clamps, y, inside.bottom, inside.top)))

missed_within : (w : Box2) (inner outer : Option Box2) → IsHeld inner outer → is_met w outer ≡ false
    → is_met w inner ≡ false
missed_within w None outer h missed = refl
missed_within w (Some a) None h missed = absurd h
missed_within w (Some a) (Some b) h missed = go (do_meet a w) refl
  where
    go : (x : Bool) → do_meet a w ≡ x → x ≡ false
    go false e = refl
    go true e = sym (wider a b w h e) ∙ missed

-- of a list that is placed
pub placed_missed : (law : NamesAreOpened) (w : Box2) (t : Placing) (items : List Item)
    (extent : Option Box2)
    → extent ≡ extent_of items → is_met w (option_map (placed_box t) extent) ≡ false
    → (i : Item) → Contains (map (placed_item t) items) i → is_met w (item_box i) ≡ false
placed_missed law w t items extent is missed i h =
    let there = map (placed_item t) items in
    let whole : extent_of there ≡ option_map (placed_box t) extent = law.placed t items
    ∙ ap (option_map (placed_box t)) (sym is) in
    let held = All-contains (λ (j : Item). IsHeld (item_box j) (extent_of there)) there i
    (law.holds there) h in
    missed_within w (item_box i) (extent_of there) held (ap (is_met w) whole ∙ missed)
