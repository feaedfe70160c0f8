-- Displaced items have their squares displaced, and what touches a window has its squares.
use Rattle.std.proofs.Common.{◌≡◌, ◌∙◌, ℤ, ◌+ℤ◌, Bool, true, ◌&&◌, ◌||◌, List, [], ◌∷◌, map, Option, refl, sym, ap, arith}
use Rattle.std.proofs.lemmas.Int.{ints}
use Rattle.mpw_geom.specs.declared.plane.Box2.{Box2}
use Rattle.mpw_geom.specs.declared.plane.Layer.{Layer}
use Rattle.mpw_geom.specs.declared.plane.Point.{Point}
use Rattle.mpw_geom.specs.Placing.{oriented_square, undoing}
use Rattle.mpw_geom.specs.Plane.{Square, has_square}
use Rattle.mpw_geom.proofs.Tests.{same_tests, test_from_SquareIn}
use Rattle.mpw_edges.specs.declared.run.Axis.TheVariants.{V, H}
use Rattle.mpw_shapes.specs.Element.{element_has}
use Rattle.mpw_hier.specs.Items.{Item}
use Rattle.mpw_tiles.specs.Shown.{layer_of}
use Rattle.mpw_walk.specs.Window.{is_met}
use Rattle.mpw_tiles.specs.Laws.{SquaresLieInBoxes, IsInBox}
use Rattle.mpw_job.specs.Computed.{square_before, item_has, is_layer, shown_on}
use Rattle.mpw_job.proofs.Shapes.{tests_tell}
use Rattle.mpw_columns_keys.specs.Columns.{seen_box}
use Rattle.mpw_columns_contents.specs.Contents.{AreWhole, AreSound}
use Rattle.mpw_columns_contents.specs.Displaced.{moved}
use Rattle.mpw_columns.specs.Displaced.{displaced, across_edges}
use Rattle.mpw_columns.specs.Laws.{MovedItemsShowDisplaced}
use Rattle.mpw_columns.proofs.Windowed.{is_met_at}

same_square : (s t : Square) → s.column ≡ t.column → s.row ≡ t.row → s ≡ t
same_square s t e f =
    ap (λ (n : ℤ). let q : Square = record { column = n; row = s.row } in q) e
    ∙ ap (λ (n : ℤ). let q : Square = record { column = t.column; row = n } in q) f

-- ---- displaced items

moved_has : (d : Point) (item : Item) (p s : Square) → p.column ≡ (s.column +ℤ d.x)
    → p.row ≡ (s.row +ℤ d.y) → item_has (moved d item) p ≡ item_has item s
unfolding square_before
moved_has d item p s e f =
    ap (λ (q : Square). element_has item.element (oriented_square (undoing item.placing.orient) q))
    (same_square _ _ (omega (arith, ints, e)) (omega (arith, ints, f)))

pub moved_shown : (d : Point) (items : List Item) (layer : Layer) (i j p q : ℤ) → p ≡ (i +ℤ d.x)
    → q ≡ (j +ℤ d.y) → shown_on (map (moved d) items) layer p q ≡ shown_on items layer i j
moved_shown d [] layer i j p q e f = refl
moved_shown d (x ∷ xs) layer i j p q e f =
    let on = is_layer (layer_of x.element) layer in
    ap (λ (b : Bool). (on && b) || shown_on (map (moved d) xs) layer p q)
    (moved_has d x (record { column = p; row = q }) (record { column = i; row = j }) e f)
    ∙ ap (λ (b : Bool). (on && item_has x (record { column = i; row = j })) || b)
    (moved_shown d xs layer i j p q e f)

-- ---- what touches a window

-- if what has the square touches a window, and what touches it is included, then the square is
pub shows_square : SquaresLieInBoxes → (window : Box2) (all shown : List Item)
    → AreWhole window all shown → AreSound all shown → (layer : Layer) (s : Square)
    → ((o : Option Box2) → IsInBox o s → is_met window o ≡ true)
    → shown_on all layer s.column s.row ≡ shown_on shown layer s.column s.row
shows_square law window all shown whole sound layer s meets = same_tests _ _
    (λ e.
    let p = (tests_tell all layer).shown s.column s.row e in
    let item = p.1.0 in
    let met = meets _ (law item layer p.0 s p.1.2) in
    (tests_tell shown layer).all s.column s.row p.0 (item, whole item p.1.1 met, p.1.2))
    (λ e.
    let p = (tests_tell shown layer).shown s.column s.row e in
    (tests_tell all layer).all s.column s.row p.0 (p.1.0, sound p.1.0 p.1.1, p.1.2))

shows_window : SquaresLieInBoxes → (window : Box2) (all shown : List Item)
    → AreWhole window all shown → AreSound all shown → (layer : Layer) (s : Square)
    → has_square window s ≡ true → shown_on all layer s.column s.row ≡ shown_on shown layer s.column s.row
shows_window law window all shown whole sound layer s k =
    shows_square law window all shown whole sound layer s (λ o h. is_met_at window o s h k)

pub moved_show : SquaresLieInBoxes → MovedItemsShowDisplaced
moved_show law V all first second window by whole sound other also same layer i j l u low high =
    shows_window law (displaced by window) all second other also layer
    (record { column = i +ℤ by; row = j })
    (test_from_SquareIn (displaced by window) (record { column = i +ℤ by; row = j }) (record {
      left = omega (arith, ints, l);
      right = omega (arith, ints, u);
      bottom = low;
      top = high;
    }))
    ∙ ap (λ (items : List Item). shown_on items layer (i +ℤ by) j) same
    ∙ moved_shown (across_edges V by) first layer i j (i +ℤ by) j refl (omega (arith, ints))
    ∙ sym (shows_window law window all first whole sound layer (record { column = i; row = j })
    (test_from_SquareIn window (record { column = i; row = j }) (record {
      left = l;
      right = u;
      bottom = low;
      top = high;
    })))
moved_show law H all first second window by whole sound other also same layer i j l u low high =
    shows_window law (seen_box H (displaced by window)) all second other also layer
    (record { column = j; row = i +ℤ by })
    (test_from_SquareIn (seen_box H (displaced by window)) (record { column = j; row = i +ℤ by }) (record {
      left = low;
      right = high;
      bottom = omega (arith, ints, l);
      top = omega (arith, ints, u);
    }))
    ∙ ap (λ (items : List Item). shown_on items layer j (i +ℤ by)) same
    ∙ moved_shown (across_edges H by) first layer j i j (i +ℤ by) (omega (arith, ints)) refl
    ∙ sym (shows_window law (seen_box H window) all first whole sound layer
    (record { column = j; row = i })
    (test_from_SquareIn (seen_box H window) (record { column = j; row = i }) (record {
      left = low;
      right = high;
      bottom = l;
      top = u;
    })))
