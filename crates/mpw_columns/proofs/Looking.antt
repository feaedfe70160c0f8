-- What is read of a layout, and the bounds of its coordinates.
use Rattle.std.proofs.Common.{◌≡◌, ℕ, ◌+◌, ◌<◌, ◌≤◌, ◌^◌, pos, ◌+ℤ◌, ◌≤ℤ◌, true, Option, Some, List, [], length, get_or, inl, inr, sym, subst, ap, ◌∙◌, arith}
use Rattle.std.specs.Prelude.{All, Contains, ◌↔◌}
use Rattle.std.proofs.lemmas.Int.{ints}
use Rattle.std.proofs.lemmas.List.Elements.{Contains-get_or}
use Rattle.mpw_geom.specs.declared.plane.Box2.{Box2}
use Rattle.mpw_geom.specs.Plane.{Square, has_square, IsOrdered}
use Rattle.mpw_geom.proofs.Tests.{SquareIn-from_test}
use Rattle.mpw_geom.specs.declared.plane.Layer.{Layer}
use Rattle.mpw_deck.specs.declared.rule.Rule.{Rule}
use Rattle.mpw_edges.specs.declared.run.Axis.{Axis}
use Rattle.mpw_edges.specs.declared.run.Axis.TheVariants.{V, H}
use Rattle.mpw_hier.specs.Items.{Item}
use Rattle.mpw_hier.specs.Boxes.{is_box_near}
use Rattle.mpw_hier.proofs.Nearness.{close_box}
use Rattle.mpw_walk.specs.Window.{items_met}
use Rattle.mpw_tiles.specs.declared.listing.Rectangle.{Rectangle}
use Rattle.mpw_tiles.specs.Laws.{SquaresLieInBoxes}
use Rattle.mpw_tiles.specs.Placed.{IsSquareInPlane}
use Rattle.mpw_tiles.specs.Plan.{greatest_distance}
use Rattle.mpw_tiles.specs.Snapshots.{Snapshot, shown_extent}
use Rattle.mpw_tiles.proofs.Tiles.{no_greater}
use Rattle.mpw_markers.specs.declared.marker.Key.{Key}
use Rattle.mpw_job.specs.Layers.{Coverage}
use Rattle.mpw_job.specs.Answers.{listed_on}
use Rattle.mpw_job.specs.Computed.{shown_on}
use Rattle.mpw_columns_keys.specs.declared.column.Column.{Column}
use Rattle.mpw_columns_keys.specs.Columns.{seen_box, across, upright}
use Rattle.mpw_columns.specs.Seen.{seen_on}
use Rattle.mpw_columns.specs.Plan.{IsColumnWithin}
use Rattle.mpw_columns.specs.Found.{IsFound, HasLayers}
use Rattle.mpw_columns.specs.Internal.Found.{AddsFound, IsLook, AgreeIn, AgreeAll, IsUpright, IsStretch, IsTall, IsWide}
use Rattle.mpw_columns.specs.Internal.Listed.{ShowSeen}
use Rattle.mpw_columns.proofs.Dividing.{added_agree}
use Rattle.mpw_columns.proofs.Windowed.{agree_listed}

-- ---- bounds of coordinates

pub window_in_plane : (axis : Axis) (core : Box2) (n : ℕ) (s : Square) → IsUpright core → n ≤ 2 ^ 33
    → has_square (seen_box axis (across core n)) s ≡ true → IsSquareInPlane s
window_in_plane V core n s u short e =
    let i = SquareIn-from_test (across core n) s e in
    let a = i.left in let b = i.right in let c = i.bottom in let d = i.top in
    let l = u.left in let r = u.right in let m = u.bottom in let t = u.top in record {
      left = omega (arith, ints, a, l, short);
      right = omega (arith, ints, b, r, short);
      bottom = omega (arith, ints, c, m);
      top = omega (arith, ints, d, t);
    }
window_in_plane H core n s u short e =
    let i = SquareIn-from_test (seen_box H (across core n)) s e in
    let a = i.left in let b = i.right in let c = i.bottom in let d = i.top in
    let l = u.left in let r = u.right in let m = u.bottom in let t = u.top in record {
      left = omega (arith, ints, a, m);
      right = omega (arith, ints, b, t);
      bottom = omega (arith, ints, c, l, short);
      top = omega (arith, ints, d, r, short);
    }

pub upright_from : (b : Box2) (c : Column) → IsStretch c → IsTall b → IsUpright (upright b c)
upright_from b c h t = record {
  ordered = let s = h.some in omega (arith, ints, s);
  left = h.left;
  right = h.right;
  bottom = t.bottom;
  top = t.top;
}

pub seen_tall : (axis : Axis) (b : Box2) → is_box_near b ≡ true → IsTall (seen_box axis b)
seen_tall V b n = let h = close_box b n in
    let y0 = h.y0.above in let y1 = h.y1.below in
    record { bottom = omega (arith, ints, y0); top = omega (arith, ints, y1) }
seen_tall H b n = let h = close_box b n in
    let x0 = h.x0.above in let x1 = h.x1.below in
    record { bottom = omega (arith, ints, x0); top = omega (arith, ints, x1) }

pub seen_wide : (axis : Axis) (b : Box2) → is_box_near b ≡ true → IsOrdered b
    → IsWide (seen_box axis b)
seen_wide V b n o = let h = close_box b n in
    let x0 = h.x0.above in let x1 = h.x1.below in
    record { left = omega (arith, ints, x0); ordered = o.x; right = omega (arith, ints, x1) }
seen_wide H b n o = let h = close_box b n in
    let y0 = h.y0.above in let y1 = h.y1.below in
    record { left = omega (arith, ints, y0); ordered = o.y; right = omega (arith, ints, y1) }

same_extent : (o : Option Box2) (a b : Box2) → o ≡ Some a → o ≡ Some b → a ≡ b
same_extent o a b e f = cc

column_upright : (s : Snapshot) (extent : Box2) (c : Column) → shown_extent s ≡ Some extent
    → is_box_near extent ≡ true → IsOrdered extent → IsColumnWithin s c
    → IsUpright (upright (seen_box c.axis extent) c)
column_upright s extent c found n o within =
    let same = same_extent (shown_extent s) within.extent extent within.extent_is found in
    let l = subst (λ (b : Box2). (seen_box c.axis b).x0 ≤ℤ c.from) same within.left in
    let r = subst (λ (b : Box2). c.to ≤ℤ ((seen_box c.axis b).x1 +ℤ pos 1)) same within.right in
    let w = seen_wide c.axis extent n o in
    let wl = w.left in let wr = w.right in
    upright_from (seen_box c.axis extent) c (record {
      left = omega (arith, ints, l, wl);
      some = within.some;
      right = omega (arith, ints, r, wr);
    }) (seen_tall c.axis extent n)

pub columns_upright : (s : Snapshot) (extent : Box2) (columns : List Column)
    → shown_extent s ≡ Some extent → is_box_near extent ≡ true → IsOrdered extent
    → All (IsColumnWithin s) columns
    → All (λ (c : Column). IsUpright (upright (seen_box c.axis extent) c)) columns
columns_upright s extent columns found n o within = λ k d lt.
    column_upright s extent (get_or columns k d) found n o (within k d lt)

-- ---- what is listed

pub walked_seen : (layers : List Layer) (axis : Axis) (given items : List Item)
    (listed : List Rectangle) → given ≡ items → ShowSeen layers axis given listed
    → ShowSeen layers axis items listed
walked_seen layers axis given items listed e h =
    subst (λ (is : List Item). ShowSeen layers axis is listed) e h

pub rectangles_agree : SquaresLieInBoxes
    → (layers : List Layer) (axis : Axis) (items given : List Item)
    (core window : Box2) (distance : ℕ) (listed slice parts made : List Rectangle)
    → IsUpright core → distance < 2 ^ 32
    → given ≡ items_met (seen_box axis (across core (distance + 1))) items
    → ShowSeen layers axis given listed → slice ≡ listed
    → window ≡ across core (distance + 1)
    → AgreeAll window (listed_on slice) (listed_on parts)
    → listed_on made ≡ listed_on parts
    → AgreeIn layers (across core (distance + 1)) (seen_on axis (shown_on items)) (listed_on made)
rectangles_agree law layers axis items given core window distance listed slice parts made u short
    e show same w agree last layer has i j l r low high =
    agree_listed law layers axis items listed (across core (distance + 1))
    (λ s. window_in_plane axis core (distance + 1) s u (omega (arith, short)))
    (walked_seen layers axis given _ listed e show) layer has i j l r low high
    ∙ ap (λ (rs : List Rectangle). listed_on rs layer i j) (sym same)
    ∙ subst (λ (b : Box2). AgreeAll b (listed_on slice) (listed_on parts)) w agree layer i j l r low
    high
    ∙ ap (λ (on : Coverage). on layer i j) (sym last)

pub keys_from : (rules seen : List Rule) (layers : List Layer) (distance : ℕ) (axis : Axis)
    (on : Coverage) (listed slice : List Rectangle) (core : Box2) (old new : List Key)
    → seen ≡ rules → IsLook rules layers distance
    → AgreeIn layers (across core (distance + 1)) on (listed_on listed) → slice ≡ listed → old ≡ []
    → AddsFound seen axis (listed_on slice) core old new
    → (k : Key) → Contains new k ↔ IsFound rules axis on core k
keys_from rules seen layers distance axis on listed slice core old new e look agree f none added k =
    let first = subst (λ (rs : List Rule). AddsFound rs axis (listed_on slice) core old new) e
    added in
    let second = subst (λ (xs : List Rectangle). AddsFound rules axis (listed_on xs) core old new) f
    first in
    let third = subst (λ (ks : List Key). AddsFound rules axis (listed_on listed) core ks new) none
    second in
    let told = added_agree rules layers distance axis on (listed_on listed) core [] new look agree
    third k in (
      λ c. elim (told.0 c) [ inl o ↦ absurd (omega (arith, o.1)) | inr h ↦ h ],
      λ h. told.1 (inr h),
    )

-- ---- the input of a search

pub look_from : (rules : List Rule) (seen : List Rule) (layers slice : List Layer) (distance : ℕ)
    → seen ≡ rules → slice ≡ layers → length rules ≤ 256
    → distance ≡ greatest_distance seen
    → All (λ (rule : Rule). HasLayers layers rule.check) seen
    → IsLook rules slice distance
look_from rules seen layers slice distance e f few g has = record {
  few = few;
  near = λ k d lt. subst (λ (n : ℕ). (get_or rules k d).distance ≤ n)
      (sym (g ∙ ap greatest_distance e)) (no_greater rules (get_or rules k d)
      (Contains-get_or rules k d lt));
  layered =
      subst (λ (ls : List Layer). All (λ (rule : Rule). HasLayers ls rule.check) rules) (sym f)
      (subst (All (λ (rule : Rule). HasLayers layers rule.check)) e has);
}
