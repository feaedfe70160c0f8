-- The content of parts of entries, and of displaced entries.
use Rattle.std.proofs.Common.{◌≡◌, ◌∙◌, ◌+◌, ℤ, ◌+ℤ◌, ◌≤ℤ◌, ◌<ℤ◌, List, map, Some, refl, sym, subst, ap, arith}
use Rattle.std.specs.Prelude.{All, Contains}
use Rattle.std.proofs.lemmas.Int.{ints}
use Rattle.mpw_geom.specs.declared.plane.Box2.{Box2}
use Rattle.mpw_geom.specs.declared.plane.Layer.{Layer}
use Rattle.mpw_geom.specs.declared.plane.Point.{Point}
use Rattle.mpw_geom.specs.Plane.{Square}
use Rattle.mpw_geom.proofs.Tests.{same_tests, test_from_SquareIn}
use Rattle.mpw_edges.specs.declared.run.Axis.{Axis}
use Rattle.mpw_edges.specs.declared.run.Axis.TheVariants.{V, H}
use Rattle.mpw_structures.specs.declared.element.Element.{Element}
use Rattle.mpw_structures.specs.declared.element.Element.TheVariants.{Boundary, Path, Reference}
use Rattle.mpw_hier.specs.Items.{Item}
use Rattle.mpw_tiles.specs.Shown.{layer_of}
use Rattle.mpw_tiles.specs.Laws.{SquaresLieInBoxes}
use Rattle.mpw_job.specs.Computed.{shown_on}
use Rattle.mpw_job.proofs.Shapes.{tests_tell}
use Rattle.mpw_columns_keys.specs.declared.column.Column.{Column}
use Rattle.mpw_columns_keys.specs.Columns.{seen_box, across, upright}
use Rattle.mpw_columns_contents.specs.declared.thing.Thing.{Thing}
use Rattle.mpw_columns_contents.specs.Contents.{AreWhole, AreSound, IsBoxed, IsOn}
use Rattle.mpw_columns_contents.specs.Displaced.{moved}
use Rattle.mpw_columns_contents.specs.Things.{things_items}
use Rattle.mpw_columns.specs.Seen.{seen_on}
use Rattle.mpw_columns.specs.declared.batch.Listed.{Listed}
use Rattle.mpw_columns.specs.declared.layout.Layout.{Layout}
use Rattle.mpw_columns.specs.Internal.Blocks.{IsPart}
use Rattle.mpw_columns.specs.Internal.Checked.{AreAllThings, HasThings}
use Rattle.mpw_columns.specs.Internal.Pieces.{AreThingsIn, IsInside, MeetsSquaresOf, seen_things, seen_way, whole_core}
use Rattle.mpw_columns.proofs.Moved.{shows_square, moved_shown}
use Rattle.mpw_columns.proofs.PiecesMoved.{AreSquaresMoved}
use Rattle.mpw_columns.proofs.Windowed.{is_met_by}

-- ---- what touches a window

shows_seen : SquaresLieInBoxes → (axis : Axis) (window met : Box2) (all shown : List Item)
    → MeetsSquaresOf (seen_box axis window) met → AreWhole met all shown → AreSound all shown
    → (layer : Layer) (i j : ℤ) → window.x0 ≤ℤ i → i <ℤ window.x1 → window.y0 ≤ℤ j → j <ℤ window.y1
    → seen_on axis (shown_on all) layer i j ≡ seen_on axis (shown_on shown) layer i j
shows_seen law V window met all shown meets whole sound layer i j l r low high =
    let s : Square = record { column = i; row = j } in
    shows_square law met all shown whole sound layer s (λ o h. is_met_by window met o s meets h
    (test_from_SquareIn window s (record { left = l; right = r; bottom = low; top = high })))
shows_seen law H window met all shown meets whole sound layer i j l r low high =
    let s : Square = record { column = j; row = i } in
    shows_square law met all shown whole sound layer s (λ o h. is_met_by (seen_box H window) met o s meets h
    (test_from_SquareIn (seen_box H window) s
    (record { left = low; right = high; bottom = l; top = r })))

-- entries with the layout's content in a core's window have it in the window of a core inside it too
pub things_inside : (l : Layout) (axis : Axis) (core outer : Box2) (things : List Thing)
    → IsInside core outer → AreThingsIn l axis outer things → AreThingsIn l axis core things
things_inside l axis core outer things inside are =
    let left = inside.left in let right = inside.right in
    let bottom = inside.bottom in let top = inside.top in record {
      shows = λ layer c i j f g low high.
          are.shows layer c i j (omega (arith, ints, left, f)) (omega (arith, ints, right, g))
          (omega (arith, ints, bottom, low)) (omega (arith, ints, top, high));
      boxed = are.boxed;
    }

pub things_within : SquaresLieInBoxes → (l : Layout) (axis : Axis) (core window : Box2)
    (things part : List Thing) → MeetsSquaresOf (seen_box axis (across core (l.distance + 1))) window
    → AreWhole window (things_items l.snapshot.now.shelf things) (things_items l.snapshot.now.shelf part)
    → AreSound (things_items l.snapshot.now.shelf things) (things_items l.snapshot.now.shelf part)
    → All (IsBoxed l.snapshot.now.shelf) part → AreThingsIn l axis core things
    → AreThingsIn l axis core part
things_within law l axis core window things part meets whole sound boxed are = record {
  shows = λ layer c i j f g low high.
      are.shows layer c i j f g low high
      ∙ shows_seen law axis (across core (l.distance + 1)) window
      (things_items l.snapshot.now.shelf things) (things_items l.snapshot.now.shelf part) meets whole
      sound layer i j f g low high;
  boxed = boxed;
}

-- ---- layers

is_on : (layers : List Layer) (layer : Layer) (e : Element) → Contains layers layer
    → layer_of e ≡ Some layer → IsOn layers e
is_on layers layer (Boundary b) c h = subst (Contains layers) (let same : b.layer ≡ layer = cc in sym same) c
is_on layers layer (Path p) c h = subst (Contains layers) (let same : p.layer ≡ layer = cc in sym same) c
is_on layers layer (Reference r) c h = absurd cc

layer_shows : (layers : List Layer) (all shown : List Item)
    → ((i : Item) → Contains all i → IsOn layers i.element → Contains shown i) → AreSound all shown
    → (layer : Layer) → Contains layers layer → (i j : ℤ)
    → shown_on all layer i j ≡ shown_on shown layer i j
layer_shows layers all shown kept sound layer c i j = same_tests _ _
    (λ e. let p = (tests_tell all layer).shown i j e in
    let item = p.1.0 in
    (tests_tell shown layer).all i j p.0
    (item, kept item p.1.1 (is_on layers layer item.element c p.1.2.on_layer), p.1.2))
    (λ e. let p = (tests_tell shown layer).shown i j e in
    (tests_tell all layer).all i j p.0 (p.1.0, sound p.1.0 p.1.1, p.1.2))

layer_seen : (axis : Axis) (layers : List Layer) (all shown : List Item)
    → ((i : Item) → Contains all i → IsOn layers i.element → Contains shown i) → AreSound all shown
    → (layer : Layer) → Contains layers layer → (i j : ℤ)
    → seen_on axis (shown_on all) layer i j ≡ seen_on axis (shown_on shown) layer i j
layer_seen V layers all shown kept sound layer c i j = layer_shows layers all shown kept sound layer c i j
layer_seen H layers all shown kept sound layer c i j = layer_shows layers all shown kept sound layer c j i

pub things_on : (l : Layout) (axis : Axis) (core : Box2) (things part : List Thing)
    → ((i : Item) → Contains (things_items l.snapshot.now.shelf things) i → IsOn l.layers.now i.element
    → Contains (things_items l.snapshot.now.shelf part) i)
    → AreSound (things_items l.snapshot.now.shelf things) (things_items l.snapshot.now.shelf part)
    → (All (IsBoxed l.snapshot.now.shelf) things → All (IsBoxed l.snapshot.now.shelf) part)
    → AreThingsIn l axis core things → AreThingsIn l axis core part
things_on l axis core things part kept sound boxed are = record {
  shows = λ layer c i j f g low high.
      are.shows layer c i j f g low high
      ∙ layer_seen axis l.layers.now (things_items l.snapshot.now.shelf things)
      (things_items l.snapshot.now.shelf part) kept sound layer c i j;
  boxed = boxed are.boxed;
}

-- ---- displaced

items_moved : (axis : Axis) (d : Point) (first second : List Item) → second ≡ map (moved d) first
    → AreSquaresMoved (seen_way axis d) (seen_on axis (shown_on first)) (seen_on axis (shown_on second))
items_moved V d first second e layer i j =
    ap (λ (items : List Item). shown_on items layer (i +ℤ d.x) (j +ℤ d.y)) e
    ∙ moved_shown d first layer i j (i +ℤ d.x) (j +ℤ d.y) refl refl
items_moved H d first second e layer i j =
    ap (λ (items : List Item). shown_on items layer (j +ℤ d.x) (i +ℤ d.y)) e
    ∙ moved_shown d first layer j i (j +ℤ d.x) (i +ℤ d.y) refl refl

pub things_moved : (l : Layout) (axis : Axis) (d : Point) (first second : List Thing)
    → things_items l.snapshot.now.shelf second ≡ map (moved d) (things_items l.snapshot.now.shelf first)
    → AreSquaresMoved (seen_way axis d) (seen_things l axis first) (seen_things l axis second)
things_moved l axis d first second e = items_moved axis d
    (things_items l.snapshot.now.shelf first) (things_items l.snapshot.now.shelf second) e

-- ---- columns

-- the entries of a batch have the layout's content in the window of each of its columns
pub part_things : (l : Layout) (c : Column) (listed : Listed) (core : Box2) → IsPart c listed.whole
    → HasThings l listed → core ≡ upright (seen_box c.axis l.extent) c
    → AreThingsIn l c.axis core listed.things
part_things l c listed core part has e =
    let whole = listed.whole in
    let wide = subst (λ (a : Axis). AreThingsIn l a (upright (seen_box a l.extent) whole) listed.things)
    (sym part.axis) has in
    subst (λ (b : Box2). AreThingsIn l c.axis b listed.things) (sym e)
    (things_inside l c.axis (upright (seen_box c.axis l.extent) c)
    (upright (seen_box c.axis l.extent) whole) listed.things
    (record { left = part.from; right = part.to; bottom = omega (arith, ints); top = omega (arith, ints) }) wide)

pub along_either : (l : Layout) (axis : Axis) (things : List Thing) → AreAllThings l things
    → AreThingsIn l axis (whole_core l axis) things
along_either l V things h = h.0
along_either l H things h = h.1
