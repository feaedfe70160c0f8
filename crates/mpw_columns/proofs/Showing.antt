-- Rectangles that are added to a list, by their squares as seen.
use Rattle.std.proofs.Common.{◌≡◌, ℕ, ◌+◌, ◌<◌, ◌≤◌, List, [], ◌∷◌, ◌++◌, length, get_or, take, ◌⊎◌, inl, inr, refl, sym, subst, ap, ◌∙◌}
use Rattle.std.specs.Prelude.{◌↔◌}
use Rattle.std.proofs.lemmas.List.{take_all}
use Rattle.mpw_region.specs.Exchange.{exchanged_box}
use Rattle.mpw_region.proofs.Held.{Held-nil, Held-push_left, Held-push_new, Held-push_cases}
use Rattle.mpw_geom.specs.declared.plane.Box2.{Box2}
use Rattle.mpw_geom.specs.declared.plane.Layer.{Layer}
use Rattle.mpw_geom.specs.Plane.{Square, has_square, any_has_square}
use Rattle.mpw_shapes.specs.Element.{element_has}
use Rattle.mpw_geom.proofs.Tests.{same_squares}
use Rattle.mpw_edges.specs.declared.run.Axis.{Axis}
use Rattle.mpw_edges.specs.declared.run.Axis.TheVariants.{V, H}
use Rattle.mpw_hier.specs.Items.{Item}
use Rattle.mpw_tiles.specs.declared.listing.Rectangle.{Rectangle}
use Rattle.mpw_tiles.specs.declared.place.PlacedShape.{PlacedShape}
use Rattle.mpw_tiles.specs.Listing.{IsListed, HasSquareOf}
use Rattle.mpw_tiles.specs.Internal.Listing.{HasPlacedSquare}
use Rattle.mpw_tiles.specs.Placed.{IsShapeOf, IsRectangleOf}
use Rattle.mpw_tiles.specs.Shown.{ShowsSquare}
use Rattle.mpw_tiles.proofs.Added.{none_more, next_more, same_more}
use Rattle.mpw_tiles.proofs.Showing.{no_boxes, boxes_at, boxes_show, shown_more}
use Rattle.mpw_columns_keys.specs.Columns.{seen_box}
use Rattle.mpw_columns.specs.Seen.{seen_square}
use Rattle.mpw_columns.specs.Internal.Listed.{seen_rectangle, AddsSeen, AddsShown, ShowSeen}

-- ---- a box as seen

pub seen_has : (axis : Axis) (b : Box2) (s : Square)
    → has_square (seen_box axis b) (seen_square axis s) ≡ has_square b s
seen_has V b s = refl
seen_has H b s = same_squares (exchanged_box b) b (seen_square H s) s
    (λ h. record { left = h.bottom; right = h.top; bottom = h.left; top = h.right })
    (λ h. record { left = h.bottom; right = h.top; bottom = h.left; top = h.right })

seen_of : (axis : Axis) (r : Rectangle) (layer : Layer) (origin : ℕ) (s : Square)
    → HasSquareOf (seen_rectangle axis r) layer origin (seen_square axis s)
    ↔ HasSquareOf r layer origin s
seen_of axis r layer origin s = (
  λ h. record {
    on_layer = h.on_layer;
    of_origin = h.of_origin;
    has = sym (seen_has axis r.area s)
        ∙ h.has;
  },
  λ h. record {
    on_layer = h.on_layer;
    of_origin = h.of_origin;
    has = seen_has axis r.area s
        ∙ h.has;
  },
)

-- a rectangle is added
push_seen : (axis : Axis) (old new : List Rectangle) (x r : Rectangle)
    → new ≡ old ++ x ∷ [] → x ≡ seen_rectangle axis r
    → AddsSeen axis old new (HasSquareOf r)
push_seen axis old new x r e f layer origin s plane =
    subst (λ (xs : List Rectangle). IsListed xs layer origin (seen_square axis s)
    ↔ (IsListed old layer origin (seen_square axis s) ⊎ HasSquareOf r layer origin s))
    (ap (λ (y : Rectangle). old ++ y ∷ []) (sym f) ∙ sym e) (
      λ l. elim (Held-push_cases (λ (q : Rectangle). HasSquareOf q layer origin (seen_square axis s))
          old (seen_rectangle axis r) l)
          [ inl o ↦ inl o | inr h ↦ inr ((seen_of axis r layer origin s).0 h) ],
      λ l. elim l [
        | inl o ↦ Held-push_left (λ (q : Rectangle). HasSquareOf q layer origin
            (seen_square axis s)) old (seen_rectangle axis r) o
        | inr h ↦ Held-push_new (λ (q : Rectangle). HasSquareOf q layer origin
            (seen_square axis s)) old (seen_rectangle axis r) ((seen_of axis r layer origin s).1 h)
      ],
    )

-- ---- the boxes of a shape

pub no_boxes_seen : (axis : Axis) (old : List Rectangle) (shape : PlacedShape)
    → AddsSeen axis old old (HasPlacedSquare [] shape)
no_boxes_seen axis old shape layer origin s plane = none_more (no_boxes shape layer origin s)

pub box_seen : (axis : Axis) (boxes : List Box2) (n : ℕ) (d : Box2) (shape : PlacedShape)
    (x r : Rectangle) (old mid new : List Rectangle) → n < length boxes
    → IsRectangleOf shape (get_or boxes n d) r → AddsSeen axis old mid
    (HasPlacedSquare (take n boxes) shape)
    → new ≡ mid ++ x ∷ [] → x ≡ seen_rectangle axis r
    → AddsSeen axis old new (HasPlacedSquare (take (n + 1) boxes) shape)
box_seen axis boxes n d shape x r old mid new lt is h e f layer origin s plane =
    next_more (boxes_at boxes n d shape r lt is layer origin s plane) (h layer origin s plane)
    (push_seen axis mid new x r e f layer origin s plane)

pub all_boxes_seen : (axis : Axis) (boxes : List Box2) (n : ℕ) (shape : PlacedShape)
    (old new : List Rectangle) → length boxes ≤ n
    → AddsSeen axis old new (HasPlacedSquare (take n boxes) shape)
    → AddsSeen axis old new (HasPlacedSquare boxes shape)
all_boxes_seen axis boxes n shape old new le h =
    subst (λ (bs : List Box2). AddsSeen axis old new (HasPlacedSquare bs shape))
    (take_all n boxes le) h

-- ---- shapes

pub shape_shown : (layers : List Layer) (axis : Axis) (old new : List Rectangle) (item : Item)
    (seen boxes : List Box2) (shape : PlacedShape) → IsShapeOf item shape
    → seen ≡ boxes → ((s : Square) → any_has_square boxes s ≡ element_has item.element s)
    → AddsSeen axis old new (HasPlacedSquare seen shape)
    → AddsShown layers axis old new (ShowsSquare item)
shape_shown layers axis old new item seen boxes shape is e squares h layer origin s c plane =
    same_more (boxes_show item boxes shape is squares layer origin s)
    (subst (λ (bs : List Box2). AddsSeen axis old new (HasPlacedSquare bs shape)) e h layer origin
    s plane)

-- ---- lists of shapes

pub none_listed : (layers : List Layer) (axis : Axis) → ShowSeen layers axis [] []
none_listed layers axis layer origin s c plane = (
  λ l. absurd (Held-nil (λ (r : Rectangle). HasSquareOf r layer origin (seen_square axis s)) l),
  λ l. absurd (Held-nil (λ (i : Item). ShowsSquare i layer origin s) l),
)

pub item_listed : (layers : List Layer) (axis : Axis) (done : List Item) (item : Item)
    (old new : List Rectangle) → ShowSeen layers axis done old
    → AddsShown layers axis old new (ShowsSquare item)
    → ShowSeen layers axis (done ++ item ∷ []) new
item_listed layers axis done item old new h f layer origin s c plane =
    let shown = h layer origin s c plane in
    let added = f layer origin s c plane in
    let more = shown_more done item layer origin s in (
      λ l. more.0 (elim (added.0 l) [ inl o ↦ inl (shown.0 o) | inr q ↦ inr q ]),
      λ l. added.1 (elim (more.1 l) [ inl o ↦ inl (shown.1 o) | inr q ↦ inr q ]),
    )
