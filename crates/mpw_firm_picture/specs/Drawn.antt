-- The content of a picture.
use Rattle.std.specs.Prelude.{◌≡◌, ◌≤ℤ◌, ◌↔◌, ℕ, ◌-◌, ◌^◌, true, List, length, map, All, None}
use Rattle.std.specs.List.{filter}
use Rattle.mpw_geom.specs.declared.plane.Box2.{Box2}
use Rattle.mpw_geom.specs.declared.plane.Layer.{Layer}
use Rattle.mpw_geom.specs.Plane.{Square, has_square, HasArea}
use Rattle.mpw_markers.specs.declared.marker.Marker.{Marker}
use Rattle.mpw_edges.specs.Pieces.{box_of}
use Rattle.mpw_tiles.specs.declared.listing.Rectangle.{Rectangle}
use Rattle.mpw_tiles.specs.Listing.{IsListed}
use Rattle.mpw_tiles.specs.Shown.{IsShown}
use Rattle.mpw_tiles.specs.Snapshots.{Snapshot, shown}
use Rattle.mpw_walk.specs.Window.{do_meet}
use Rattle.mpw_firm_picture.specs.declared.picture.Mark.{Mark}
use Rattle.mpw_firm_picture.specs.declared.picture.Picture.{Picture}
use Rattle.mpw_firm_picture.specs.declared.picture.View.{View}
use Rattle.mpw_firm_picture.specs.Density.{counts_of}
use Rattle.mpw_firm_picture.specs.Looks.{layers_of}

-- The rectangle has an area, and lies in the window.
pub record LiesIn (window : Box2) (rectangle : Rectangle) : Type 0 where
  pub some : HasArea rectangle.area
  pub left : window.x0 ≤ℤ rectangle.area.x0
  pub bottom : window.y0 ≤ℤ rectangle.area.y0
  pub right : rectangle.area.x1 ≤ℤ window.x1
  pub top : rectangle.area.y1 ≤ℤ window.y1

-- The rectangles lie in the window. For each layer and submission they have exactly the unit squares that the shapes of the
-- snapshot's roots have in the window.
pub record ShowShapes (s : Snapshot) (window : Box2) (rectangles : List Rectangle) : Type 0 where
  pub squares : (square : Square) (layer : Layer) (origin : ℕ) → has_square window square ≡ true
      → IsListed rectangles layer origin square ↔ IsShown (shown s) layer origin square
  pub inside : All (LiesIn window) rectangles

-- The markers whose closed boxes share a point with the window, in order.
abbrev pub mark_at : Marker → Mark
mark_at m = record { area = box_of m.key.piece; rule = m.key.rule }

abbrev pub marks_in : Box2 → List Marker → List Mark
marks_in window markers = filter (λ (m : Mark). do_meet m.area window) (map mark_at markers)

-- The picture of a snapshot and of markers: what lies in the view's window, the layers that are distinguished, how many markers lie in each
-- square if they are drawn as a density, the selected marker, and the most markers of a rule that are drawn.
pub record IsDrawn (s : Snapshot) (markers : List Marker) (view : View) (p : Picture) : Type 0 where
  pub window_is : p.window ≡ view.window
  pub shapes : ShowShapes s view.window p.rectangles.items
  pub layers_are : p.layers.items ≡ layers_of s.deck.rules p.rectangles.items
  pub marks_are : p.marks.items ≡ marks_in view.window markers
  pub counts_are : p.counts.items
      ≡ counts_of view.window view.limit (length s.deck.rules) (marks_in view.window markers)
  pub wanted_is : p.wanted ≡ view.wanted
  pub limit_is : p.limit ≡ view.limit

-- The boxes that share a point with the window, in order.
abbrev pub boxes_in : Box2 → List Box2 → List Box2
boxes_in window boxes = filter (λ (b : Box2). do_meet b window) boxes

-- The same with elements that are left out for their faults: so many, of which these boxes are known.
pub record IsDrawnWith (s : Snapshot) (markers : List Marker) (areas : List Box2) (all : ℕ)
    (view : View) (p : Picture) : Type 0 where
  pub drawn : IsDrawn s markers view p
  pub boxes : p.left_out.items ≡ boxes_in view.window areas
  pub whole : p.left_all ≡ all

-- the view of a window in which no marker is selected, and all are drawn
abbrev pub plain_view : Box2 → View
plain_view window = record { window = window; wanted = None; limit = 2 ^ 64 - 1 }

-- The picture of a snapshot and of all markers in a window.
abbrev pub IsPicture : Snapshot → List Marker → Box2 → Picture → Type 0
IsPicture s markers window p = IsDrawn s markers (plain_view window) p
