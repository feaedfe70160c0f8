-- Tests of equality by value, from numbers up to snapshots and jobs of tiles. They compute, and each is
-- true exactly if its two values are equal (the law `TestsAreExact`).
use Rattle.std.specs.Prelude.{ℕ, ◌==◌, ◌&&◌, Bool, false, List}
use Rattle.std.specs.Ordering.{int_eq}
use Rattle.std.specs.Cmp.Lexicographic.{pointwise}
use Rattle.mpw_geom.specs.Names.{name_eq}
use Rattle.mpw_geom.specs.declared.plane.Box2.{Box2}
use Rattle.mpw_geom.specs.Layers.{same_layer}
use Rattle.mpw_geom.specs.declared.plane.Orient.{Orient}
use Rattle.mpw_geom.specs.declared.plane.Orient.TheVariants.{R0, R90, R180, R270, M0, M90, M180, M270}
use Rattle.mpw_geom.specs.declared.plane.Point.{Point}
use Rattle.mpw_geom.specs.declared.placing.Placing.{Placing}
use Rattle.mpw_structures.specs.declared.element.Boundary.{Boundary as BoundaryParts}
use Rattle.mpw_structures.specs.declared.element.Path.{Path as PathParts}
use Rattle.mpw_structures.specs.declared.element.Reference.{Reference as ReferenceParts}
use Rattle.mpw_structures.specs.declared.element.Element.{Element}
use Rattle.mpw_structures.specs.declared.element.Element.TheVariants.{Boundary, Path, Reference}
use Rattle.mpw_structures.specs.declared.structures.Structure.{Structure}
use Rattle.mpw_deck.specs.Decks.{Deck}
use Rattle.mpw_deck.specs.declared.rule.Check.{Check}
use Rattle.mpw_deck.specs.declared.rule.Check.TheVariants.{Width, Space, Separation, Enclosing}
use Rattle.mpw_deck.specs.declared.rule.Rule.{Rule}
use Rattle.mpw_hier.specs.declared.bindings.Binding.{Binding}
use Rattle.mpw_hier.specs.declared.submission.Submission.{Submission}
use Rattle.mpw_walk.specs.declared.root.Root.{Root}
use Rattle.mpw_tiles.specs.declared.listing.Rectangle.{Rectangle}
use Rattle.mpw_tiles.specs.Snapshots.{Snapshot}
use Rattle.mpw_job.specs.Answers.{TileJob}

-- ---- the plane

abbrev pub same_point : Point → Point → Bool
same_point a b = int_eq a.x b.x && int_eq a.y b.y

abbrev pub same_box : Box2 → Box2 → Bool
same_box a b = (int_eq a.x0 b.x0 && int_eq a.y0 b.y0) && (int_eq a.x1 b.x1 && int_eq a.y1 b.y1)

-- An orientation by its index among the eight.
abbrev pub orient_number : Orient → ℕ
orient_number R0 = 0
orient_number R90 = 1
orient_number R180 = 2
orient_number R270 = 3
orient_number M0 = 4
orient_number M90 = 5
orient_number M180 = 6
orient_number M270 = 7

abbrev pub same_orient : Orient → Orient → Bool
same_orient a b = orient_number a == orient_number b

abbrev pub same_placing : Placing → Placing → Bool
same_placing a b = same_orient a.orient b.orient && same_point a.by b.by

-- ---- libraries

abbrev pub same_points : List Point → List Point → Bool
same_points = pointwise same_point

abbrev pub same_boundary : BoundaryParts → BoundaryParts → Bool
same_boundary a b = same_layer a.layer b.layer && same_points a.points b.points

abbrev pub same_ends : PathParts → PathParts → Bool
same_ends a b = int_eq a.width b.width && (int_eq a.begin b.begin && int_eq a.end b.end)

abbrev pub same_path : PathParts → PathParts → Bool
same_path a b = same_layer a.layer b.layer && (same_ends a b && same_points a.points b.points)

abbrev pub same_array : ReferenceParts → ReferenceParts → Bool
same_array a b =
    ((a.columns == b.columns) && (a.rows == b.rows))
    && (same_point a.column_step b.column_step && same_point a.row_step b.row_step)

abbrev pub same_reference : ReferenceParts → ReferenceParts → Bool
same_reference a b =
    (name_eq a.name b.name && (same_orient a.orient b.orient && same_point a.origin b.origin))
    && same_array a b

abbrev pub same_element : Element → Element → Bool
same_element (Boundary a) (Boundary b) = same_boundary a b
same_element (Boundary a) (Path b) = false
same_element (Boundary a) (Reference b) = false
same_element (Path a) (Boundary b) = false
same_element (Path a) (Path b) = same_path a b
same_element (Path a) (Reference b) = false
same_element (Reference a) (Boundary b) = false
same_element (Reference a) (Path b) = false
same_element (Reference a) (Reference b) = same_reference a b

abbrev pub same_structure : Structure → Structure → Bool
same_structure a b = name_eq a.name b.name && pointwise same_element a.elements b.elements

abbrev pub same_library : List Structure → List Structure → Bool
same_library = pointwise same_structure

-- ---- submissions, and their places

abbrev pub same_binding : Binding → Binding → Bool
same_binding a b = name_eq a.name b.name && (a.submission == b.submission)

abbrev pub same_version : Submission → Submission → Bool
same_version a b =
    (name_eq a.cell b.cell && (a.version == b.version))
    && (name_eq a.submitter b.submitter && name_eq a.top b.top)

abbrev pub same_submission : Submission → Submission → Bool
same_submission a b =
    same_version a b && (same_library a.library b.library && pointwise same_binding a.bound b.bound)

abbrev pub same_root : Root → Root → Bool
same_root a b = (a.submission == b.submission) && same_placing a.placing b.placing

-- ---- decks

abbrev pub same_check : Check → Check → Bool
same_check (Width a) (Width b) = same_layer a b
same_check (Width a) (Space b) = false
same_check (Width a) (Separation b d) = false
same_check (Width a) (Enclosing b d) = false
same_check (Space a) (Width b) = false
same_check (Space a) (Space b) = same_layer a b
same_check (Space a) (Separation b d) = false
same_check (Space a) (Enclosing b d) = false
same_check (Separation a c) (Width b) = false
same_check (Separation a c) (Space b) = false
same_check (Separation a c) (Separation b d) = same_layer a b && same_layer c d
same_check (Separation a c) (Enclosing b d) = false
same_check (Enclosing a c) (Width b) = false
same_check (Enclosing a c) (Space b) = false
same_check (Enclosing a c) (Separation b d) = false
same_check (Enclosing a c) (Enclosing b d) = same_layer a b && same_layer c d

abbrev pub same_rule : Rule → Rule → Bool
same_rule a b =
    name_eq a.name b.name && (same_check a.check b.check && (a.distance == b.distance))

abbrev pub same_rules : List Rule → List Rule → Bool
same_rules = pointwise same_rule

abbrev pub same_deck : Deck → Deck → Bool
same_deck a b = (a.tile == b.tile) && same_rules a.rules b.rules

-- ---- what a run checks, and the job of a tile

unfoldable pub same_snapshot : Snapshot → Snapshot → Bool
same_snapshot a b =
    same_deck a.deck b.deck
    && (pointwise same_root a.roots b.roots && pointwise same_submission a.shelf b.shelf)

abbrev pub same_rectangle : Rectangle → Rectangle → Bool
same_rectangle a b =
    same_box a.area b.area && (same_layer a.layer b.layer && (a.origin == b.origin))

abbrev pub same_place : TileJob → TileJob → Bool
same_place a b = (a.run == b.run) && ((a.tile == b.tile) && same_box a.core b.core)

unfoldable pub same_tile_job : TileJob → TileJob → Bool
same_tile_job a b =
    same_place a b && (pointwise same_rectangle a.window b.window && same_rules a.rules b.rules)
