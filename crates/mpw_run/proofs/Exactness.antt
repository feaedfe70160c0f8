-- The tests of equality are exact.
use Rattle.std.proofs.Common.{◌≡◌, Bool, false, ◌&&◌, ◌==◌, ap, Decides}
use Rattle.std.specs.Ordering.{int_eq}
use Rattle.std.specs.Cmp.Lexicographic.{pointwise}
use Rattle.std.proofs.lemmas.Bool.{false≢true}
use Rattle.std.proofs.lemmas.Bool.Decides.{Decides-eqb, Decides-int_eq}
use Rattle.mpw_geom.specs.Names.{name_eq}
use Rattle.mpw_geom.specs.declared.plane.Layer.{Layer}
use Rattle.mpw_structures.specs.declared.element.Boundary.{Boundary as BoundaryParts}
use Rattle.mpw_structures.specs.declared.element.Path.{Path as PathParts}
use Rattle.mpw_structures.specs.declared.element.Reference.{Reference as ReferenceParts}
use Rattle.mpw_structures.specs.declared.element.Element.TheVariants.{Boundary, Path, Reference}
use Rattle.mpw_structures.specs.declared.structures.Structure.{Structure}
use Rattle.mpw_deck.specs.Decks.{Deck}
use Rattle.mpw_deck.specs.declared.rule.Check.{Check}
use Rattle.mpw_deck.specs.declared.rule.Check.TheVariants.{Width, Space, Separation, Enclosing}
use Rattle.mpw_deck.specs.declared.rule.Rule.{Rule}
use Rattle.mpw_hier.specs.declared.bindings.Binding.{Binding}
use Rattle.mpw_hier.specs.declared.submission.Submission.{Submission}
use Rattle.mpw_walk.specs.declared.root.Root.{Root}
use Rattle.mpw_tiles.specs.declared.listing.Rectangle.{Rectangle}
use Rattle.mpw_tiles.specs.Snapshots.{Snapshot}
use Rattle.mpw_job.specs.Answers.{TileJob}
use Rattle.mpw_geom.specs.Layers.{same_layer}
use Rattle.mpw_run.specs.Same.{same_point, same_box, same_orient, same_placing, same_points, same_boundary, same_ends, same_path, same_array, same_reference, same_element, same_structure}
use Rattle.mpw_run.specs.Same.{same_library, same_binding, same_version, same_submission, same_root, same_check, same_rule, same_rules, same_deck, same_snapshot, same_rectangle, same_place, same_tile_job}
use Rattle.mpw_run.specs.Laws.{TestsAreExact}
use Rattle.mpw_run.proofs.ExactPlane.{Exact, names, lists, one, two, three, four, points, boxes, layers, orients, placings}

-- ---- libraries

boundaries : Exact same_boundary
boundaries a b =
    two {X = a ≡ b} (same_layer a.layer b.layer) (same_points a.points b.points)
    (layers a.layer b.layer) (lists same_point points a.points b.points)
    (λ e f. λ i. record { layer = e i; points = f i })
    (λ e. (ap (λ (p : BoundaryParts). p.layer) e, ap (λ (p : BoundaryParts). p.points) e))

-- the width and the ends of a path
abbrev SameEnds : PathParts → PathParts → Type 0
SameEnds a b = (a.width ≡ b.width) × (a.begin ≡ b.begin) × (a.end ≡ b.end)

ends : (a b : PathParts) → Decides (same_ends a b) (SameEnds a b)
ends a b =
    three {X = SameEnds a b} (int_eq a.width b.width) (int_eq a.begin b.begin) (int_eq a.end b.end)
    (Decides-int_eq a.width b.width) (Decides-int_eq a.begin b.begin) (Decides-int_eq a.end b.end)
    (λ e f g. (e, f, g))
    (λ h. h)

paths : Exact same_path
paths a b =
    three {X = a ≡ b} (same_layer a.layer b.layer) (same_ends a b) (same_points a.points b.points)
    (layers a.layer b.layer) (ends a b) (lists same_point points a.points b.points)
    (λ e f g. λ i. record { layer = e i; width = f.0 i; begin = f.1 i; end = f.2 i; points = g i })
    (λ e. (
      ap (λ (p : PathParts). p.layer) e,
      (
        ap (λ (p : PathParts). p.width) e,
        ap (λ (p : PathParts). p.begin) e,
        ap (λ (p : PathParts). p.end) e,
      ),
      ap (λ (p : PathParts). p.points) e,
    ))

-- the columns and rows of a reference, and their steps
abbrev SameArray : ReferenceParts → ReferenceParts → Type 0
SameArray a b = (a.columns ≡ b.columns) × (a.rows ≡ b.rows) × (a.column_step ≡ b.column_step)
    × (a.row_step ≡ b.row_step)

arrays : (a b : ReferenceParts) → Decides (same_array a b) (SameArray a b)
arrays a b =
    four {X = SameArray a b} (a.columns == b.columns) (a.rows == b.rows)
    (same_point a.column_step b.column_step) (same_point a.row_step b.row_step)
    (Decides-eqb a.columns b.columns) (Decides-eqb a.rows b.rows)
    (points a.column_step b.column_step) (points a.row_step b.row_step)
    (λ e f g h. (e, f, g, h))
    (λ h. h)

abbrev SameStart : ReferenceParts → ReferenceParts → Type 0
SameStart a b = (a.name ≡ b.name) × (a.orient ≡ b.orient) × (a.origin ≡ b.origin)

starts : (a b : ReferenceParts) → Decides
    (name_eq a.name b.name && (same_orient a.orient b.orient && same_point a.origin b.origin))
    (SameStart a b)
starts a b =
    three {X = SameStart a b} (name_eq a.name b.name) (same_orient a.orient b.orient)
    (same_point a.origin b.origin)
    (names a.name b.name) (orients a.orient b.orient) (points a.origin b.origin)
    (λ e f g. (e, f, g))
    (λ h. h)

references : Exact same_reference
references a b =
    two {X = a ≡ b} (name_eq a.name b.name
    && (same_orient a.orient b.orient && same_point a.origin b.origin)) (same_array a b)
    (starts a b) (arrays a b)
    (λ e f. λ i. record {
      name = e.0 i;
      orient = e.1 i;
      origin = e.2 i;
      columns = f.0 i;
      rows = f.1 i;
      column_step = f.2 i;
      row_step = f.3 i;
    })
    (λ e. (
      (
        ap (λ (p : ReferenceParts). p.name) e,
        ap (λ (p : ReferenceParts). p.orient) e,
        ap (λ (p : ReferenceParts). p.origin) e,
      ),
      (
        ap (λ (p : ReferenceParts). p.columns) e,
        ap (λ (p : ReferenceParts). p.rows) e,
        ap (λ (p : ReferenceParts). p.column_step) e,
        ap (λ (p : ReferenceParts). p.row_step) e,
      ),
    ))

-- values of different cases, and of one case
apart : {X : Type 0} (a b : X) → (a ≡ b → ⊥) → Decides false (a ≡ b)
apart a b ne = (λ e. absurd (false≢true e), λ e. absurd (ne e))

alike : {P X : Type 0} (make : P → X) (test : Bool) (a b : P) → Decides test (a ≡ b)
    → (make a ≡ make b → a ≡ b) → Decides test (make a ≡ make b)
alike make test a b decides parts = one test decides (ap make) parts

elements : Exact same_element
elements (Boundary a) (Boundary b) =
    alike Boundary (same_boundary a b) a b (boundaries a b) (λ e. cc)
elements (Boundary a) (Path b) = apart (Boundary a) (Path b) (λ e. cc)
elements (Boundary a) (Reference b) = apart (Boundary a) (Reference b) (λ e. cc)
elements (Path a) (Boundary b) = apart (Path a) (Boundary b) (λ e. cc)
elements (Path a) (Path b) = alike Path (same_path a b) a b (paths a b) (λ e. cc)
elements (Path a) (Reference b) = apart (Path a) (Reference b) (λ e. cc)
elements (Reference a) (Boundary b) = apart (Reference a) (Boundary b) (λ e. cc)
elements (Reference a) (Path b) = apart (Reference a) (Path b) (λ e. cc)
elements (Reference a) (Reference b) =
    alike Reference (same_reference a b) a b (references a b) (λ e. cc)

structures : Exact same_structure
structures a b =
    two {X = a ≡ b} (name_eq a.name b.name) (pointwise same_element a.elements b.elements)
    (names a.name b.name) (lists same_element elements a.elements b.elements)
    (λ e f. λ i. record { name = e i; elements = f i })
    (λ e. (ap (λ (p : Structure). p.name) e, ap (λ (p : Structure). p.elements) e))

-- ---- submissions, and their places

bindings : Exact same_binding
bindings a b =
    two {X = a ≡ b} (name_eq a.name b.name) (a.submission == b.submission)
    (names a.name b.name) (Decides-eqb a.submission b.submission)
    (λ e f. λ i. record { name = e i; submission = f i })
    (λ e. (ap (λ (p : Binding). p.name) e, ap (λ (p : Binding). p.submission) e))

abbrev SameVersion : Submission → Submission → Type 0
SameVersion a b =
    (a.cell ≡ b.cell) × (a.version ≡ b.version) × (a.submitter ≡ b.submitter) × (a.top ≡ b.top)

versions : (a b : Submission) → Decides (same_version a b) (SameVersion a b)
versions a b =
    four {X = SameVersion a b} (name_eq a.cell b.cell) (a.version == b.version)
    (name_eq a.submitter b.submitter) (name_eq a.top b.top)
    (names a.cell b.cell) (Decides-eqb a.version b.version) (names a.submitter b.submitter)
    (names a.top b.top)
    (λ e f g h. (e, f, g, h))
    (λ h. h)

submissions : Exact same_submission
submissions a b =
    three {X = a ≡ b} (same_version a b) (same_library a.library b.library)
    (pointwise same_binding a.bound b.bound)
    (versions a b) (lists same_structure structures a.library b.library)
    (lists same_binding bindings a.bound b.bound)
    (λ e f g. λ i. record {
      cell = e.0 i;
      version = e.1 i;
      submitter = e.2 i;
      library = f i;
      top = e.3 i;
      bound = g i;
    })
    (λ e. (
      (
        ap (λ (s : Submission). s.cell) e,
        ap (λ (s : Submission). s.version) e,
        ap (λ (s : Submission). s.submitter) e,
        ap (λ (s : Submission). s.top) e,
      ),
      ap (λ (s : Submission). s.library) e,
      ap (λ (s : Submission). s.bound) e,
    ))

roots : Exact same_root
roots a b =
    two {X = a ≡ b} (a.submission == b.submission) (same_placing a.placing b.placing)
    (Decides-eqb a.submission b.submission) (placings a.placing b.placing)
    (λ e f. λ i. record { submission = e i; placing = f i })
    (λ e. (ap (λ (r : Root). r.submission) e, ap (λ (r : Root). r.placing) e))

-- ---- decks

-- a case of two layers
paired : (make : Layer → Layer → Check) (a b c d : Layer)
    → (make a c ≡ make b d → (a ≡ b) × (c ≡ d))
    → Decides (same_layer a b && same_layer c d) (make a c ≡ make b d)
paired make a b c d = two {X = make a c ≡ make b d} (same_layer a b) (same_layer c d) (layers a b)
    (layers c d) (λ e f. λ i. make (e i) (f i))

checks : Exact same_check
checks (Width a) (Width b) = alike Width (same_layer a b) a b (layers a b) (λ e. cc)
checks (Width a) (Space b) = apart (Width a) (Space b) (λ e. cc)
checks (Width a) (Separation b d) = apart (Width a) (Separation b d) (λ e. cc)
checks (Width a) (Enclosing b d) = apart (Width a) (Enclosing b d) (λ e. cc)
checks (Space a) (Width b) = apart (Space a) (Width b) (λ e. cc)
checks (Space a) (Space b) = alike Space (same_layer a b) a b (layers a b) (λ e. cc)
checks (Space a) (Separation b d) = apart (Space a) (Separation b d) (λ e. cc)
checks (Space a) (Enclosing b d) = apart (Space a) (Enclosing b d) (λ e. cc)
checks (Separation a c) (Width b) = apart (Separation a c) (Width b) (λ e. cc)
checks (Separation a c) (Space b) = apart (Separation a c) (Space b) (λ e. cc)
checks (Separation a c) (Separation b d) = paired Separation a b c d (λ e. ((cc), (cc)))
checks (Separation a c) (Enclosing b d) = apart (Separation a c) (Enclosing b d) (λ e. cc)
checks (Enclosing a c) (Width b) = apart (Enclosing a c) (Width b) (λ e. cc)
checks (Enclosing a c) (Space b) = apart (Enclosing a c) (Space b) (λ e. cc)
checks (Enclosing a c) (Separation b d) = apart (Enclosing a c) (Separation b d) (λ e. cc)
checks (Enclosing a c) (Enclosing b d) = paired Enclosing a b c d (λ e. ((cc), (cc)))

rules_of : Exact same_rule
rules_of a b =
    three {X = a ≡ b} (name_eq a.name b.name) (same_check a.check b.check)
    (a.distance == b.distance)
    (names a.name b.name) (checks a.check b.check) (Decides-eqb a.distance b.distance)
    (λ e f g. λ i. record { name = e i; check = f i; distance = g i })
    (λ e. (
      ap (λ (r : Rule). r.name) e,
      ap (λ (r : Rule). r.check) e,
      ap (λ (r : Rule). r.distance)
          e,
    ))

decks : Exact same_deck
decks a b =
    two {X = a ≡ b} (a.tile == b.tile) (same_rules a.rules b.rules)
    (Decides-eqb a.tile b.tile) (lists same_rule rules_of a.rules b.rules)
    (λ e f. λ i. record { tile = e i; rules = f i })
    (λ e. (ap (λ (d : Deck). d.tile) e, ap (λ (d : Deck). d.rules) e))

-- ---- what a run checks, and the job of a tile

pub snapshots : (a b : Snapshot) → Decides (same_snapshot a b) (a ≡ b)
unfolding same_snapshot
snapshots a b =
    three {X = a ≡ b} (same_deck a.deck b.deck) (pointwise same_root a.roots b.roots)
    (pointwise same_submission a.shelf b.shelf)
    (decks a.deck b.deck) (lists same_root roots a.roots b.roots)
    (lists same_submission submissions a.shelf b.shelf)
    (λ e f g. λ i. record { deck = e i; roots = f i; shelf = g i })
    (λ e. (
      ap (λ (s : Snapshot). s.deck) e,
      ap (λ (s : Snapshot). s.roots) e,
      ap (λ (s : Snapshot). s.shelf) e,
    ))

rectangles : Exact same_rectangle
rectangles a b =
    three {X = a ≡ b} (same_box a.area b.area) (same_layer a.layer b.layer) (a.origin == b.origin)
    (boxes a.area b.area) (layers a.layer b.layer) (Decides-eqb a.origin b.origin)
    (λ e f g. λ i. record { area = e i; layer = f i; origin = g i })
    (λ e. (
      ap (λ (r : Rectangle). r.area) e,
      ap (λ (r : Rectangle). r.layer) e,
      ap (λ (r : Rectangle). r.origin) e,
    ))

abbrev SamePlace : TileJob → TileJob → Type 0
SamePlace a b = (a.run ≡ b.run) × (a.tile ≡ b.tile) × (a.core ≡ b.core)

places : (a b : TileJob) → Decides (same_place a b) (SamePlace a b)
places a b =
    three {X = SamePlace a b} (a.run == b.run) (a.tile == b.tile) (same_box a.core b.core)
    (Decides-eqb a.run b.run) (Decides-eqb a.tile b.tile) (boxes a.core b.core)
    (λ e f g. (e, f, g))
    (λ h. h)

pub tile_jobs : (a b : TileJob) → Decides (same_tile_job a b) (a ≡ b)
unfolding same_tile_job
tile_jobs a b =
    three {X = a ≡ b} (same_place a b) (pointwise same_rectangle a.window b.window)
    (same_rules a.rules b.rules)
    (places a b) (lists same_rectangle rectangles a.window b.window)
    (lists same_rule rules_of a.rules b.rules)
    (λ e f g. λ i. record { run = e.0 i; tile = e.1 i; core = e.2 i; window = f i; rules = g i })
    (λ e. (
      (ap (λ (t : TileJob). t.run) e, ap (λ (t : TileJob). t.tile) e, ap (λ (t : TileJob). t.core) e),
      ap (λ (t : TileJob). t.window) e,
      ap (λ (t : TileJob). t.rules) e,
    ))

pub exact : TestsAreExact
exact = record { snapshots = snapshots; tile_jobs = tile_jobs }
