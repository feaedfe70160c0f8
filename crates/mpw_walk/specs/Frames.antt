-- A structure that a walk has entered, and its remaining turns.
use Rattle.std.specs.Prelude.{◌≡◌, ◌≤ℤ◌, ◌<◌, ◌^◌, ◌+◌, ◌-◌, ℕ, ℤ, pos, List, [], ◌∷◌, ◌++◌, map, drop, take, slice_get, Option, Some, None, neg_ℤ}
use Rattle.std.specs.List.{flat_map, range_with_len}
use Rattle.mpw_geom.specs.declared.plane.Point.{Point}
use Rattle.mpw_geom.specs.declared.plane.Orient.TheVariants.{R0}
use Rattle.mpw_geom.specs.declared.placing.Placing.{Placing}
use Rattle.mpw_structures.specs.declared.element.Element.{Element}
use Rattle.mpw_structures.specs.declared.element.Element.TheVariants as elements
use Rattle.mpw_structures.specs.declared.element.Reference.{Reference}
use Rattle.mpw_structures.specs.declared.structures.Structure.{Structure}
use Rattle.mpw_hier.specs.declared.node.Child.{Child}
use Rattle.mpw_hier.specs.declared.submission.Submission.{Submission}
use Rattle.mpw_hier.specs.Items.{instance, row_of}
use Rattle.mpw_hier.specs.Nodes.{AreNodesOf}
use Rattle.mpw_hier.specs.Values.{flats, heights}
use Rattle.mpw_walk.specs.declared.frame.Frame.{Frame}
use Rattle.mpw_walk.specs.Turns.{Turn, give, placed_turn, placed_turns, entered, structure_turns, all_turns}

-- ---- what remains

-- The turns of a structure of the submission with a number.
abbrev pub turns_at : List Submission → ℕ → Option Submission → List ℕ → List Turn
turns_at ss number None name = []
turns_at ss number (Some s) name = structure_turns (all_turns (take number ss)) s name

unfoldable pub named_turns : List Submission → ℕ → List ℕ → List Turn
named_turns ss number name = turns_at ss number (slice_get ss number) name

-- Shapes, by their indices among the elements.
abbrev pub shape_turns : ℕ → Option Element → List Turn
shape_turns number None = []
shape_turns number (Some e) =
    give (record {
      origin = number;
      placing = record {
        orient = R0;
        by = record { x = pos 0; y = pos 0 };
      };
      element = e;
    }) ∷ []

abbrev pub turns_of_shapes : ℕ → List Element → List ℕ → List Turn
turns_of_shapes number es places =
    flat_map (λ place. shape_turns number (slice_get es place)) places

-- The instances of an array from a row and a column on.
abbrev pub instances_from : Reference → (row column : ℕ) → List Placing
instances_from r row column =
    map (instance r row) (range_with_len column (r.columns - column))
    ++ flat_map (row_of r) (range_with_len (row + 1) (r.rows - (row + 1)))

-- The turns of a reference, and those from a row and a column on.
abbrev pub reference_turns : (List ℕ → List Turn) → Option Element → List Turn
reference_turns below None = []
reference_turns below (Some (elements.Boundary b)) = []
reference_turns below (Some (elements.Path p)) = []
reference_turns below (Some (elements.Reference r)) = placed_turns r (below r.name)

abbrev pub instance_turns : (List ℕ → List Turn) → (row column : ℕ) → Option Element → List Turn
instance_turns below row column None = []
instance_turns below row column (Some (elements.Boundary b)) = []
instance_turns below row column (Some (elements.Path p)) = []
instance_turns below row column (Some (elements.Reference r)) =
    flat_map (entered (below r.name)) (instances_from r row column)

abbrev pub turns_of_children : (List ℕ → List Turn) → List Element → (row column : ℕ) → List Child
    → List Turn
turns_of_children below es row column [] = []
turns_of_children below es row column (c ∷ cs) =
    instance_turns below row column (slice_get es c.element)
    ++ flat_map (λ (c : Child). reference_turns below (slice_get es c.element)) cs

-- What remains of a frame's structure, in the structure's own coordinates, and as it is placed.
unfoldable pub turns_within : List Submission → Frame → List Turn
turns_within ss f =
    turns_of_shapes f.submission f.elements.now (drop f.shape f.node.now.shapes)
    ++ turns_of_children (named_turns ss f.submission) f.elements.now f.row f.column
    (drop f.child f.node.now.children.items)

unfoldable pub turns_to_come : List Submission → Frame → List Turn
turns_to_come ss f = map (placed_turn f.placing) (turns_within ss f)

-- ---- frames

-- A displacement of at most 2^31 nm.
pub record IsShort (z : ℤ) : Type 0 where
  pub low : neg_ℤ (pos (2 ^ 31)) ≤ℤ z
  pub high : z ≤ℤ pos (2 ^ 31)

pub record IsWithin (p : Point) : Type 0 where
  pub x : IsShort p.x
  pub y : IsShort p.y

-- A structure of a submission on the shelf, and a position within its elements and arrays.
pub record IsFrame (ss : List Submission) (f : Frame) : Type 0 where
  pub submission : Submission
  pub is : slice_get ss f.submission ≡ Some submission
  pub nodes : AreNodesOf (flats (take f.submission ss)) (heights (take f.submission ss)) submission
      f.nodes.now
  pub place : ℕ
  pub at : slice_get f.nodes.now place ≡ Some f.node.now
  pub structure : Structure
  pub named : slice_get submission.library f.node.now.structure ≡ Some structure
  pub elements_are : f.elements.now ≡ structure.elements
  pub within : (c : Child) (r : Reference) → slice_get f.node.now.children.items f.child ≡ Some c
      → slice_get f.elements.now c.element ≡ Some (elements.Reference r)
      → (f.row < r.rows) × (f.column < r.columns)
  pub near : IsWithin f.placing.by
