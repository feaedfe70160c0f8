-- For private functions and proofs: a structure that a walk has entered, and its remaining turns.
use Rattle.std.specs.Prelude.{◌≡◌, ◌<◌, ◌+◌, ℕ, List, take, slice_get, slice_index, nat_lt, Some, if◌then◌else◌}
use Rattle.mpw_structures.specs.declared.element.Element.TheVariants as elements
use Rattle.mpw_structures.specs.declared.element.Reference.{Reference}
use Rattle.mpw_hier.specs.declared.node.Node.{Node}
use Rattle.mpw_hier.specs.declared.node.Child.{Child}
use Rattle.mpw_hier.specs.declared.node.Target.{Target}
use Rattle.mpw_hier.specs.declared.submission.Submission.{Submission}
use Rattle.mpw_hier.specs.Items.{instance}
use Rattle.mpw_hier.specs.Nodes.{structure_levels}
use Rattle.mpw_hier.specs.Sizes.{IsSizeOf}
use Rattle.mpw_hier.specs.Values.{structure_items, flats, heights}
use Rattle.mpw_walk.specs.declared.frame.Frame.{Frame}
use Rattle.mpw_walk.specs.declared.root.Placed.{Placed}
use Rattle.mpw_walk.specs.Frames.{named_turns, turns_within, IsWithin, IsFrame}

-- The frame of a node before its first turn.
pub record IsFront (ss : List Submission) (number : ℕ) (nodes : List Node) (place : ℕ) (f : Frame) :
    Type 0 where
  pub frame : IsFrame ss f
  pub number_is : f.submission ≡ number
  pub nodes_are : f.nodes.now ≡ nodes
  pub node_is : slice_get nodes place ≡ Some f.node.now
  pub shape : f.shape ≡ 0
  pub child : f.child ≡ 0
  pub row : f.row ≡ 0
  pub column : f.column ≡ 0

-- A frame has the content of a name for a submission, and its node has the size of that.
pub record Shows (ss : List Submission) (number : ℕ) (s : Submission) (name : List ℕ) (f : Frame) :
    Type 0 where
  pub frame : IsFrame ss f
  pub turns : turns_within ss f ≡ named_turns ss number name
  pub size : IsSizeOf (structure_items (flats (take number ss)) s name)
      (structure_levels (heights (take number ss)) s name) f.node.now.size

abbrev pub ShowsName : List Submission → ℕ → (Submission → List ℕ) → Frame → Type 0
ShowsName ss number name f =
    (s : Submission) → slice_get ss number ≡ Some s → Shows ss number s (name s) f

-- What a frame places next.
pub record IsNext (f : Frame) (target : Target) (r : Reference) : Type 0 where
  pub child : Child
  pub child_is : slice_get f.node.now.children.items f.child ≡ Some child
  pub target_is : child.target ≡ target
  pub reference_is : slice_get f.elements.now child.element ≡ Some (elements.Reference r)

-- The next child, if there is one, is a reference.
abbrev pub HasReference : Frame → Type 0
HasReference f =
    (c : Child) → slice_get f.node.now.children.items f.child ≡ Some c
    → (r : Reference) × (slice_get f.elements.now c.element ≡ Some (elements.Reference r))

-- Each instance of an array is within 2^31 nm.
abbrev pub IsNearArray : Reference → Type 0
IsNearArray r =
    (row column : ℕ) → row < r.rows → column < r.columns → IsWithin (instance r row column).by

-- The next shape of a frame.
pub record IsShape (f : Frame) (placed : Placed) : Type 0 where
  pub origin : placed.origin ≡ f.submission
  pub placing : placed.placing ≡ f.placing
  pub element : slice_get f.elements.now (slice_index f.node.now.shapes f.shape)
      ≡ Some placed.element.now

-- The frame after the next instance: the next column, the next row, or the next child.
abbrev pub behind_instance : Frame → Reference → Frame
behind_instance f r =
    if nat_lt (f.column + 1) r.columns then record f { column = f.column + 1 }
    else if nat_lt (f.row + 1) r.rows then record f { row = f.row + 1; column = 0 }
    else record f { child = f.child + 1; row = 0; column = 0 }
