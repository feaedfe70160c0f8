-- The hierarchy of a submission as nodes: the structures that its top reaches, each after those that it places.
use Rattle.std.specs.Prelude.{◌≡◌, ℕ, ◌+◌, ◌-◌, ◌<◌, ◌≤◌, ◌^◌, true, List, [], ◌∷◌, length, take, slice_get, Some, None, if◌then◌else◌}
use Rattle.mpw_geom.specs.Names.{contains_name}
use Rattle.mpw_structures.specs.declared.element.Element.{Element}
use Rattle.mpw_structures.specs.declared.element.Element.TheVariants as elements
use Rattle.mpw_structures.specs.declared.element.Reference.{Reference}
use Rattle.mpw_structures.specs.declared.structures.Structure.{Structure}
use Rattle.mpw_structures.specs.Library.{IsLibrary}
use Rattle.mpw_structures.specs.Places.{place_of}
use Rattle.mpw_hier.specs.declared.node.Node.{Node}
use Rattle.mpw_hier.specs.declared.node.Child.{Child}
use Rattle.mpw_hier.specs.declared.node.Target.{Target}
use Rattle.mpw_hier.specs.declared.node.Target.TheVariants as targets
use Rattle.mpw_hier.specs.declared.submission.Submission.{Submission}
use Rattle.mpw_hier.specs.Structures.{referenced_names, is_shape, IsReachable}
use Rattle.mpw_hier.specs.Items.{Item}
use Rattle.mpw_hier.specs.Sizes.{IsSizeOf}
use Rattle.mpw_hier.specs.Values.{bound_number, at_number, structure_items, flat_of, flats, structure_height, height_of, heights}

-- The indices of the shapes among elements, counted from a number on.
unfoldable pub shape_places : ℕ → List Element → List ℕ
shape_places i [] = []
shape_places i (e ∷ es) =
    if is_shape e then i ∷ shape_places (i + 1) es else shape_places (i + 1) es

-- The height of a structure of a submission after others of these heights.
abbrev pub structure_levels : List ℕ → Submission → List ℕ → ℕ
structure_levels before s name =
    structure_height (λ outside. at_number 0 before (bound_number s.bound outside)) s.library name

-- The node of a structure of the library, among those before.
pub record IsOwn (s : Submission) (earlier : List Node) (name : List ℕ) (k : ℕ) : Type 0 where
  pub node : Node
  pub is : slice_get earlier k ≡ Some node
  pub named : place_of s.library name ≡ Some node.structure

-- The earlier submission to which a name outside the library is bound. The second argument is the number of earlier submissions.
pub record IsOuter (s : Submission) (count : ℕ) (name : List ℕ) (number : ℕ) : Type 0 where
  pub outside : place_of s.library name ≡ None
  pub bound : bound_number s.bound name ≡ Some number
  pub earlier : number < count

-- What a name refers to in a submission. The second argument is the number of earlier submissions.
abbrev pub IsTarget : Submission → ℕ → List Node → List ℕ → Target → Type 0
IsTarget s count earlier name (targets.Own k) = IsOwn s earlier name k
IsTarget s count earlier name (targets.Outer number) = IsOuter s count name number

-- The children of elements, whose indices are counted from a number on: the references to targets with flat shapes, each with its target.
pub data AreChildren (s : Submission) (before : List (List Item)) (earlier : List Node) : ℕ
    → List Element → List Child → Type 0 where
  none : {i : ℕ} → AreChildren s before earlier i [] []
  shape : {i : ℕ} {e : Element} {es : List Element} {cs : List Child} → is_shape e ≡ true
      → AreChildren s before earlier (i + 1) es cs → AreChildren s before earlier i (e ∷ es) cs
  empty : {i : ℕ} {r : Reference} {es : List Element} {cs : List Child}
      → structure_items before s r.name ≡ [] → AreChildren s before earlier (i + 1) es cs
      → AreChildren s before earlier i (elements.Reference r ∷ es) cs
  child : {i : ℕ} {r : Reference} {target : Target} {es : List Element} {cs : List Child}
      → 0 < length (structure_items before s r.name)
      → IsTarget s (length before) earlier r.name target
      → AreChildren s before earlier (i + 1) es cs
      → AreChildren s before earlier i (elements.Reference r ∷ es)
      (record { element = i; target = target } ∷ cs)

-- The node of a structure, after the nodes before it. Each of its references refers to one of these or to an earlier submission.
pub record IsNode (before : List (List Item)) (levels : List ℕ) (s : Submission)
    (earlier : List Node) (node : Node) : Type 0 where
  pub structure : Structure
  pub is : slice_get s.library node.structure ≡ Some structure
  pub named : place_of s.library structure.name ≡ Some node.structure
  pub below : (name : List ℕ) → contains_name (referenced_names structure.elements) name ≡ true
      → (target : Target) × IsTarget s (length before) earlier name target
  pub shapes : node.shapes ≡ shape_places 0 structure.elements
  pub children : AreChildren s before earlier 0 structure.elements node.children.items
  pub size : IsSizeOf (structure_items before s structure.name)
      (structure_levels levels s structure.name) node.size

-- An index of the library whose structure the top reaches.
pub record IsPlaceReached (s : Submission) (place : ℕ) : Type 0 where
  pub name : List ℕ
  pub named : place_of s.library name ≡ Some place
  pub below : IsReachable s.library s.top name

-- Each node is that of a structure that the top reaches, and each structure of the library that the top reaches has a node.
abbrev pub AreReached : Submission → List Node → Type 0
AreReached s nodes =
    (k : ℕ) (node : Node) → slice_get nodes k ≡ Some node → IsPlaceReached s node.structure

abbrev pub AreWhole : Submission → List Node → Type 0
AreWhole s nodes =
    (name : List ℕ) (place : ℕ) → IsReachable s.library s.top name
    → place_of s.library name ≡ Some place → (k : ℕ) × (node : Node)
    × (slice_get nodes k ≡ Some node) × (node.structure ≡ place)

-- The nodes of a submission after others with these flat lists and heights: those of the structures that its top reaches. The
-- top is last, and meets the limits.
pub record AreNodesOf (before : List (List Item)) (levels : List ℕ) (s : Submission)
    (nodes : List Node) : Type 0 where
  pub library : IsLibrary s.library
  pub each : (k : ℕ) (node : Node) → slice_get nodes k ≡ Some node
      → IsNode before levels s (take k nodes) node
  pub reached : AreReached s nodes
  pub whole : AreWhole s nodes
  pub few : length nodes ≤ length s.library
  pub top : Node
  pub some : 0 < length nodes
  pub last : slice_get nodes (length nodes - 1) ≡ Some top
  pub top_named : place_of s.library s.top ≡ Some top.structure
  pub count : length (flat_of before s) ≤ 2 ^ 40
  pub height : height_of levels s ≤ 64

-- The nodes of the submission with a number on a shelf.
pub record AreNodes (ss : List Submission) (number : ℕ) (nodes : List Node) : Type 0 where
  pub submission : Submission
  pub is : slice_get ss number ≡ Some submission
  pub shown : AreNodesOf (flats (take number ss)) (heights (take number ss)) submission nodes
