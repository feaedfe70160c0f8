-- The nodes of a submission while they are being made.
use Rattle.std.specs.Prelude.{◌≡◌, ℕ, ◌<◌, ◌≤◌, ◌-◌, ◌++◌, true, false, List, [], ◌∷◌, length, take, slice_get, slice_index_or, Option, Some, None}
use Rattle.std.specs.BTreeMap as tree
use Rattle.std.specs.BTreeMap.{BTreeMap}
use Rattle.std.specs.List.{AllZip}
use Rattle.mpw_geom.specs.Names.{name_cmp, contains_name}
use Rattle.mpw_structures.specs.declared.element.Element.{Element}
use Rattle.mpw_geom.specs.declared.plane.Box2.{Box2}
use Rattle.mpw_structures.specs.declared.structures.Structure.{Structure}
use Rattle.mpw_structures.specs.Library.{IsLibrary}
use Rattle.mpw_structures.specs.Places.{place_of}
use Rattle.mpw_hier.specs.declared.bindings.Binding.{Binding}
use Rattle.mpw_hier.specs.declared.node.Node.{Node}
use Rattle.mpw_hier.specs.declared.size.Size.{Size}
use Rattle.mpw_hier.specs.declared.submission.Submission.{Submission}
use Rattle.mpw_hier.specs.Structures.{referenced_names}
use Rattle.mpw_hier.specs.Boxes.{extent_of, is_box_near}
use Rattle.mpw_hier.specs.Sizes.{IsSizeOf}
use Rattle.mpw_hier.specs.Nodes.{IsNode, IsOuter, AreReached, AreWhole, structure_levels}
use Rattle.mpw_hier.specs.Values.{bound_number, structure_items, flats, heights}

-- A table of bindings.
pub record ShowsBindings (table : BTreeMap (List ℕ) ℕ) (bindings : List Binding) : Type 0 where
  pub at : (name : List ℕ) → tree.get name_cmp table name ≡ bound_number bindings name

-- The numbers of the nodes, by the indices of their structures.
abbrev pub number_at : List (Option ℕ) → ℕ → Option ℕ
number_at numbers place = slice_index_or numbers place None

-- The size that a name has for a submission after others.
abbrev pub IsSizeHere : List Submission → Submission → List ℕ → Size → Type 0
IsSizeHere ss s name size =
    IsSizeOf (structure_items (flats ss) s name) (structure_levels (heights ss) s name) size

-- Nodes, and their numbers by the indices of their structures, for a submission after others.
pub record AreLinked (ss : List Submission) (s : Submission) (table : BTreeMap (List ℕ) ℕ)
    (numbers : List (Option ℕ)) (nodes : List Node) : Type 0 where
  pub bindings : ShowsBindings table s.bound
  pub library : IsLibrary s.library
  pub each : (k : ℕ) (node : Node) → slice_get nodes k ≡ Some node
      → IsNode (flats ss) (heights ss) s (take k nodes) node
  pub sized : length numbers ≡ length s.library
  pub numbered : (place k : ℕ) → number_at numbers place ≡ Some k
      → (node : Node) × (slice_get nodes k ≡ Some node) × (node.structure ≡ place)
  pub few : length nodes ≤ length s.library

-- A name of a structure that has a node.
pub record HasNode (s : Submission) (numbers : List (Option ℕ)) (name : List ℕ) : Type 0 where
  pub place : ℕ
  pub named : place_of s.library name ≡ Some place
  pub number : ℕ
  pub at : number_at numbers place ≡ Some number

-- A name of a structure that has a node, or one that is bound to an earlier submission.
pub data IsKnown (ss : List Submission) (s : Submission) (numbers : List (Option ℕ))
    (name : List ℕ) : Type 0 where
  own : HasNode s numbers name → IsKnown ss s numbers name
  outer : (number : ℕ) → IsOuter s (length ss) name number → IsKnown ss s numbers name

-- What elements refer to is known.
abbrev pub AreKnown : List Submission → Submission → List (Option ℕ) → List Element → Type 0
AreKnown ss s numbers es =
    (name : List ℕ) → contains_name (referenced_names es) name ≡ true → IsKnown ss s numbers name

-- The sizes of what elements refer to, in file order.
abbrev pub AreSizesHere : List Submission → Submission → List Element → List Size → Type 0
AreSizesHere ss s es sizes = AllZip (IsSizeHere ss s) (referenced_names es) sizes

-- An index of a library whose structure is found by its name.
pub record IsPlace (library : List Structure) (place : ℕ) : Type 0 where
  pub structure : Structure
  pub is : slice_get library place ≡ Some structure
  pub named : place_of library structure.name ≡ Some place

-- What the structure at an index refers to is known.
abbrev pub IsReady : List Submission → Submission → List (Option ℕ) → ℕ → Type 0
IsReady ss s numbers place = (structure : Structure) → slice_get s.library place ≡ Some structure
    → AreKnown ss s numbers structure.elements

-- One more node, which is that of the structure at an index.
pub record IsOneMore (place : ℕ) (before after : List Node) : Type 0 where
  pub node : Node
  pub added : after ≡ before ++ node ∷ []
  pub at : node.structure ≡ place

-- The structure at an index exceeds 2^30 nm in its own coordinates.
pub record IsFarHere (ss : List Submission) (s : Submission) (place : ℕ) : Type 0 where
  pub structure : Structure
  pub is : slice_get s.library place ≡ Some structure
  pub box : Box2
  pub extent : extent_of (structure_items (flats ss) s structure.name) ≡ Some box
  pub far : is_box_near box ≡ false

-- The nodes of the structures that the top of a submission reaches, the top last.
pub record IsHierarchy (ss : List Submission) (s : Submission) (nodes : List Node) : Type 0 where
  pub each : (k : ℕ) (node : Node) → slice_get nodes k ≡ Some node
      → IsNode (flats ss) (heights ss) s (take k nodes) node
  pub few : length nodes ≤ length s.library
  pub some : 0 < length nodes
  pub top : Node
  pub last : slice_get nodes (length nodes - 1) ≡ Some top
  pub top_named : place_of s.library s.top ≡ Some top.structure
  pub reached : AreReached s nodes
  pub whole : AreWhole s nodes
