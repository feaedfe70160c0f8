-- For private functions and proofs: the numbers of seen shapes of nodes and submissions, up to the greatest number of 64 bits.
use Rattle.std.specs.Prelude.{◌≡◌, ℕ, ◌+◌, ◌*◌, ◌-◌, ◌^◌, ◌<◌, min, Bool, true, false, List, [], length, take, slice_get, slice_index, slice_index_or, Option, None, Some, if◌then◌else◌}
use Rattle.std.specs.List.{sum_by}
use Rattle.mpw_structures.specs.declared.element.Element.{Element}
use Rattle.mpw_structures.specs.declared.element.Element.TheVariants as elements
use Rattle.mpw_structures.specs.declared.structures.Structure.{Structure}
use Rattle.mpw_hier.specs.declared.node.Child.{Child}
use Rattle.mpw_hier.specs.declared.node.Node.{Node}
use Rattle.mpw_hier.specs.declared.node.Target.{Target}
use Rattle.mpw_hier.specs.declared.node.Target.TheVariants as targets
use Rattle.mpw_hier.specs.declared.submission.Submission.{Submission}
use Rattle.mpw_hier.specs.Values.{bound_number, flat}
use Rattle.mpw_seen.specs.Seen.{seen_items}

-- A number up to the greatest of 64 bits, which represents all numbers beyond.
abbrev pub told : ℕ → ℕ
told n = min n (2 ^ 64 - 1)

-- ---- one node, by numbers of the nodes before it and of the submissions before its own; 0 if there is none

abbrev pub target_number : List ℕ → List ℕ → Target → ℕ
target_number own outer (targets.Own place) = slice_index own place
target_number own outer (targets.Outer number) = slice_index outer number

-- A number times the instances of a reference.
abbrev pub array_number : Option Element → ℕ → ℕ
array_number None n = 0
array_number (Some (elements.Boundary b)) n = 0
array_number (Some (elements.Path p)) n = 0
array_number (Some (elements.Reference r)) n = r.columns * r.rows * n

abbrev pub child_number : List Element → List ℕ → List ℕ → Child → ℕ
child_number es own outer c =
    array_number (slice_get es c.element) (target_number own outer c.target)

-- Its own shapes if they are seen, and those of its children.
abbrev pub own_number : Bool → Node → ℕ
own_number seen node = if seen then length node.shapes else 0

abbrev pub node_number : List Element → List ℕ → List ℕ → Bool → Node → ℕ
node_number es own outer seen node =
    own_number seen node + sum_by (child_number es own outer) node.children.items

-- ---- the nodes of a submission

-- The elements of a structure, if there is one.
abbrev pub elements_of : Option Structure → List Element
elements_of None = []
elements_of (Some s) = s.elements

-- The numbers of the first nodes of a submission, each from those before it.
pub record AreNumbers (library : List Structure) (outer : List ℕ) (seen : Bool)
    (nodes : List Node) (many : ℕ) (numbers : List ℕ) : Type 0 where
  pub many_are : length numbers ≡ many
  pub each : (k : ℕ) (node : Node) → k < many → slice_get nodes k ≡ Some node
      → slice_index numbers k ≡ told (node_number (elements_of (slice_get library node.structure))
      (take k numbers) outer seen node)

-- ---- numbers that are those of flat lists

-- The numbers of the submissions to which the names of a submission are bound.
abbrev pub AreOfBound : List Submission → List Bool → ℕ → List ℕ → Type 0
AreOfBound ss seen number numbers =
    (s : Submission) (name : List ℕ) (to : ℕ) → slice_get ss number ≡ Some s
    → bound_number s.bound name ≡ Some to → to < number
    → slice_index numbers to ≡ seen_items seen (flat ss to)

-- The numbers of the first submissions, as far as they are marked.
pub record AreOfMarked (ss : List Submission) (seen : List Bool) (marks : List Bool) (many : ℕ)
    (numbers : List ℕ) : Type 0 where
  pub many_are : length numbers ≡ many
  pub each : (k : ℕ) → k < many → slice_index_or marks k false ≡ true
      → slice_index numbers k ≡ seen_items seen (flat ss k)
