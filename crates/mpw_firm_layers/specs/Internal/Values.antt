-- For private functions and proofs: values of nodes of any kind, each from those of the nodes before it.
use Rattle.std.specs.Prelude.{◌≡◌, ℕ, ◌<◌, List, length, take, slice_get, slice_index_or, Some}
use Rattle.mpw_structures.specs.declared.element.Element.{Element}
use Rattle.mpw_structures.specs.declared.structures.Structure.{Structure}
use Rattle.mpw_hier.specs.declared.node.Child.{Child}
use Rattle.mpw_hier.specs.declared.node.Node.{Node}
use Rattle.mpw_hier.specs.declared.node.Target.{Target}
use Rattle.mpw_hier.specs.declared.node.Target.TheVariants as targets
use Rattle.mpw_hier.specs.declared.submission.Submission.{Submission}
use Rattle.mpw_hier.specs.Items.{Item}
use Rattle.mpw_hier.specs.Values.{flat}
use Rattle.mpw_seen.specs.Internal.Counts.{elements_of}

-- The values of the first nodes of a submission. `step` gives that of a node from its elements, the values before it and its children.
pub record AreValues {V : Type 0} (step : List Element → List V → List Child → V)
    (library : List Structure) (nodes : List Node) (many : ℕ) (values : List V) : Type 0 where
  pub many_are : length values ≡ many
  pub each : (k : ℕ) (node : Node) → k < many → slice_get nodes k ≡ Some node
      → slice_get values k ≡ Some (step (elements_of (slice_get library node.structure))
      (take k values) node.children.items)

-- The value of a target, by those of the nodes before it and of the submissions before its own; `nothing` if there is none.
abbrev pub target_value : {V : Type 0} → V → List V → List V → Target → V
target_value nothing own outer (targets.Own place) = slice_index_or own place nothing
target_value nothing own outer (targets.Outer number) = slice_index_or outer number nothing

-- The values of the first submissions. `tell` gives that of a flat list.
pub record AreOfFirst {V : Type 0} (nothing : V) (tell : List Item → V) (ss : List Submission)
    (many : ℕ) (values : List V) : Type 0 where
  pub many_are : length values ≡ many
  pub each : (k : ℕ) → k < many → slice_index_or values k nothing ≡ tell (flat ss k)
