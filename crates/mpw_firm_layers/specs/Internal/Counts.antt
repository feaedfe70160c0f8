-- For private functions and proofs: the numbers of shapes on a layer of nodes and submissions, up to the greatest number of
-- 64 bits.
use Rattle.std.specs.Prelude.{ℕ, ◌+◌, cond, List, slice_index}
use Rattle.std.specs.List.{sum_by}
use Rattle.mpw_geom.specs.declared.plane.Layer.{Layer}
use Rattle.mpw_structures.specs.declared.element.Element.{Element}
use Rattle.mpw_hier.specs.declared.node.Child.{Child}
use Rattle.mpw_hier.specs.declared.submission.Submission.{Submission}
use Rattle.mpw_hier.specs.Items.{Item}
use Rattle.mpw_walk.specs.declared.root.Root.{Root}
use Rattle.mpw_seen.specs.Internal.Counts.{told, child_number}
use Rattle.mpw_firm_layers.specs.Layers.{is_on, layer_items}
use Rattle.mpw_firm_layers.specs.Internal.Values.{AreOfFirst}

-- A shape on the layer counts one.
abbrev pub one_if : Layer → Element → ℕ
one_if layer element = cond (is_on layer element) 1 0

-- The number of a node: its own shapes on the layer, and those of its children.
abbrev pub node_number : Layer → List ℕ → List Element → List ℕ → List Child → ℕ
node_number layer outer es own children =
    told (sum_by (one_if layer) es + sum_by (child_number es own outer) children)

-- The number of a flat list, and those of the first submissions.
abbrev pub told_on : Layer → List Item → ℕ
told_on layer items = told (layer_items layer items)

abbrev pub AreCounts : List Submission → Layer → ℕ → List ℕ → Type 0
AreCounts ss layer = AreOfFirst 0 (told_on layer) ss

-- The number of a root's submission.
abbrev pub root_number : List ℕ → Root → ℕ
root_number numbers root = slice_index numbers root.submission
