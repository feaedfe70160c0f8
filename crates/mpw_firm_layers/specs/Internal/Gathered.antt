-- For private functions and proofs: the layers of nodes and submissions that no rule names, at most 64 of each.
use Rattle.std.specs.Prelude.{ℕ, List, [], fold, slice_index_or}
use Rattle.mpw_deck.specs.declared.rule.Rule.{Rule}
use Rattle.mpw_geom.specs.declared.plane.Layer.{Layer}
use Rattle.mpw_structures.specs.declared.element.Element.{Element}
use Rattle.mpw_hier.specs.declared.node.Child.{Child}
use Rattle.mpw_hier.specs.declared.submission.Submission.{Submission}
use Rattle.mpw_hier.specs.Items.{Item}
use Rattle.mpw_walk.specs.declared.root.Root.{Root}
use Rattle.mpw_firm_layers.specs.Internal.Values.{target_value, AreOfFirst}
use Rattle.mpw_firm_layers.specs.Unnamed.{with_layer, with_shape, with_items}

-- With other layers, and with those of elements.
abbrev pub with_layers : List Rule → List Layer → List Layer → List Layer
with_layers rules layers more = fold (with_layer rules) layers more

abbrev pub with_shapes : List Rule → List Layer → List Element → List Layer
with_shapes rules layers es = fold (with_shape rules) layers es

-- With those of a child's target.
abbrev pub with_child : List Rule → List (List Layer) → List (List Layer) → List Layer → Child
    → List Layer
with_child rules own outer layers child =
    with_layers rules layers (target_value [] own outer child.target)

-- The layers of a node: those of its own shapes, and of its children.
abbrev pub node_layers : List Rule → List (List Layer) → List Element → List (List Layer)
    → List Child → List Layer
node_layers rules outer es own children =
    fold (with_child rules own outer) (with_shapes rules [] es) children

-- The layers of a flat list, and those of the first submissions.
abbrev pub gathered : List Rule → List Item → List Layer
gathered rules items = with_items rules [] items

abbrev pub AreGathered : List Submission → List Rule → ℕ → List (List Layer) → Type 0
AreGathered ss rules = AreOfFirst [] (gathered rules) ss

-- With those of a root's submission.
abbrev pub with_root : List Rule → List (List Layer) → List Layer → Root → List Layer
with_root rules lists layers root =
    with_layers rules layers (slice_index_or lists root.submission [])
