-- Which shapes are on a layer, and how many flat shapes of roots are.
use Rattle.std.specs.Prelude.{ℕ, ◌-◌, ◌^◌, min, Bool, false, List}
use Rattle.std.specs.List.{count_by, list_any}
use Rattle.mpw_geom.specs.declared.plane.Layer.{Layer}
use Rattle.mpw_geom.specs.Layers.{same_layer}
use Rattle.mpw_structures.specs.declared.element.Element.{Element}
use Rattle.mpw_structures.specs.declared.element.Element.TheVariants.{Boundary, Path, Reference}
use Rattle.mpw_hier.specs.declared.submission.Submission.{Submission}
use Rattle.mpw_hier.specs.Items.{Item}
use Rattle.mpw_walk.specs.declared.root.Root.{Root}
use Rattle.mpw_walk.specs.Turns.{flat_roots}

-- A shape is on the layer.
abbrev pub is_on : Layer → Element → Bool
is_on layer (Boundary boundary) = same_layer boundary.layer layer
is_on layer (Path path) = same_layer path.layer layer
is_on layer (Reference reference) = false

-- How many shapes of a flat list are on the layer.
unfoldable pub layer_items : Layer → List Item → ℕ
layer_items layer items = count_by (λ (i : Item). is_on layer i.element) items

-- How many flat shapes of roots are, up to the greatest number of 64 bits.
abbrev pub layer_count : List Submission → List Root → Layer → ℕ
layer_count ss roots layer = min (layer_items layer (flat_roots ss roots)) (2 ^ 64 - 1)

-- Roots have a flat shape on the layer.
unfoldable pub shows : List Submission → List Root → Layer → Bool
shows ss roots layer = list_any (λ (i : Item). is_on layer i.element) (flat_roots ss roots)
