-- For private functions and proofs: the squares of a rule's layers, and its pair steps row by row.
use Rattle.std.specs.Prelude.{ℕ, ◌+◌, ◌*◌, List}
use Rattle.std.specs.List.Sorted.{IsNonDecreasingBy}
use Rattle.mpw_geom.specs.declared.plane.Layer.{Layer}
use Rattle.mpw_tiles.specs.declared.listing.Rectangle.{Rectangle}

-- A layer's number in the order of all layers: by its layer, and then by its datatype.
unfoldable pub layer_code : Layer → ℕ
layer_code l = l.layer * 65536 + l.datatype

-- The rectangles are sorted by layer.
abbrev pub IsByLayer : List Rectangle → Type 0
IsByLayer rectangles = IsNonDecreasingBy (λ (r : Rectangle). layer_code r.layer) rectangles
