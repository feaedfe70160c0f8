-- Rectangles in another order have the same squares.
use Rattle.std.proofs.Common.{◌≡◌, ◌&&◌, List}
use mathlib.Core.Path.{fun_ext}
use Rattle.std.specs.List.Sorted.{IsPermutation}
use Rattle.std.proofs.lemmas.List.Sorted.{list_any-IsPermutation}
use Rattle.mpw_geom.specs.Plane.{has_square}
use Rattle.mpw_tiles.specs.declared.listing.Rectangle.{Rectangle}
use Rattle.mpw_geom.specs.Layers.{same_layer}
use Rattle.mpw_job.specs.Answers.{listed_on}

pub same_on : (xs ys : List Rectangle) → IsPermutation xs ys → listed_on xs ≡ listed_on ys
same_on xs ys p = fun_ext (λ layer. fun_ext
    (λ i. fun_ext (λ j. list_any-IsPermutation (λ (r : Rectangle). same_layer r.layer layer
    && has_square r.area (record { column = i; row = j })) xs ys p)))
