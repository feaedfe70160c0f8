-- Lines and keys with equal parts are equal.
use Rattle.std.proofs.Common.{◌≡◌, ℤ, ◌+ℤ◌}
use Rattle.mpw_markers.specs.declared.marker.Key.{Key}
use Rattle.mpw_markers.specs.declared.marker.Line.{Line}
use Rattle.mpw_columns_keys.specs.Keys.{displaced_key}

pub same_line : (a b : Line) → a.rule ≡ b.rule → a.axis ≡ b.axis → a.side ≡ b.side → a.x1 ≡ b.x1
    → a.x2 ≡ b.x2 → a ≡ b
same_line a b e f g h k =
    λ i. record { rule = e i; axis = f i; side = g i; x1 = h i; x2 = k i }

-- a key with displaced edges
pub displaced_is : (by x1 x2 : ℤ) (k : Key) → x1 ≡ k.piece.x1 +ℤ by → x2 ≡ k.piece.x2 +ℤ by
    → (let l : Key = record k { piece = record k.piece { x1 = x1; x2 = x2 } } in l)
    ≡ displaced_key by k
displaced_is by x1 x2 k e f = λ i. record k { piece = record k.piece { x1 = e i; x2 = f i } }
