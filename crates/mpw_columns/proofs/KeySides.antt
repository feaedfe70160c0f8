-- Keys whose lines are displaced by sums.
use Rattle.std.proofs.Common.{◌≡◌, ℤ, pos, neg_ℤ, ◌+ℤ◌, arith}
use Rattle.std.proofs.lemmas.Int.{ints}
use Rattle.mpw_markers.specs.declared.marker.Key.{Key}
use Rattle.mpw_columns_keys.specs.Keys.{displaced_key}

abbrev with_lines : (ℤ → ℤ) → Key → Key
with_lines f k = record k { piece = record k.piece { x1 = f k.piece.x1; x2 = f k.piece.x2 } }

-- two sums that are equal
same_lines : (f g : ℤ → ℤ) (k : Key) → ((x : ℤ) → f x ≡ g x) → with_lines f k ≡ with_lines g k
same_lines f g k same =
    λ i. record k { piece = record k.piece { x1 = same k.piece.x1 i; x2 = same k.piece.x2 i } }

-- displaced there and back, twice, and not at all
pub there_and_back : (by : ℤ) (k : Key) → displaced_key by (displaced_key (neg_ℤ by) k) ≡ k
there_and_back by k =
    same_lines (λ x. (x +ℤ neg_ℤ by) +ℤ by) (λ x. x) k (λ x. omega (arith, ints))

pub one_twice : (a b : ℤ) (k : Key)
    → displaced_key b (displaced_key a k) ≡ displaced_key (a +ℤ b) k
one_twice a b k = same_lines (λ x. (x +ℤ a) +ℤ b) (λ x. x +ℤ (a +ℤ b)) k (λ x. omega (arith, ints))

pub one_still : (k : Key) → displaced_key (pos 0) k ≡ k
one_still k = same_lines (λ x. x +ℤ pos 0) (λ x. x) k (λ x. omega (arith, ints))
