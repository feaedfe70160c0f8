-- Lengths and keys in whole nanometres.
use Rattle.std.proofs.Common.{◌≡◌, ◌∙◌, ◌++◌, ◌/◌, ◌%◌, ℕ, ℤ, suc, pos, negsuc, List, [], ◌∷◌, refl, sym, ap, append_assoc, append-nil, arith}
use Rattle.std.specs.Fmt.{decimal, signed_decimal}
use Rattle.mpw_firm_listing.specs.Keys.{WholeKeysAreNumbers, axis_text, head_text, key_text, pair_text, place_text}
use Rattle.mpw_firm_listing.specs.Lengths.{fraction, length_text, magnitude_text, sign_text}
use Rattle.mpw_text.specs.Writing.{with_colons}

no_fraction : (rest : ℕ) → rest ≡ 0 → fraction 1 rest ≡ []
unfolding fraction
no_fraction rest none = rw none refl

magnitude_is : (n : ℕ) → magnitude_text 1 n ≡ decimal n
magnitude_is n =
    let whole : n / 1 ≡ n = omega arith in
    let none : n % 1 ≡ 0 = omega arith in
    ap (λ q. decimal q ++ fraction 1 (n % 1)) whole
    ∙ ap (λ t. decimal n ++ t) (no_fraction (n % 1) none)
    ∙ append-nil (decimal n)

whole_length : (z : ℤ) → length_text 1 z ≡ signed_decimal z
unfolding length_text sign_text
whole_length (pos n) = magnitude_is n
whole_length (negsuc n) = ap (λ t. 45 ∷ t) (magnitude_is (suc n))

joined_key : (rule axis side a b c d : List ℕ)
    → with_colons (rule ∷ axis ∷ side ∷ a ∷ b ∷ c ∷ d ∷ [])
    ≡ (rule ++ 58 ∷ (axis ++ 58 ∷ (side ++ [])))
    ++ (58 ∷ (a ++ 58 ∷ b) ++ 58 ∷ (c ++ 58 ∷ d))
joined_key rule axis side a b c d = simp (append_assoc, append-nil)

pub whole_keys : WholeKeysAreNumbers
unfolding key_text head_text pair_text place_text
whole_keys rule key =
    rw (whole_length key.x1, whole_length key.x2, whole_length key.y0, whole_length key.y1)
    (sym (joined_key rule (axis_text key.axis) (decimal key.side) (signed_decimal key.x1)
    (signed_decimal key.x2) (signed_decimal key.y0) (signed_decimal key.y1)))
