-- The line of a digest is one line.
use Rattle.std.proofs.Common.{◌≡◌, ◌==◌, ◌/◌, ◌%◌, ℕ, zero, suc, false, List, [], ◌∷◌, refl, codes}
use Rattle.std.specs.Prelude.{All, slice_index}
use Rattle.std.proofs.lemmas.List.Elements.{All-head, All-tail, All-nil, All-cons, All-append, All-from_recursion}
use Rattle.hex.specs.Hex.{encode_lower, encode_with, lower_digits}
use Rattle.sha2.specs.Sha256.{sha256}
use Rattle.mpw_firm_parts.specs.Text.{digest_line}
use Rattle.mpw_firm_parts.proofs.Splitting.{IsOne}

-- no place of the table has a line feed, and none after its end
digit : (table : List ℕ) (k : ℕ) → IsOne 10 table → (slice_index table k == 10) ≡ false
digit [] k all = refl
digit (d ∷ ds) zero all = All-head (λ byte. (byte == 10) ≡ false) d ds all
digit (d ∷ ds) (suc k) all = digit ds k (All-tail (λ byte. (byte == 10) ≡ false) d ds all)

digits : (table bytes : List ℕ) → IsOne 10 table → IsOne 10 (encode_with table bytes)
unfolding encode_with
digits table [] all = All-nil (λ byte. (byte == 10) ≡ false)
digits table (b ∷ bytes) all =
    let P : ℕ → Type 0 = λ byte. (byte == 10) ≡ false in
    All-cons P (slice_index table (b / 16)) (slice_index table (b % 16) ∷ encode_with table bytes)
    (digit table (b / 16) all)
    (All-cons P (slice_index table (b % 16)) (encode_with table bytes) (digit table (b % 16) all)
    (digits table bytes all))

table_one : IsOne 10 lower_digits
table_one = All-from_recursion (λ byte. (byte == 10) ≡ false) lower_digits (
  refl,
  (
    refl,
    (
      refl,
      (
        refl,
        (
          refl,
          (
            refl,
            (
              refl,
              (
                refl,
                (
                  refl,
                  (refl, (refl, (refl, (refl, (refl, (refl, (refl, tt))))))),
                ),
              ),
            ),
          ),
        ),
      ),
    ),
  ),
)

pub digest_one_line : (body : List ℕ) → IsOne 10 (digest_line body)
unfolding digest_line
digest_one_line body =
    All-append (λ byte. (byte == 10) ≡ false) (codes "sha256 ") (encode_lower (sha256 body))
    (All-from_recursion (λ byte. (byte == 10) ≡ false) (codes "sha256 ")
    (refl, (refl, (refl, (refl, (refl, (refl, (refl, tt))))))))
    (digits lower_digits (sha256 body) table_one)
