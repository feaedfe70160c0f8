-- Lengths in micrometres, read back.
use Rattle.std.proofs.Common.{◌≡◌, ◌<◌, ◌+◌, ◌*◌, ◌/◌, ◌%◌, ◌==◌, ℕ, suc, true, false, ℤ, pos, negsuc, neg_ℤ, [], ◌∷◌, inl, inr, subst, arith, rules}
use Rattle.std.proofs.lemmas.Bool.{cases_eq}
use Rattle.std.proofs.lemmas.Bool.Decides.{nat_tests}
use Rattle.std.proofs.lemmas.Fmt.{decimal_digit}
use Rattle.mpw_firm_report.specs.Lengths.{last_digits, fraction, thousandths, micrometres, sign_text, IsFraction, IsLength}

-- the digits are those of the number
parts : (n : ℕ) → (n / 100) * 100 + ((n % 100) / 10) * 10 + n % 100 % 10 ≡ n
parts n = omega arith

-- the last two of three digits
ends_one : (n : ℕ) → n < 1000 → n % 100 ≡ 0 → IsFraction (0x2E ∷ (0x30 + n / 100) ∷ []) n
ends_one n small none =
    subst (λ m. IsFraction (0x2E ∷ (0x30 + n / 100) ∷ []) m) (omega (arith, none))
    (IsFraction.one (n / 100) (omega (arith, small)))

ends_two : (n : ℕ) → n < 1000 → n % 100 % 10 ≡ 0
    → IsFraction (0x2E ∷ (0x30 + n / 100) ∷ (0x30 + (n % 100) / 10) ∷ []) n
ends_two n small none =
    subst (λ m. IsFraction (0x2E ∷ (0x30 + n / 100) ∷ (0x30 + (n % 100) / 10) ∷ []) m)
    (omega (arith, none))
    (IsFraction.two (n / 100) ((n % 100) / 10) (omega (arith, small)) (omega arith))

ends_three : (n : ℕ) → n < 1000 → IsFraction (0x2E ∷ (0x30 + n / 100) ∷ (0x30 + (n % 100) / 10)
    ∷ (0x30 + n % 100 % 10) ∷ []) n
ends_three n small =
    subst (λ m. IsFraction (0x2E ∷ (0x30 + n / 100) ∷ (0x30 + (n % 100) / 10)
    ∷ (0x30 + n % 100 % 10) ∷ []) m) (parts n)
    (IsFraction.three (n / 100) ((n % 100) / 10) (n % 100 % 10) (omega (arith, small)) (omega arith)
    (omega arith))

is_not : (a b : ℕ) → (a ≡ b → ⊥) → (a == b) ≡ false
is_not a b h = search (rules, nat_tests, h)

is : (a b : ℕ) → a ≡ b → (a == b) ≡ true
is a b h = search (rules, nat_tests, h)

-- a fraction
fraction_is : (n : ℕ) → n < 1000 → IsFraction (fraction n) n
unfolding fraction last_digits
fraction_is n small =
    elim (cases_eq n 0) [
      | inl zero ↦ rw zero IsFraction.none
      | inr some ↦ elim (cases_eq (n % 100) 0) [
        | inl one ↦
            rw (is_not n 0 some, is (n % 100) 0 one, decimal_digit (n / 100) (omega (arith, small)))
            (ends_one n small one)
        | inr more ↦ elim (cases_eq (n % 100 % 10) 0) [
          | inl two ↦
              rw (
                is_not n 0 some,
                is_not (n % 100) 0 more,
                is (n % 100 % 10) 0 two,
                decimal_digit (n / 100) (omega (arith, small)),
                decimal_digit ((n % 100) / 10)
                    (omega arith),
              )
              (ends_two n small two)
          | inr three ↦
              rw (
                is_not n 0 some,
                is_not (n % 100) 0 more,
                is_not (n % 100 % 10) 0 three,
                decimal_digit (n / 100) (omega (arith, small)),
                decimal_digit ((n % 100) / 10)
                    (omega arith),
                decimal_digit (n % 100 % 10) (omega arith),
              )
              (ends_three n small)
        ]
      ]
    ]

whole_and_part : (n : ℕ) → (n / 1000) * 1000 + n % 1000 ≡ n
whole_and_part n = omega arith

-- a length
pub length_is : (nm : ℤ) → IsLength (micrometres nm) nm
unfolding micrometres sign_text
length_is (pos n) =
    subst (λ m. IsLength (thousandths n) (pos m)) (whole_and_part n)
    (IsLength.positive (n / 1000) (n % 1000) (fraction (n % 1000))
    (fraction_is (n % 1000) (omega arith)))
length_is (negsuc n) =
    subst (λ m. IsLength (0x2D ∷ thousandths (suc n)) (neg_ℤ (pos m))) (whole_and_part (suc n))
    (IsLength.negative (suc n / 1000) (suc n % 1000) (fraction (suc n % 1000))
    (fraction_is (suc n % 1000) (omega arith)))
