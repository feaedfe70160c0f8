-- Lengths in parts of a nanometre, read back.
use Rattle.std.proofs.Common.{◌≡◌, ◌∙◌, ◌<◌, ◌≤◌, ◌+◌, ◌*◌, ◌/◌, ◌%◌, ◌^◌, ◌==◌, ◌++◌, ℕ, ℤ, zero, suc, pos, negsuc, neg_ℤ, true, false, List, [], ◌∷◌, inl, inr, sym, ap, subst, arith, rules}
use Rattle.std.proofs.Math.Nat.{div-add-mod, mod-lt, mod-eq_of_lt, pow-suc, zero-mod}
use Rattle.std.proofs.lemmas.Bool.{cases_eq, cases_lt}
use Rattle.std.proofs.lemmas.Bool.Decides.{nat_tests}
use Rattle.std.proofs.lemmas.Fmt.{decimal_digit}
use Rattle.std.proofs.lemmas.Nat.{mul-le, mul-mod_first, mul-mod_second}
use Rattle.std.specs.Fmt.{decimal}
use Rattle.mpw_firm_listing.specs.Lengths.{AreDigits, IsFraction, IsLength, LengthsAreExact, decimals, fraction, length_text, magnitude_text, sign_text}

is_not : (a b : ℕ) → (a ≡ b → ⊥) → (a == b) ≡ false
is_not a b h = search (rules, nat_tests, h)

is : (a b : ℕ) → a ≡ b → (a == b) ≡ true
is a b h = search (rules, nat_tests, h)

-- The digits after the point represent so many parts exactly.
record Decimals (parts rest : ℕ) (text : List ℕ) : Type 0 where
  count : ℕ
  value : ℕ
  digits : AreDigits text count value
  exact : value * parts ≡ rest * 10 ^ count

none_left : (parts rest : ℕ) → rest ≡ 0 → Decimals parts rest []
none_left parts rest none = record {
  count = 0;
  value = 0;
  digits = AreDigits.none;
  exact = omega (arith, none);
}

-- One digit more.
one_more : (parts rest digit left : ℕ) (text : List ℕ) → digit < 10
    → parts * digit + left ≡ rest * 10 → Decimals parts left text
    → Decimals parts rest ((0x30 + digit) ∷ text)
one_more parts rest digit left text small division tail =
    let ten = 10 ^ tail.count in
    let scaled : (parts * digit + left) * ten ≡ rest * 10 * ten = ap (λ n. n * ten) division in
    record {
      count = suc tail.count;
      value = digit * ten + tail.value;
      digits = AreDigits.more digit tail.count tail.value text small tail.digits;
      exact = exact parts rest digit left tail.value ten (10 ^ suc tail.count) scaled tail.exact
          (pow-suc 10 tail.count);
    }
  where
    exact : (parts rest digit left value ten more : ℕ)
        → (parts * digit + left) * ten ≡ rest * 10 * ten → value * parts ≡ left * ten
        → more ≡ ten * 10 → (digit * ten + value) * parts ≡ rest * more
    exact parts rest digit left value ten more scaled tail is =
        rw is (omega (arith, scaled, tail))

digit_is : (parts rest : ℕ) → 0 < parts → rest < parts → rest * 10 / parts < 10
digit_is parts rest some within =
    elim (cases_lt (rest * 10 / parts) 10) [
      | inl few ↦ few
      | inr many ↦
          let p = mul-le 10 parts (rest * 10 / parts) parts many (omega arith) in
          absurd (omega (arith, p, within, div-add-mod (rest * 10) parts))
    ]

decimals_are : (left parts rest : ℕ) → 0 < parts → rest < parts → rest * 10 ^ left % parts ≡ 0
    → Decimals parts rest (decimals left parts rest)
unfolding decimals
decimals_are zero parts rest some within ends =
    none_left parts rest (sym (mod-eq_of_lt within) ∙ ap (λ n. n % parts) (once rest) ∙ ends)
  where
    once : (n : ℕ) → n ≡ n * 1
    once n = omega arith
decimals_are (suc left) parts rest some within ends =
    elim (cases_eq rest 0) [
      | inl none ↦ rw (is rest 0 none) (none_left parts rest none)
      | inr more ↦
          let digit = rest * 10 / parts in
          let small = digit_is parts rest some within in
          let ten = 10 ^ left in
          let goes : rest * 10 % parts * ten % parts ≡ 0 =
          mul-mod_first (rest * 10) ten parts
          ∙ ap (λ n. n % parts) (grouped rest ten (10 ^ suc left) (pow-suc 10 left)) ∙ ends in
          rw (is_not rest 0 more, decimal_digit digit small)
          (one_more parts rest digit (rest * 10 % parts) (decimals left parts (rest * 10 % parts))
          small (div-add-mod (rest * 10) parts)
          (decimals_are left parts (rest * 10 % parts) some (mod-lt (rest * 10) some) goes))
    ]
  where
    grouped : (rest ten more : ℕ) → more ≡ ten * 10 → rest * 10 * ten ≡ rest * more
    grouped rest ten more is = rw is (omega arith)

-- The same with the point.
record Fraction (parts rest : ℕ) (text : List ℕ) : Type 0 where
  count : ℕ
  value : ℕ
  is : IsFraction text count value
  exact : value * parts ≡ rest * 10 ^ count

fraction_is : (parts rest : ℕ) → 0 < parts → rest < parts → 10 ^ 9 % parts ≡ 0
    → Fraction parts rest (fraction parts rest)
unfolding fraction
fraction_is parts rest some within billion =
    elim (cases_eq rest 0) [
      | inl none ↦ rw (is rest 0 none) (record {
        count = 0;
        value = 0;
        is = IsFraction.none;
        exact = omega (arith, none);
      })
      | inr more ↦
          let ends : rest * 10 ^ 9 % parts ≡ 0 =
          sym (mul-mod_second rest (10 ^ 9) parts) ∙ ap (λ n. rest * n % parts) billion
          ∙ ap (λ n. n % parts) (nothing rest) ∙ zero-mod parts in
          let made = decimals_are 9 parts rest some within ends in
          rw (is_not rest 0 more) (record {
            count = made.count;
            value = made.value;
            is = IsFraction.some made.count made.value (decimals 9 parts rest) made.digits;
            exact = made.exact;
          })
    ]
  where
    nothing : (rest : ℕ) → rest * 0 ≡ 0
    nothing rest = omega arith

whole_is : (parts n count value : ℕ) → value * parts ≡ n % parts * 10 ^ count
    → (n / parts * 10 ^ count + value) * parts ≡ n * 10 ^ count
whole_is parts n count value exact =
    sum (n / parts) (n % parts) parts n (10 ^ count) value (div-add-mod n parts) exact
  where
    sum : (whole rest parts n ten value : ℕ) → parts * whole + rest ≡ n → value * parts ≡ rest * ten
        → (whole * ten + value) * parts ≡ n * ten
    sum whole rest parts n ten value division exact =
        let scaled = ap (λ m. m * ten) division in omega (arith, scaled, exact)

pub lengths_are : LengthsAreExact
unfolding length_text sign_text
lengths_are parts (pos n) some billion =
    let f = fraction_is parts (n % parts) some (mod-lt n some) billion in
    IsLength.positive n (n / parts) f.count f.value (fraction parts (n % parts)) f.is
    (whole_is parts n f.count f.value f.exact)
lengths_are parts (negsuc n) some billion =
    let f = fraction_is parts (suc n % parts) some (mod-lt (suc n) some) billion in
    IsLength.negative (suc n) (suc n / parts) f.count f.value (fraction parts (suc n % parts)) f.is
    (whole_is parts (suc n) f.count f.value f.exact)
