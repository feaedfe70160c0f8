-- What the bits of words say of indexes.
use Rattle.std.proofs.Common.{min, ◌≡◌, ℕ, ◌+◌, ◌*◌, ◌/◌, ◌%◌, ◌^◌, ◌<◌, ◌≤◌, ◌≢◌, Bool, true, false, ◌||◌, ◌&&◌, length, get_or, set, eqb, refl, sym, ap, ◌∙◌, inl, inr, ◌⊎◌, arith, eq-eqb, w64, get_or-set_same, get_or-set_other}
use Rattle.std.proofs.lemmas.Bool.{cases_eq, lt-ltb, ltb-true, ne_eqb, and_right}
use Rattle.std.proofs.lemmas.Nat.Bits.{bit_at_or, bit_at_and, bit_at-zero, bit_at-lt, shr_and_one, bit_at_set_same, bit_at_set_other, bit_at_clear_same, bit_at_clear_other, bit_at-trailing_zeros}
use Rattle.std.specs.Prelude.{bit_and, bit_or, nat_lt, not}
use Rattle.std.specs.Int.{bit_at, bit_not, trailing_zeros}
use Rattle.mpw_roles.specs.declared.mask.Mask.{Mask}
use Rattle.mpw_roles.specs.Mask.{has}
use Rattle.mpw_roles.proofs.BoolLemmas.{or_false, and_true}

-- whether a bit of a word is set, as the code reads it
pub has-bit : (m : Mask) (p : ℕ) → p < 512
    → eqb (bit_and (get_or m.words (p / 64) 0 / 2 ^ (p % 64)) 1) 1 ≡ has m p
unfolding has
has-bit m p small = let fits : nat_lt p 512 ≡ true = lt-ltb _ _ small in
    rw fits (ap (λ b. eqb b 1) (shr_and_one _ (p % 64)))

pub has-past : (m : Mask) (p : ℕ) → 512 ≤ p → false ≡ has m p
unfolding has
has-past m p past = elim (nat_lt p 512) as (λ b. nat_lt p 512 ≡ b
    → false ≡ (b && eqb (bit_at (get_or m.words (p / 64) 0) (p % 64)) 1)) [
      | true ↦ λ is. absurd (let less : p < 512 = ltb-true p 512 is in omega arith)
      | false ↦ λ _. refl
    ] refl

or_bits : (a b c : ℕ) → (a ≡ 1 → c ≡ 1) → (b ≡ 1 → c ≡ 1) → (c ≡ 1 → (a ≡ 1) ⊎ (b ≡ 1))
    → eqb c 1 ≡ (eqb a 1 || eqb b 1)
or_bits a b c p q back = elim (cases_eq a 1) [
  | inl one ↦ eq-eqb c 1 (p one) ∙ sym (ap (λ t. t || eqb b 1) (eq-eqb a 1 one))
  | inr none ↦ elim (cases_eq b 1) [
    | inl one ↦ eq-eqb c 1 (q one) ∙ sym (ap (λ t. t || eqb b 1) (ne_eqb a 1 none) ∙ eq-eqb b 1 one)
    | inr neither ↦ ne_eqb c 1 (λ is. elim (back is) [ inl x ↦ none x | inr y ↦ neither y ])
        ∙ sym (ap (λ t. t || eqb b 1) (ne_eqb a 1 none) ∙ ne_eqb b 1 neither)
  ]
]

-- the bits of two words, joined
word_or : (a b i : ℕ) → eqb (bit_at (bit_or a b) i) 1 ≡ (eqb (bit_at a i) 1 || eqb (bit_at b i) 1)
word_or a b i =
    or_bits (bit_at a i) (bit_at b i) (bit_at (bit_or a b) i)
    (λ one. omega (arith, bit_at_or a b i, bit_at-lt b i))
    (λ one. omega (arith, bit_at_or a b i, bit_at-lt a i))
    (λ is. elim (cases_eq (bit_at a i) 1) [
      | inl one ↦ inl one
      | inr none
          ↦ inr (omega (arith, bit_at_or a b i, bit_at-lt a i, bit_at-lt b i))
    ])

-- words joined one by one are sets joined
pub has-joined : (old other new : Mask)
    → ((j : ℕ) → j < 8 → get_or new.words j 0 ≡ bit_or (get_or old.words j 0)
    (get_or other.words j 0)) → (p : ℕ) → has new p ≡ (has old p || has other p)
unfolding has
has-joined old other new each p =
    elim (nat_lt p 512) as (λ b. nat_lt p 512 ≡ b
    → (b && eqb (bit_at (get_or new.words (p / 64) 0) (p % 64)) 1)
    ≡ ((b && eqb (bit_at (get_or old.words (p / 64) 0) (p % 64)) 1)
    || (b && eqb (bit_at (get_or other.words (p / 64) 0) (p % 64)) 1))) [
      | true ↦ λ is. let small : p < 512 = ltb-true p 512 is in ap (λ w. eqb (bit_at w (p % 64)) 1)
          (each (p / 64) (omega arith)) ∙ word_or _ _ (p % 64)
      | false ↦ λ _. refl
    ] refl

or_true : (b : Bool) → true ≡ (b || true)
or_true true = refl
or_true false = refl

-- one more bit
pub has-inserted : (m : Mask) (p : ℕ) → p < 512 → length m.words ≡ 8 → (q : ℕ)
    → has (record {
      words = set m.words (p / 64)
          (bit_or (get_or m.words (p / 64) 0) (1 * 2 ^ (p % 64) % 2 ^ 64));
    }) q ≡ (has m q || eqb q p)
unfolding has
has-inserted m p small eight q =
    let ws = m.words in
    let word = bit_or (get_or ws (p / 64) 0) (1 * 2 ^ (p % 64) % 2 ^ 64) in
    let low : p % 64 < 64 = omega arith in
    elim (cases_eq q p) [
      | inl same ↦
          let inside : p / 64 < length ws = omega arith in
          let fits : nat_lt q 512 ≡ true = lt-ltb _ _ (omega arith) in
          let here : get_or (set ws (p / 64) word) (q / 64) 0 ≡ word =
          ap (λ k. get_or (set ws (p / 64) word) (k / 64) 0) same
          ∙ get_or-set_same ws (p / 64) word 0 inside in
          let one : bit_at (get_or (set ws (p / 64) word) (q / 64) 0) (q % 64) ≡ 1 =
          ap (λ w. bit_at w (q % 64)) here ∙ ap (λ k. bit_at word (k % 64)) same
          ∙ bit_at_set_same w64 (get_or ws (p / 64) 0) (p % 64) low in
          ap (λ b. b && eqb (bit_at (get_or (set ws (p / 64) word) (q / 64) 0) (q % 64)) 1) fits
          ∙ eq-eqb _ 1 one ∙ or_true _ ∙ ap (λ b. (nat_lt q 512
          && eqb (bit_at (get_or ws (q / 64) 0) (q % 64)) 1) || b) (sym (eq-eqb q p same))
      | inr other ↦
          let stays : bit_at (get_or (set ws (p / 64) word) (q / 64) 0) (q % 64)
          ≡ bit_at (get_or ws (q / 64) 0) (q % 64) = elim (cases_eq (q / 64) (p / 64)) [
            | inl near ↦
                let inside : p / 64 < length ws = omega arith in
                let apart : q % 64 ≢ p % 64 = omega arith in
                ap (λ k. bit_at (get_or (set ws (p / 64) word) k 0) (q % 64)) near
                ∙ ap (λ w. bit_at w (q % 64)) (get_or-set_same ws (p / 64) word 0 inside)
                ∙ bit_at_set_other w64 (get_or ws (p / 64) 0) (p % 64) low (q % 64) apart
                ∙ ap (λ k. bit_at (get_or ws k 0) (q % 64)) (sym near)
            | inr far ↦ ap (λ w. bit_at w (q % 64))
                (get_or-set_other ws (p / 64) (q / 64) word 0 far)
          ] in
          ap (λ x. nat_lt q 512 && eqb x 1) stays ∙ sym (or_false _)
          ∙ ap (λ b. (nat_lt q 512 && eqb (bit_at (get_or ws (q / 64) 0) (q % 64)) 1) || b)
          (sym (ne_eqb q p other))
    ]

-- one bit fewer
pub has-removed : (m : Mask) (p : ℕ) → p < 512 → length m.words ≡ 8 → (q : ℕ)
    → has (record {
      words = set m.words (p / 64)
          (bit_and (get_or m.words (p / 64) 0) (bit_not w64 (1 * 2 ^ (p % 64) % 2 ^ 64)));
    }) q
    ≡ (has m q && not (eqb q p))
unfolding has
has-removed m p small eight q =
    let ws = m.words in
    let word = bit_and (get_or ws (p / 64) 0) (bit_not w64 (1 * 2 ^ (p % 64) % 2 ^ 64)) in
    let low : p % 64 < 64 = omega arith in
    elim (cases_eq q p) [
      | inl same ↦
          let inside : p / 64 < length ws = omega arith in
          let here : get_or (set ws (p / 64) word) (q / 64) 0 ≡ word =
          ap (λ k. get_or (set ws (p / 64) word) (k / 64) 0) same
          ∙ get_or-set_same ws (p / 64) word 0 inside in
          let none : bit_at (get_or (set ws (p / 64) word) (q / 64) 0) (q % 64) ≡ 0 =
          ap (λ w. bit_at w (q % 64)) here ∙ ap (λ k. bit_at word (k % 64)) same
          ∙ bit_at_clear_same w64 (get_or ws (p / 64) 0) (p % 64) low in
          and_right (nat_lt q 512) _ (ne_eqb _ 1 (λ one. omega (arith, one, none)))
          ∙ sym (and_right (has m q) (not (eqb q p)) (ap not (eq-eqb q p same)))
      | inr other ↦
          let stays : bit_at (get_or (set ws (p / 64) word) (q / 64) 0) (q % 64)
          ≡ bit_at (get_or ws (q / 64) 0) (q % 64) = elim (cases_eq (q / 64) (p / 64)) [
            | inl near ↦
                let inside : p / 64 < length ws = omega arith in
                let apart : q % 64 ≢ p % 64 = omega arith in
                let below : q % 64 < 64 = omega arith in
                ap (λ k. bit_at (get_or (set ws (p / 64) word) k 0) (q % 64)) near
                ∙ ap (λ w. bit_at w (q % 64)) (get_or-set_same ws (p / 64) word 0 inside)
                ∙ bit_at_clear_other w64 (get_or ws (p / 64) 0) (p % 64) low (q % 64) below apart
                ∙ ap (λ k. bit_at (get_or ws k 0) (q % 64)) (sym near)
            | inr far ↦ ap (λ w. bit_at w (q % 64))
                (get_or-set_other ws (p / 64) (q / 64) word 0 far)
          ] in
          ap (λ x. nat_lt q 512 && eqb x 1) stays ∙ sym (and_true _)
          ∙ ap (λ b. (nat_lt q 512 && eqb (bit_at (get_or ws (q / 64) 0) (q % 64)) 1) && not b)
          (sym (ne_eqb q p other))
    ]

bit_true : (m : Mask) (k t : ℕ) → k < 8 → t < 64 → bit_at (get_or m.words k 0) t ≡ 1
    → has m (k * 64 + t) ≡ true
unfolding has
bit_true m k t small low one =
    let word : (k * 64 + t) / 64 ≡ k = omega arith in
    let rest : (k * 64 + t) % 64 ≡ t = omega arith in
    let fits : nat_lt (k * 64 + t) 512 ≡ true = lt-ltb _ _ (omega arith) in
    ap (λ b. b && eqb (bit_at (get_or m.words ((k * 64 + t) / 64) 0) ((k * 64 + t) % 64)) 1) fits
    ∙ eq-eqb _ 1 ((λ i. bit_at (get_or m.words (word i) 0) (rest i)) ∙ one)

-- a word that isn't zero has a bit
pub some-bit : (a b : Mask) (k : ℕ) → k < 8 → bit_and (get_or a.words k 0) (get_or b.words k 0) ≢ 0
    → bit_and (get_or a.words k 0) (get_or b.words k 0) < 2 ^ 64 → (p : ℕ) × (has a p ≡ true)
    × (has b p ≡ true)
some-bit a b k small some fits =
    let word : ℕ = bit_and (get_or a.words k 0) (get_or b.words k 0) in
    let lowest = bit_at-trailing_zeros w64 word (omega arith) fits in
    let t : ℕ = trailing_zeros w64 word in
    let both = bit_at_and (get_or a.words k 0) (get_or b.words k 0) t in
    let one : bit_at word t ≡ 1 = lowest.1 in
    let first : bit_at (get_or a.words k 0) t ≡ 1 =
    omega (arith, both, one, bit_at-lt (get_or a.words k 0) t) in
    let second : bit_at (get_or b.words k 0) t ≡ 1 =
    omega (arith, both, one, bit_at-lt (get_or b.words k 0) t) in
    (k * 64 + t, bit_true a k t small lowest.0 first, bit_true b k t small lowest.0 second)

none_both : (a b : ℕ) → min a b ≡ 0 → (eqb a 1 && eqb b 1) ≡ false
none_both a b none = elim (cases_eq a 1) [
  | inl one ↦ elim (cases_eq b 1) [
    | inl also ↦ absurd (omega arith)
    | inr other ↦ and_right (eqb a 1) (eqb b 1) (ne_eqb b 1 other)
  ]
  | inr other ↦ ap (λ t. t && eqb b 1) (ne_eqb a 1 other)
]

-- words without a bit in common
pub no-bit : (a b : Mask) → ((j : ℕ) → j < 8 → bit_and (get_or a.words j 0) (get_or b.words j 0)
    ≡ 0) → (p : ℕ) → (has a p && has b p) ≡ false
unfolding has
no-bit a b each p =
    let x = eqb (bit_at (get_or a.words (p / 64) 0) (p % 64)) 1 in
    let y = eqb (bit_at (get_or b.words (p / 64) 0) (p % 64)) 1 in
    elim (nat_lt p 512) as (λ f. nat_lt p 512 ≡ f → ((f && x) && (f && y)) ≡ false) [
      | true ↦ λ is.
          let small : p < 512 = ltb-true p 512 is in
          none_both _ _ (sym (bit_at_and _ _ (p % 64))
          ∙ ap (λ w. bit_at w (p % 64)) (each (p / 64) (omega arith)) ∙ bit_at-zero (p % 64))
      | false ↦ λ _. refl
    ] refl

-- no words, no indexes
pub has-none : (m : Mask) → ((k : ℕ) → get_or m.words k 0 ≡ 0) → (p : ℕ) → has m p ≡ false
unfolding has
has-none m zeros p = and_right (nat_lt p 512) _ (ne_eqb _ 1 (λ one.
    let none : bit_at (get_or m.words (p / 64) 0) (p % 64) ≡ 0 = ap (λ w. bit_at w (p % 64))
    (zeros (p / 64)) ∙ bit_at-zero (p % 64) in
    omega arith))
