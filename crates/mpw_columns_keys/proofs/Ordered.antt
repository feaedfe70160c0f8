-- Keys are in order if each comes before the next one.
use Rattle.std.proofs.Common.{◌≡◌, ◌∙◌, ℕ, zero, suc, ◌+◌, ◌-◌, ◌<◌, ◌≤◌, ◌&&◌, Bool, true, false, List, [], ◌∷◌, length, get_or, drop, Ordering, Less, Equal, Greater, refl, sym, ap, arith}
use Rattle.std.specs.Prelude.{All}
use Rattle.std.specs.Ordering.{is_lt}
use Rattle.std.proofs.lemmas.Bool.{false≢true, and_parts, and_from}
use Rattle.std.proofs.lemmas.List.{at_drop_more}
use Rattle.std.proofs.lemmas.List.Kept.{AllPairs-cons}
use Rattle.mpw_markers.specs.declared.marker.Key.{Key}
use Rattle.mpw_columns_keys.specs.Keys.{key_cmp, AreInOrder, comes_before_next, are_in_order}
use Rattle.mpw_columns_keys.specs.Laws.{TestDecidesOrder}
use Rattle.mpw_columns_keys.proofs.KeyOrder.{key_total}

less_from : (o : Ordering) → is_lt o ≡ true → o ≡ Less
less_from Less e = refl
less_from Equal e = absurd (false≢true e)
less_from Greater e = absurd (false≢true e)

-- ---- the law

-- a key that comes before the next one comes before all after it
first_of_all : (k : Key) (ks : List Key) → comes_before_next k ks ≡ true → AreInOrder ks
    → All (λ l. key_cmp k l ≡ Less) ks
first_of_all k [] e h i d lt = absurd (omega (arith, lt))
first_of_all k (l ∷ ls) e h zero d lt = less_from (key_cmp k l) e
first_of_all k (l ∷ ls) e h (suc i) d lt =
    key_total.trans k l (get_or ls i d) (less_from (key_cmp k l) e)
    (h 0 (suc i) d (omega arith) (omega (arith, lt)))

in_order : (keys : List Key) → are_in_order keys ≡ true → AreInOrder keys
in_order [] e = λ i j d lt within. absurd (omega (arith, within))
in_order (k ∷ ks) e =
    let p = and_parts (comes_before_next k ks) (are_in_order ks) e in
    let rest = in_order ks p.1 in
    AllPairs-cons (λ x y. key_cmp x y ≡ Less) k ks (first_of_all k ks p.0 rest) rest

before_next : (k : Key) (ks : List Key) → AreInOrder (k ∷ ks) → comes_before_next k ks ≡ true
before_next k [] h = refl
before_next k (l ∷ ls) h = ap is_lt (h 0 1 k (omega arith) (omega arith))

passes : (keys : List Key) → AreInOrder keys → are_in_order keys ≡ true
passes [] h = refl
passes (k ∷ ks) h = and_from _ _ (before_next k ks h)
    (passes ks (λ i j d lt within. h (suc i) (suc j) d (omega (arith, lt)) (omega (arith, within))))

pub decides : TestDecidesOrder
decides keys = (in_order keys, passes keys)

-- ---- the test, key by key

module _ (keys : List Key) (place : ℕ) (d : Key) (first : 1 ≤ place) where
  abbrev before : Key
  before = get_or keys (place - 1) d

  -- what is left from the key before the index on
  from_before : place < length keys → are_in_order (drop (place - 1) keys)
      ≡ (is_lt (key_cmp before (get_or keys place d)) && are_in_order (drop place keys))
  from_before within =
      let here : (place - 1) + 1 ≡ place = omega (arith, first) in
      at_drop_more are_in_order keys (place - 1) d (omega (arith, within))
      ∙ ap (λ (n : ℕ). comes_before_next before (drop n keys) && are_in_order (drop n keys)) here
      ∙ ap (λ (b : Bool). b && are_in_order (drop place keys))
      (at_drop_more (comes_before_next before) keys place d within)

  module _ (within : place < length keys) (o : Ordering)
      (is : o ≡ key_cmp before (get_or keys place d)) (whole : Bool)
      (so_far : are_in_order (drop (place - 1) keys) ≡ whole) where
    pub next_place : is_lt o ≡ true → are_in_order (drop (place + 1 - 1) keys) ≡ whole
    next_place e =
        let one_on : place + 1 - 1 ≡ place = omega arith in
        ap (λ (n : ℕ). are_in_order (drop n keys)) one_on
        ∙ sym (ap (λ (b : Bool). b && are_in_order (drop place keys)) (sym (ap is_lt is) ∙ e))
        ∙ sym (from_before within) ∙ so_far

    pub out_of_order : is_lt o ≡ false → false ≡ whole
    out_of_order e =
        sym (ap (λ (b : Bool). b && are_in_order (drop place keys)) (sym (ap is_lt is) ∙ e))
        ∙ sym (from_before within) ∙ so_far

-- the last key alone, or none
at_last : (keys : List Key) (i : ℕ) → length keys ≤ i + 1 → are_in_order (drop i keys) ≡ true
at_last [] zero le = refl
at_last [] (suc i) le = refl
at_last (k ∷ []) zero le = refl
at_last (k ∷ l ∷ ls) zero le = absurd (omega (arith, le))
at_last (k ∷ ks) (suc i) le = at_last ks i (omega (arith, le))

pub all_passed : (keys : List Key) (place : ℕ) (whole : Bool) → length keys ≤ place
    → are_in_order (drop (place - 1) keys) ≡ whole → true ≡ whole
all_passed keys place whole le e = sym (at_last keys (place - 1) (omega (arith, le))) ∙ e
