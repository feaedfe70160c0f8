-- There is a name that none of fewer than 2^80 structures has: one of 80 letters, each A or B.
use Rattle.std.proofs.Common.{◌≡◌, ℕ, zero, suc, ◌+◌, ◌<◌, ◌≤◌, ◌^◌, Bool, true, false, cond, eqb, ltb, ◌&&◌, ◌||◌, not, List, [], ◌∷◌, length, map, None, Ok, refl, sym, ap, ◌∙◌, inl, inr, arith}
use Rattle.std.specs.Prelude.{◌⊎◌, nat_eq}
use Rattle.std.specs.List.{list_all}
use Rattle.std.specs.Cmp.Lexicographic.{pointwise}
use Rattle.std.proofs.lemmas.Bool.{eqb-true, ltb-true, ltb-false}
use Rattle.std.proofs.lemmas.List.{length-map}
use native.Mathlib.Nat.{pow-succ'}
use Rattle.mpw_structures.specs.declared.structures.Structure.{Structure}
use Rattle.mpw_structures.specs.Places.{place_from}
use Rattle.mpw_records.specs.declared.kind.TheConstants.{STRNAME}
use Rattle.mpw_records.specs.Format.{data_fault}
use Rattle.mpw_elements.specs.Values.{without_nuls, is_visible, is_name, name_of}
use Rattle.mpw_library.specs.Fronts.{is_byte, is_formed}
use Rattle.mpw_library.proofs.FrontStructures.{Fresh}
use Rattle.mpw_library.proofs.Samples.{sample}

-- ---- words of two letters

abbrev is_letter : ℕ → Bool
is_letter b = eqb b 65 || eqb b 66

abbrev is_absent : List ℕ → List (List ℕ) → Bool
is_absent w names = list_all (λ n. not (pointwise nat_eq n w)) names

-- what comes after a letter in the names that begin with it
abbrev tails : ℕ → List (List ℕ) → List (List ℕ)
tails a [] = []
tails a ([] ∷ names) = tails a names
tails a ((b ∷ bs) ∷ names) = cond (eqb b a) (bs ∷ tails a names) (tails a names)

few_tails : (names : List (List ℕ))
    → length (tails 65 names) + length (tails 66 names) ≤ length names
few_tails [] = omega arith
few_tails ([] ∷ names) = let h = few_tails names in omega (arith, h)
few_tails ((b ∷ bs) ∷ names) = go (eqb b 65) (eqb b 66) refl refl (few_tails names)
  where
    go : (p q : Bool) → eqb b 65 ≡ p → eqb b 66 ≡ q
        → length (tails 65 names) + length (tails 66 names) ≤ length names
        → length (cond (eqb b 65) (bs ∷ tails 65 names) (tails 65 names))
        + length (cond (eqb b 66) (bs ∷ tails 66 names) (tails 66 names)) ≤ suc (length names)
    go true true e f h = absurd (omega (arith, eqb-true b 65 e, eqb-true b 66 f))
    go true false e f h = rw (e, f) (omega (arith, h))
    go false true e f h = rw (e, f) (omega (arith, h))
    go false false e f h = rw (e, f) (omega (arith, h))

and_both : (a b : Bool) → (a && b) ≡ true → (a ≡ true) × (b ≡ true)
and_both true b e = (refl, e)
and_both false b e = absurd cc

-- a word after a letter is none of the names if it is none of what comes after that letter
absent_more : (a : ℕ) (w : List ℕ) (names : List (List ℕ)) → is_absent w (tails a names) ≡ true
    → is_absent (a ∷ w) names ≡ true
absent_more a w [] h = refl
absent_more a w ([] ∷ names) h = absent_more a w names h
absent_more a w ((b ∷ bs) ∷ names) h = go (eqb b a) refl (λ k. absent_more a w names k)
  where
    go : (p : Bool) → eqb b a ≡ p
        → (is_absent w (tails a names) ≡ true → is_absent (a ∷ w) names ≡ true)
        → (not (eqb b a && pointwise nat_eq bs w) && is_absent (a ∷ w) names) ≡ true
    go true e more =
        let k : (not (pointwise nat_eq bs w) && is_absent w (tails a names)) ≡ true =
        sym (ap (λ (x : Bool). is_absent w (cond x (bs ∷ tails a names) (tails a names))) e)
        ∙ h in
        let g = and_both (not (pointwise nat_eq bs w)) (is_absent w (tails a names)) k in
        rw (e, g.0) (more g.1)
    go false e more =
        let k : is_absent w (tails a names) ≡ true =
        sym (ap (λ (x : Bool). is_absent w (cond x (bs ∷ tails a names) (tails a names))) e)
        ∙ h in
        rw e (more k)

-- a word of k letters that is none of the names
record Word (k : ℕ) (names : List (List ℕ)) : Type 0 where
  word : List ℕ
  long : length word ≡ k
  letters : list_all is_letter word ≡ true
  absent : is_absent word names ≡ true

behind : (k a : ℕ) (names : List (List ℕ)) → is_letter a ≡ true → Word k (tails a names)
    → Word (suc k) names
behind k a names h w = record {
  word = a ∷ w.word;
  long = ap suc w.long;
  letters = rw h w.letters;
  absent = absent_more a w.word names w.absent;
}

half : (m n p : ℕ) → m + n < p + p → (m < p) ⊎ (n < p)
half m n p h = go (ltb m p) refl
  where
    go : (b : Bool) → ltb m p ≡ b → (m < p) ⊎ (n < p)
    go true e = inl (ltb-true m p e)
    go false e = let k = ltb-false m p e in inr (omega (arith, h, k))

word_of : (k : ℕ) (names : List (List ℕ)) → length names < 2 ^ k → Word k names
word_of zero [] h = record { word = []; long = refl; letters = refl; absent = refl }
word_of zero (n ∷ names) h = absurd (omega (arith, h))
word_of (suc k) names h =
    elim (half (length (tails 65 names)) (length (tails 66 names)) (2 ^ k)
    (omega (arith, few_tails names, h, pow-succ' 2 k))) [
      | inl p ↦ behind k 65 names refl (word_of k (tails 65 names) p)
      | inr p ↦ behind k 66 names refl (word_of k (tails 66 names) p)
    ]

-- ---- such a word is a name

letter_cases : (b : ℕ) → is_letter b ≡ true → (b ≡ 65) ⊎ (b ≡ 66)
letter_cases b h = go (eqb b 65) refl
  where
    go : (p : Bool) → eqb b 65 ≡ p → (b ≡ 65) ⊎ (b ≡ 66)
    go true e = inl (eqb-true b 65 e)
    go false e = inr (eqb-true b 66 (sym (ap (λ (x : Bool). x || eqb b 66) e) ∙ h))

each_letter : (test : ℕ → Bool) → test 65 ≡ true → test 66 ≡ true → (w : List ℕ)
    → list_all is_letter w ≡ true → list_all test w ≡ true
each_letter test a b [] h = refl
each_letter test a b (c ∷ w) h =
    let g = and_both (is_letter c) (list_all is_letter w) h in
    let is : test c ≡ true =
    elim (letter_cases c g.0) [ inl e ↦ ap test e ∙ a | inr e ↦ ap test e ∙ b ] in
    rw is (each_letter test a b w g.1)

no_nuls : (w : List ℕ) → list_all is_letter w ≡ true → without_nuls w ≡ w
unfolding without_nuls
no_nuls [] h = refl
no_nuls (c ∷ w) h =
    let g = and_both (is_letter c) (list_all is_letter w) h in
    let is : eqb c 0 ≡ false =
    elim (letter_cases c g.0)
    [ inl e ↦ ap (λ (n : ℕ). eqb n 0) e | inr e ↦ ap (λ (n : ℕ). eqb n 0) e ] in
    rw is (ap (λ (l : List ℕ). c ∷ l) (no_nuls w g.1))

module _ (w : List ℕ) (long : length w ≡ 80) (letters : list_all is_letter w ≡ true) where
  name_is : is_name w ≡ true
  name_is = rw (long, each_letter is_visible refl refl w letters) refl

  word_named : name_of (sample STRNAME 6 w) ≡ Ok w
  unfolding name_of
  word_named = rw (no_nuls w letters, name_is) refl

  word_formed : is_formed (sample STRNAME 6 w) ≡ true
  unfolding data_fault
  word_formed = rw (long, each_letter is_byte refl refl w letters) refl

absent_place : (i : ℕ) (ss : List Structure) (w : List ℕ)
    → is_absent w (map (λ (s : Structure). s.name) ss) ≡ true → place_from i ss w ≡ None
absent_place i [] w h = refl
absent_place i (s ∷ ss) w h =
    let g =
    and_both (not (pointwise nat_eq s.name w))
    (is_absent w (map (λ (s : Structure). s.name) ss)) h in
    rw (false_of (pointwise nat_eq s.name w) g.0) (absent_place (i + 1) ss w g.1)
  where
    false_of : (b : Bool) → not b ≡ true → b ≡ false
    false_of true e = absurd cc
    false_of false e = refl

pub fresh_name : (ss : List Structure) → length ss < 2 ^ 80 → Fresh ss
fresh_name ss few =
    let names : List (List ℕ) = map (λ (s : Structure). s.name) ss in
    let w = word_of 80 names (omega (arith, few, length-map ss (λ (s : Structure). s.name))) in
    record {
      strname = sample STRNAME 6 w.word;
      kind_is = refl;
      formed = word_formed w.word w.long w.letters;
      name = w.word;
      named = word_named w.word w.long w.letters;
      absent = absent_place 0 ss w.word w.absent;
    }
