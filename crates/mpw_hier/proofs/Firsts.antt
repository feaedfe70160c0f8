-- The contents of submissions in their order: later ones change nothing.
use Rattle.std.proofs.Common.{◌≡◌, ℕ, suc, ◌+◌, ◌<◌, ◌≤◌, List, [], ◌∷◌, ◌++◌, length, get_or, take, drop, Some, refl, sym, ap, subst, ◌∙◌, arith, append-nil}
use Rattle.std.specs.Prelude.{slice_get}
use Rattle.std.proofs.lemmas.List.{length-append, take-append-drop, take-append-le, get_or-take, length-take}
use Rattle.std.proofs.Math.Seq.{take-append_seam, get_or-append_seam, take-suc}
use Rattle.std.proofs.lemmas.Option.{slice_get_within, get_or_from_slice_get}
use Rattle.mpw_hier.specs.declared.submission.Submission.{Submission}
use Rattle.mpw_hier.specs.Values.{from_first}

module _ {V : Type 0} (shown : List V → Submission → V) where
  pub firsts_append : (before : List V) (ss ts : List Submission)
      → from_first shown before (ss ++ ts) ≡ from_first shown (from_first shown before ss) ts
  unfolding from_first
  firsts_append before [] ts = refl
  firsts_append before (s ∷ ss) ts = firsts_append (before ++ shown before s ∷ []) ss ts

  pub firsts_length : (before : List V) (ss : List Submission)
      → length (from_first shown before ss) ≡ length before + length ss
  unfolding from_first
  firsts_length before [] = omega arith
  firsts_length before (s ∷ ss) =
      let n = firsts_length (before ++ shown before s ∷ []) ss in
      let m = length-append before (shown before s ∷ []) in
      omega (arith, n, m)

  -- what comes before stays
  pub firsts_front : (before : List V) (ss : List Submission)
      → take (length before) (from_first shown before ss) ≡ before
  unfolding from_first
  firsts_front before [] = subst (λ xs. take (length before) xs ≡ before) (append-nil before)
      (take-append_seam before [])
  firsts_front before (s ∷ ss) =
      let next = before ++ shown before s ∷ [] in
      let rest = from_first shown next ss in
      let long : length next ≡ length before + 1 = length-append before (shown before s ∷ []) in
      let enough : length next ≤ length rest = omega (arith, firsts_length next ss) in
      let split : rest ≡ next ++ drop (length next) rest = sym (take-append-drop (length next) rest)
      ∙ ap (λ xs. xs ++ drop (length next) rest) (firsts_front next ss) in
      let least : length before ≤ length next = omega (arith, long) in
      ap (take (length before)) split ∙ take-append-le (length before) next
      (drop (length next) rest) least ∙ take-append_seam before (shown before s ∷ [])

  -- one submission more
  pub firsts_more : (ss : List Submission) (s : Submission)
      → from_first shown [] (ss ++ s ∷ []) ≡ from_first shown [] ss
      ++ shown (from_first shown [] ss) s ∷ []
  unfolding from_first
  firsts_more ss s = firsts_append [] ss (s ∷ [])

  -- the contents of the first submissions
  pub firsts_take : (n : ℕ) (ss : List Submission) → n ≤ length ss
      → take n (from_first shown [] ss) ≡ from_first shown [] (take n ss)
  firsts_take n ss le =
      let front = from_first shown [] (take n ss) in
      let sized : length front ≡ n = omega (
        arith,
        firsts_length [] (take n ss),
        length-take n ss,
        le,
      ) in
      let split : from_first shown [] ss ≡ from_first shown front (drop n ss) =
      ap (from_first shown []) (sym (take-append-drop n ss))
      ∙ firsts_append [] (take n ss) (drop n ss) in
      ap (take n) split ∙ subst (λ k. take k (from_first shown front (drop n ss)) ≡ front) sized
      (firsts_front front (drop n ss))

  -- the content of the submission with a number
  pub firsts_at : (ss : List Submission) (n : ℕ) (s : Submission) (d : V) → slice_get ss n ≡ Some s
      → get_or (from_first shown [] ss) n d ≡ shown (from_first shown [] (take n ss)) s
  firsts_at ss n s d is =
      let within = slice_get_within ss n s is in
      let sized : length (take n ss) ≡ n = omega (arith, length-take n ss, within) in
      let few : n + 1 ≤ length ss = omega (arith, within) in
      let at : get_or ss n s ≡ s = get_or_from_slice_get ss n s s is in
      let one : suc n ≡ n + 1 = omega arith in
      let step : take (n + 1) ss ≡ take n ss ++ s
      ∷ [] = subst (λ k. take k ss ≡ take n ss ++ s ∷ []) one
      (take-suc ss n s within ∙ ap (λ x. take n ss ++ x ∷ []) at) in
      let front = from_first shown [] (take n ss) in
      let long : length front ≡ n = omega (arith, firsts_length [] (take n ss), sized) in
      let lt : n < n + 1 = omega arith in
      sym (get_or-take (n + 1) (from_first shown [] ss) n d lt)
      ∙ ap (λ xs. get_or xs n d) (firsts_take (n + 1) ss few ∙ ap (from_first shown []) step
      ∙ firsts_more (take n ss) s) ∙ subst (λ k. get_or (front ++ shown front s ∷ []) k d
      ≡ shown front s) long (get_or-append_seam front (shown front s) [] d)

  -- the content of an earlier submission is the same before a later one
  pub firsts_earlier : (ss : List Submission) (n m : ℕ) (d : V) → m < n → n ≤ length ss
      → get_or (from_first shown [] (take n ss)) m d ≡ get_or (from_first shown [] ss) m d
  firsts_earlier ss n m d lt le = ap (λ xs. get_or xs m d) (sym (firsts_take n ss le))
      ∙ get_or-take n (from_first shown [] ss) m d lt
