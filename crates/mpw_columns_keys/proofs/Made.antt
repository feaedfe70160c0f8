-- The pieces that have a row, sorted and joined.
use Rattle.std.proofs.Common.{◌≡◌, ◌∙◌, ◌≤◌, ◌⊎◌, get_or, Bool, true, false, List, [], ◌∷◌, inl, inr, sym, subst, ap, arith}
use Rattle.std.specs.Prelude.{All, Contains, filter, if◌then◌else◌, ◌↔◌}
use Rattle.std.specs.List.Sorted.{IsPermutation, IsSorted}
use Rattle.std.proofs.lemmas.Int.{ints}
use Rattle.std.proofs.lemmas.List.Elements.{All-contains, filter_passes, All-weaker, Contains-get_or}
use Rattle.std.proofs.lemmas.List.Sorted.{All-permutation, Contains-permutation, IsPermutation-sym}
use Rattle.mpw_markers.specs.declared.marker.Key.{Key}
use Rattle.mpw_markers.proofs.Unique.{cons_cases, Contains-head, Contains-tail}
use Rattle.mpw_columns_keys.specs.Keys.{key_cmp}
use Rattle.mpw_columns_keys.specs.Internal.{IsFilled, has_rows, AreRunsOf}
use Rattle.mpw_columns_keys.proofs.Order.{begins_in_order}
use Rattle.mpw_columns_keys.proofs.Runs.{AreMadeOf, runs_made}
use Rattle.mpw_columns_keys.proofs.Exact.{made_of_all}

-- ---- those that pass a test

module _ {X : Type 0} (test : X → Bool) where
  abbrev next : X → List X → Bool → List X
  next x xs b = if b then x ∷ filter test xs else filter test xs

  from_next : (x : X) (xs : List X) (y : X) (b : Bool) → Contains (next x xs b) y
      → (x ≡ y) ⊎ Contains (filter test xs) y
  from_next x xs y true c = cons_cases x (filter test xs) y c
  from_next x xs y false c = inr c

  from_filter : (xs : List X) (y : X) → Contains (filter test xs) y → Contains xs y
  from_filter [] y c = c
  from_filter (x ∷ xs) y c = elim (from_next x xs y (test x) c) [
    | inl e ↦ subst (Contains (x ∷ xs)) e (Contains-head x xs)
    | inr d ↦ Contains-tail x xs y (from_filter xs y d)
  ]

  to_next : (x : X) (xs : List X) (y : X) (b : Bool) → Contains (filter test xs) y
      → Contains (next x xs b) y
  to_next x xs y true c = Contains-tail x (filter test xs) y c
  to_next x xs y false c = c

  to_filter : (xs : List X) (y : X) → test y ≡ true → Contains xs y → Contains (filter test xs) y
  to_filter [] y passes c = c
  to_filter (x ∷ xs) y passes c = elim (cons_cases x xs y c) [
    | inl e ↦ subst (λ b. Contains (next x xs b) y) (sym (ap test e ∙ passes))
        (subst (Contains (x ∷ filter test xs)) e (Contains-head x (filter test xs)))
    | inr d ↦ to_next x xs y (test x) (to_filter xs y passes d)
  ]

has_row : (k : Key) → has_rows k ≡ true → IsFilled k
has_row k e = grind (arith, ints)

row_had : (k : Key) → IsFilled k → has_rows k ≡ true
row_had k f = grind (arith, ints)

filtered : (pieces : List Key) → All IsFilled (filter has_rows pieces)
filtered pieces = All-weaker (λ k. has_rows k ≡ true) IsFilled has_row (filter has_rows pieces)
    (filter_passes has_rows pieces)

-- ---- sorted

module _ (pieces some sorted given runs : List Key) (left : some ≡ filter has_rows pieces)
    (moved : IsPermutation some sorted) (up : IsSorted key_cmp sorted) (is : given ≡ sorted)
    (axis : (k l : Key) → Contains pieces k → Contains pieces l → k.piece.axis ≡ l.piece.axis)
    (sides : All (λ k. k.piece.side ≤ 1) pieces) (made : AreRunsOf given runs) where
  all_filled : All IsFilled sorted
  all_filled = All-permutation IsFilled some sorted moved
      (subst (All IsFilled) (sym left) (filtered pieces))

  of_pieces : (k : Key) → Contains sorted k → Contains pieces k
  of_pieces k c = from_filter has_rows pieces k
      (subst (λ (ks : List Key). Contains ks k) left
      (Contains-permutation sorted some k (IsPermutation-sym some sorted moved) c))

  same_pieces : (k : Key) → Contains sorted k ↔ (Contains pieces k × IsFilled k)
  same_pieces k = (
    λ c. (of_pieces k c, All-contains IsFilled sorted k all_filled c),
    λ p. Contains-permutation some sorted k moved
        (subst (λ (ks : List Key). Contains ks k) (sym left)
        (to_filter has_rows pieces k (row_had k p.1) p.0)),
  )

  all_sides : All (λ k. k.piece.side ≤ 1) sorted
  all_sides = λ i d l.
      All-contains (λ k. k.piece.side ≤ 1) pieces (get_or sorted i d) sides
      (of_pieces (get_or sorted i d) (Contains-get_or sorted i d l))

  pub made_in_order : AreMadeOf pieces runs
  made_in_order =
      made_of_all pieces sorted runs same_pieces
      (runs_made sorted runs all_filled
      (begins_in_order sorted (λ k l c d. axis k l (of_pieces k c) (of_pieces l d)) all_sides up)
      (subst (λ (ks : List Key). AreRunsOf ks runs) is made))
