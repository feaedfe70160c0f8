-- Texts and sums of rows, one after another.
use Rattle.std.proofs.Common.{◌≡◌, ℕ, ◌+◌, ◌<◌, ◌≤◌, List, [], ◌∷◌, ◌++◌, length, get_or, take, sym, ap, ◌∙◌, append_assoc, append-nil, arith}
use Rattle.std.specs.Prelude.{sum_by}
use Rattle.std.specs.List.{flat_map, enumerate_from}
use Rattle.std.proofs.lemmas.List.{take_more, take_all}
use Rattle.std.proofs.lemmas.List.FromFn.{length-enumerate_from, get_or-enumerate_from}
use Rattle.std.proofs.lemmas.List.Sums.{sum_by_more}

behind_all : {X : Type 0} (f : X → List ℕ) (xs : List X) (x : X)
    → flat_map f (xs ++ x ∷ []) ≡ flat_map f xs ++ f x
behind_all f [] x = simp append-nil
behind_all f (y ∷ xs) x =
    ap (λ t. f y ++ t) (behind_all f xs x) ∙ sym (append_assoc (f y) (flat_map f xs) (f x))

-- The row at an index.
row_is : {X : Type 0} (xs : List X) (i : ℕ) (d : X) → i < length xs
    → get_or (enumerate_from 0 xs) i (i, d) ≡ (i, get_or xs i d)
row_is xs i d h =
    let first : 0 + i ≡ i = omega arith in
    get_or-enumerate_from 0 xs i (i, d) h ∙ ap (λ j. (j, get_or xs i d)) first

-- One row more.
pub rows_more : {X : Type 0} (f : ℕ × X → List ℕ) (xs : List X) (i : ℕ) (d : X) → i < length xs
    → flat_map f (take i (enumerate_from 0 xs)) ++ f (i, get_or xs i d)
    ≡ flat_map f (take (i + 1) (enumerate_from 0 xs))
rows_more f xs i d h =
    let inside : i < length (enumerate_from 0 xs) = omega (arith, h, length-enumerate_from 0 xs) in
    sym (ap (flat_map f) (take_more (enumerate_from 0 xs) i (i, d) inside)
    ∙ behind_all f (take i (enumerate_from 0 xs)) (get_or (enumerate_from 0 xs) i (i, d))
    ∙ ap (λ x. flat_map f (take i (enumerate_from 0 xs)) ++ f x) (row_is xs i d h))

-- All rows.
pub rows_all : {X : Type 0} (f : ℕ × X → List ℕ) (xs : List X) (i : ℕ) → length xs ≤ i
    → flat_map f (take i (enumerate_from 0 xs)) ≡ flat_map f (enumerate_from 0 xs)
rows_all f xs i h =
    ap (flat_map f) (take_all i (enumerate_from 0 xs) (omega (arith, h, length-enumerate_from 0 xs)))

-- The same for a sum.
pub sum_more : {X : Type 0} (f : ℕ × X → ℕ) (xs : List X) (i : ℕ) (d : X) → i < length xs
    → sum_by f (take (i + 1) (enumerate_from 0 xs))
    ≡ sum_by f (take i (enumerate_from 0 xs)) + f (i, get_or xs i d)
sum_more f xs i d h =
    let inside : i < length (enumerate_from 0 xs) = omega (arith, h, length-enumerate_from 0 xs) in
    sum_by_more f (enumerate_from 0 xs) i (i, d) inside
    ∙ ap (λ x. sum_by f (take i (enumerate_from 0 xs)) + f x) (row_is xs i d h)

pub sum_all : {X : Type 0} (f : ℕ × X → ℕ) (xs : List X) (i : ℕ) → length xs ≤ i
    → sum_by f (take i (enumerate_from 0 xs)) ≡ sum_by f (enumerate_from 0 xs)
sum_all f xs i h =
    ap (sum_by f) (take_all i (enumerate_from 0 xs) (omega (arith, h, length-enumerate_from 0 xs)))
