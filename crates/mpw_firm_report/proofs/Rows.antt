-- Texts of numbers and of rows, one after another.
use Rattle.std.proofs.Common.{◌≡◌, ℕ, ◌+◌, ◌<◌, ◌≤◌, List, [], ◌∷◌, ◌++◌, length, get_or, map, take, sym, ap, ◌∙◌, append_assoc, append-nil, arith}
use Rattle.std.specs.List.{flat_map, range_with_len, enumerate_from}
use Rattle.std.proofs.lemmas.List.{take_more, take_all}
use Rattle.std.proofs.lemmas.List.Folds.{flat_map-map}
use Rattle.std.proofs.lemmas.List.FromFn.{map-range_with_len_more, length-enumerate_from, get_or-enumerate_from}

behind_all : {X : Type 0} (f : X → List ℕ) (xs : List X) (x : X)
    → flat_map f (xs ++ x ∷ []) ≡ flat_map f xs ++ f x
behind_all f [] x = simp append-nil
behind_all f (y ∷ xs) x =
    ap (λ t. f y ++ t) (behind_all f xs x) ∙ sym (append_assoc (f y) (flat_map f xs) (f x))

itself : List ℕ → List ℕ
itself text = text

-- one colour more
pub colours_more : (f : ℕ → List ℕ) (n : ℕ)
    → flat_map f (range_with_len 0 n) ++ f n ≡ flat_map f (range_with_len 0 (n + 1))
unfolding itself
colours_more f n =
    sym (sym (flat_map-map itself f (range_with_len 0 (n + 1)))
    ∙ ap (flat_map itself) (map-range_with_len_more f 0 n n (omega arith))
    ∙ behind_all itself (map f (range_with_len 0 n)) (f n)
    ∙ ap (λ t. t ++ f n) (flat_map-map itself f (range_with_len 0 n)))

-- one row more
pub rows_more : {X : Type 0} (f : ℕ × X → List ℕ) (xs : List X) (i : ℕ) (d : X) → i < length xs
    → flat_map f (take i (enumerate_from 0 xs)) ++ f (i, get_or xs i d)
    ≡ flat_map f (take (i + 1) (enumerate_from 0 xs))
rows_more f xs i d h =
    let first : 0 + i ≡ i = omega arith in
    let inside : i < length (enumerate_from 0 xs) = omega (arith, h, length-enumerate_from 0 xs) in
    sym (ap (flat_map f) (take_more (enumerate_from 0 xs) i (i, d) inside)
    ∙ behind_all f (take i (enumerate_from 0 xs)) (get_or (enumerate_from 0 xs) i (i, d))
    ∙ ap (λ x. flat_map f (take i (enumerate_from 0 xs)) ++ f x)
    (get_or-enumerate_from 0 xs i (i, d) h)
    ∙ ap (λ j. flat_map f (take i (enumerate_from 0 xs)) ++ f (j, get_or xs i d)) first)

-- all rows
pub rows_all : {X : Type 0} (f : ℕ × X → List ℕ) (xs : List X) (i : ℕ) → length xs ≤ i
    → flat_map f (take i (enumerate_from 0 xs)) ≡ flat_map f (enumerate_from 0 xs)
rows_all f xs i h =
    ap (flat_map f) (take_all i (enumerate_from 0 xs) (omega (arith, h, length-enumerate_from 0 xs)))
