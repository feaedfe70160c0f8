-- Rectangles that are sorted by layer.
use Rattle.std.proofs.Common.{◌≡◌, ℕ, ◌<◌, ◌≤◌, ◌+◌, Bool, true, false, ◌&&◌, ◌||◌, List, ◌++◌, length, get_or, take, drop, refl, sym, subst, ap, ◌∙◌, arith}
use Rattle.std.specs.Prelude.{ℤ, All, nat_lt as ltb}
use Rattle.std.specs.List.{AllWithin}
use Rattle.std.specs.List.Sorted.{IsPermutation, IsPartitionPoint}
use Rattle.std.proofs.Math.Path.{fun_ext}
use Rattle.std.proofs.lemmas.Bool.{ltb-true, ltb-false}
use Rattle.std.proofs.lemmas.List.{take-append-drop, get_or-take, get_or-drop, length-take, length-drop}
use Rattle.std.proofs.lemmas.List.Folds.{list_any-append, list_any_none}
use Rattle.std.proofs.lemmas.List.Sorted.{list_any-IsPermutation}
use Rattle.mpw_geom.specs.declared.plane.Layer.{Layer}
use Rattle.mpw_geom.specs.Plane.{has_square}
use Rattle.mpw_tiles.specs.declared.listing.Rectangle.{Rectangle}
use Rattle.mpw_geom.specs.Layers.{same_layer}
use Rattle.mpw_work.specs.Internal.Layers.{layer_code}
use Rattle.mpw_job.specs.Answers.{listed_on}
use Rattle.mpw_job.proofs.Tests.{same_from, is_false}

-- ---- parts

all_taken : {X : Type 0} (P : X → Type 0) (xs : List X) (n : ℕ) → AllWithin P xs 0 n
    → All P (take n xs)
all_taken P xs n h k d l = subst P (sym (get_or-take n xs k d (omega (arith, l, length-take n xs))))
    (h k d (omega arith) (omega (arith, l, length-take n xs)))

all_dropped : {X : Type 0} (P : X → Type 0) (xs : List X) (n : ℕ) → AllWithin P xs n (length xs)
    → All P (drop n xs)
all_dropped P xs n h k d l = subst P (sym (get_or-drop n xs k d))
    (h (n + k) d (omega arith) (omega (arith, l, length-drop n xs)))

abbrev pub code_of : Rectangle → ℕ
code_of r = layer_code r.layer

abbrev pub IsFront : ℕ → Rectangle → Bool
IsFront code r = ltb (code_of r) code

pub before : (xs : List Rectangle) (code n : ℕ)
    → IsPartitionPoint (λ r. IsFront code r ≡ true) (λ r. IsFront code r ≡ false) xs n
    → All (λ r. code_of r < code) (take n xs)
before xs code n h = all_taken (λ (r : Rectangle). code_of r < code) xs n
    (λ k d l b. ltb-true (code_of (get_or xs k d)) code (h.0 k d l b))

pub behind : (xs : List Rectangle) (code n : ℕ)
    → IsPartitionPoint (λ r. IsFront code r ≡ true) (λ r. IsFront code r ≡ false) xs n
    → All (λ r. code ≤ code_of r) (drop n xs)
behind xs code n h = all_dropped (λ (r : Rectangle). code ≤ code_of r) xs n
    (λ k d l b. ltb-false (code_of (get_or xs k d)) code (h.1 k d l b))

-- ---- layers apart

apart : (r : Rectangle) (layer : Layer) → (code_of r ≡ layer_code layer → ⊥)
    → same_layer r.layer layer ≡ false
apart r layer h =
    is_false (same_layer r.layer layer) (λ e. h (ap layer_code (same_from r.layer layer e)))

none_on : (xs : List Rectangle) (layer : Layer) (i j : ℤ)
    → All (λ r. code_of r ≡ layer_code layer → ⊥) xs → listed_on xs layer i j ≡ false
none_on xs layer i j h =
    list_any_none (λ (r : Rectangle). same_layer r.layer layer
    && has_square r.area (record { column = i; row = j })) xs
    (λ k d l. ap (λ (b : Bool). b && has_square (get_or xs k d).area
    (record { column = i; row = j })) (apart (get_or xs k d) layer (h k d l)))

or_false : (b : Bool) → (b || false) ≡ b
or_false true = refl
or_false false = refl

appended : (xs ys : List Rectangle) (layer : Layer) (i j : ℤ)
    → listed_on (xs ++ ys) layer i j ≡ (listed_on xs layer i j || listed_on ys layer i j)
appended xs ys layer i j = list_any-append (λ (r : Rectangle). same_layer r.layer layer
    && has_square r.area (record { column = i; row = j })) xs ys

without_front : (xs : List Rectangle) (n : ℕ) (layer : Layer) (i j : ℤ)
    → All (λ r. code_of r < layer_code layer) (take n xs)
    → listed_on (drop n xs) layer i j ≡ listed_on xs layer i j
without_front xs n layer i j h =
    ap (λ (b : Bool). b || listed_on (drop n xs) layer i j)
    (sym (none_on (take n xs) layer i j (λ k d l e. let lt = h k d l in absurd (omega arith))))
    ∙ sym (appended (take n xs) (drop n xs) layer i j)
    ∙ ap (λ (ys : List Rectangle). listed_on ys layer i j) (take-append-drop n xs)

without_back : (xs : List Rectangle) (n : ℕ) (layer : Layer) (i j : ℤ)
    → All (λ r. layer_code layer + 1 ≤ code_of r) (drop n xs)
    → listed_on (take n xs) layer i j ≡ listed_on xs layer i j
without_back xs n layer i j h =
    sym (or_false (listed_on (take n xs) layer i j))
    ∙ ap (λ (b : Bool). listed_on (take n xs) layer i j || b)
    (sym (none_on (drop n xs) layer i j (λ k d l e. let lt = h k d l in absurd (omega arith))))
    ∙ sym (appended (take n xs) (drop n xs) layer i j)
    ∙ ap (λ (ys : List Rectangle). listed_on ys layer i j) (take-append-drop n xs)

pub found_on : (xs : List Rectangle) (m n : ℕ) (layer : Layer)
    → All (λ r. code_of r < layer_code layer) (take m xs)
    → All (λ r. layer_code layer + 1 ≤ code_of r) (drop n (drop m xs))
    → (i j : ℤ) → listed_on (take n (drop m xs)) layer i j ≡ listed_on xs layer i j
found_on xs m n layer f b i j =
    without_back (drop m xs) n layer i j b ∙ without_front xs m layer i j f

pub found_between : (xs ys : List Rectangle) (m n code : ℕ) (layer : Layer) → ys ≡ drop m xs
    → code ≡ layer_code layer
    → All (λ (r : Rectangle). layer_code r.layer < code) (take m xs)
    → All (λ (r : Rectangle). code + 1 ≤ layer_code r.layer) (drop n ys)
    → (i j : ℤ) → listed_on (take n ys) layer i j ≡ listed_on xs layer i j
found_between xs ys m n code layer e f a b =
    subst (λ (zs : List Rectangle). (i j : ℤ)
    → listed_on (take n zs) layer i j ≡ listed_on xs layer i j) (sym e)
    (found_on xs m n layer
    (subst (λ (k : ℕ). All (λ (r : Rectangle). layer_code r.layer < k) (take m xs)) f a)
    (subst (λ (k : ℕ). All (λ (r : Rectangle). k + 1 ≤ layer_code r.layer) (drop n (drop m xs))) f
    (subst (λ (zs : List Rectangle). All (λ (r : Rectangle). code + 1 ≤ layer_code r.layer)
    (drop n zs)) e b)))

-- ---- another order

pub same_on : (xs ys : List Rectangle) → IsPermutation xs ys → listed_on xs ≡ listed_on ys
same_on xs ys p = fun_ext (λ layer. fun_ext
    (λ i. fun_ext (λ j. list_any-IsPermutation (λ (r : Rectangle). same_layer r.layer layer
    && has_square r.area (record { column = i; row = j })) xs ys p)))
