-- Maps of joined lists.
use Rattle.std.proofs.Common.{◌≡◌, ◌+◌, ℕ, zero, suc, List, [], ◌∷◌, ◌++◌, length, map, refl, sym, ap, ◌∙◌, arith}
use Rattle.std.specs.Prelude.{slice_get, Some}
use Rattle.std.specs.List.{flat_map, range_with_len}
use Rattle.std.proofs.lemmas.List.{map-append}

pub map_same : {X Y : Type 0} (f g : X → Y) → ((x : X) → f x ≡ g x) → (xs : List X)
    → map f xs ≡ map g xs
map_same f g e [] = refl
map_same f g e (x ∷ xs) = rw (e x, map_same f g e xs) refl

pub flat_map_same : {X Y : Type 0} (f g : X → List Y) → ((x : X) → f x ≡ g x) → (xs : List X)
    → flat_map f xs ≡ flat_map g xs
flat_map_same f g e [] = refl
flat_map_same f g e (x ∷ xs) = rw (e x, flat_map_same f g e xs) refl

pub map_twice : {X Y Z : Type 0} (g : Y → Z) (f : X → Y) (xs : List X)
    → map g (map f xs) ≡ map (λ x. g (f x)) xs
map_twice g f [] = refl
map_twice g f (x ∷ xs) = ap (λ ys. g (f x) ∷ ys) (map_twice g f xs)

pub map_flat : {X Y Z : Type 0} (g : Y → Z) (f : X → List Y) (xs : List X)
    → map g (flat_map f xs) ≡ flat_map (λ x. map g (f x)) xs
map_flat g f [] = refl
map_flat g f (x ∷ xs) =
    map-append g (f x) (flat_map f xs) ∙ ap (λ ys. map g (f x) ++ ys) (map_flat g f xs)

pub range_more : (a n : ℕ) → range_with_len a (n + 1) ≡ range_with_len a n ++ (a + n) ∷ []
range_more a zero =
    let e : a + 0 ≡ a = omega arith in ap (λ m. m ∷ []) (sym e)
range_more a (suc n) =
    let e : suc n + 1 ≡ suc (n + 1) = omega arith in
    let f : (a + 1) + n ≡ a + suc n = omega arith in
    ap (range_with_len a) e ∙ ap (λ ns. a ∷ ns)
    (range_more (a + 1) n ∙ ap (λ m. range_with_len (a + 1) n ++ m ∷ []) f)

pub get_at : {X : Type 0} (front : List X) (x : X) (xs : List X)
    → slice_get (front ++ x ∷ xs) (length front) ≡ Some x
get_at [] x xs = refl
get_at (y ∷ front) x xs = get_at front x xs
