-- Two lists, related place by place.
use Rattle.std.proofs.Common.{◌≡◌, ℕ, zero, suc, List, [], ◌∷◌, Some, None, length, refl, ap, subst}
use Rattle.std.specs.Prelude.{slice_get}
use Rattle.std.specs.List.{AllZip}

just : {X : Type 0} (x y : X) → Some x ≡ Some y → x ≡ y
just x y e = cc

none : {X : Type 0} (y : X) → None ≡ Some y → ⊥
none y e = absurd cc

pub zip_at : {X Y : Type 0} (R : X → Y → Type 0) (xs : List X) (ys : List Y) (i : ℕ) (x : X) (y : Y)
    → AllZip R xs ys → slice_get xs i ≡ Some x → slice_get ys i ≡ Some y → R x y
zip_at R [] ys i x y h a b = absurd (none x a)
zip_at R (u ∷ xs) [] i x y h a b = absurd h
zip_at R (u ∷ xs) (v ∷ ys) zero x y h a b =
    subst (λ z. R z y) (just u x a) (subst (R u) (just v y b) h.0)
zip_at R (u ∷ xs) (v ∷ ys) (suc i) x y h a b = zip_at R xs ys i x y h.1 a b

pub zip_map : {X Y : Type 0} (R S : X → Y → Type 0) → ((x : X) (y : Y) → R x y → S x y)
    → (xs : List X) (ys : List Y) → AllZip R xs ys → AllZip S xs ys
zip_map R S f [] [] h = tt
zip_map R S f [] (y ∷ ys) h = absurd h
zip_map R S f (x ∷ xs) [] h = absurd h
zip_map R S f (x ∷ xs) (y ∷ ys) h = (f x y h.0, zip_map R S f xs ys h.1)

-- There are as many of the one as of the other.
pub zip_length : {X Y : Type 0} (R : X → Y → Type 0) (xs : List X) (ys : List Y) → AllZip R xs ys
    → length xs ≡ length ys
zip_length R [] [] h = refl
zip_length R [] (y ∷ ys) h = absurd h
zip_length R (x ∷ xs) [] h = absurd h
zip_length R (x ∷ xs) (y ∷ ys) h = ap suc (zip_length R xs ys h.1)
