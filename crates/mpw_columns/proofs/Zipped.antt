-- Two lists, related index by index.
use Rattle.std.proofs.Common.{◌≡◌, ℕ, zero, suc, ◌<◌, List, [], ◌∷◌, ◌++◌, length, get_or, take, drop, refl, ap, arith}
use Rattle.std.specs.List.{AllZip}

pub zip_length : {X Y : Type 0} (R : X → Y → Type 0) (xs : List X) (ys : List Y) → AllZip R xs ys
    → length xs ≡ length ys
zip_length R [] [] h = refl
zip_length R [] (y ∷ ys) h = absurd h
zip_length R (x ∷ xs) [] h = absurd h
zip_length R (x ∷ xs) (y ∷ ys) h = ap suc (zip_length R xs ys h.1)

pub zip_at : {X Y : Type 0} (R : X → Y → Type 0) (xs : List X) (ys : List Y) (i : ℕ) (d : X)
    (e : Y) → AllZip R xs ys → i < length xs → R (get_or xs i d) (get_or ys i e)
zip_at R [] ys i d e h l = let none : ⊥ = omega arith in absurd none
zip_at R (x ∷ xs) [] i d e h l = absurd h
zip_at R (x ∷ xs) (y ∷ ys) zero d e h l = h.0
zip_at R (x ∷ xs) (y ∷ ys) (suc i) d e h l = zip_at R xs ys i d e h.1 (omega arith)

pub zip_append : {X Y : Type 0} (R : X → Y → Type 0) (xs vs : List X) (ys ws : List Y)
    → AllZip R xs ys → AllZip R vs ws → AllZip R (xs ++ vs) (ys ++ ws)
zip_append R [] vs [] ws h k = k
zip_append R [] vs (y ∷ ys) ws h k = absurd h
zip_append R (x ∷ xs) vs [] ws h k = absurd h
zip_append R (x ∷ xs) vs (y ∷ ys) ws h k = (h.0, zip_append R xs vs ys ws h.1 k)

-- the front and the back
pub zip_front : {X Y : Type 0} (R : X → Y → Type 0) (xs vs : List X) (ys : List Y)
    → AllZip R (xs ++ vs) ys → AllZip R xs (take (length xs) ys) × AllZip R vs (drop (length xs) ys)
zip_front R [] vs ys h = (tt, h)
zip_front R (x ∷ xs) vs [] h = absurd h
zip_front R (x ∷ xs) vs (y ∷ ys) h =
    let rest = zip_front R xs vs ys h.1 in ((h.0, rest.0), rest.1)
