-- Points of a text.
use Rattle.std.proofs.Common.{◌≡◌, Bool, true, false, not, ◌&&◌, ℕ, zero, suc, ◌+◌, ◌*◌, ◌^◌, ◌<◌, ◌≤◌, pos, List, [], ◌∷◌, ◌++◌, length, take, get_or, refl, sym, ap, subst, ◌∙◌, arith}
use mir.Syntax.{w32}
use Rattle.std.specs.Prelude.{unsigned_abs}
use Rattle.std.specs.Int.{cast_signed}
use Rattle.std.proofs.lemmas.Nat.{mul-le}
use Rattle.std.proofs.lemmas.Int.{ints, unsigned_abs-mul}
use Rattle.std.proofs.lemmas.List.{take_more}
use Rattle.std.specs.Ordering.{int_eq}
use Rattle.std.proofs.lemmas.Bool.Decides.{nat_tests, Decides-int_eq}
use Rattle.byteorder.specs.Endian.{big_number}
use Rattle.mpw_geom.specs.declared.plane.Point.{Point}
use Rattle.mpw_structures.specs.declared.coordinates.Text.{Text}
use Rattle.mpw_structures.specs.declared.coordinates.Coordinates.{Coordinates}
use Rattle.mpw_structures.specs.declared.coordinates.Coordinates.TheVariants.{Shared}
use Rattle.mpw_structures.specs.Coordinates.{scaled, point_from, no_point}
use Rattle.mpw_structures.specs.Internal.Coordinates.{points_from, points_in, Fits, IsWithin}

narrow : (n : ℕ) → unsigned_abs (cast_signed w32 n) ≤ 2 ^ 31
narrow n = grind (arith, nat_tests, ints)

pub scaled_bound : (unit : ℕ) (bytes : List ℕ) → unit ≤ 1000
    → unsigned_abs (scaled unit bytes) < 2 ^ 42
unfolding scaled
scaled_bound unit bytes h =
    let n = big_number 4 bytes in
    let p = mul-le (unsigned_abs (cast_signed w32 n)) unit (2 ^ 31) 1000 (narrow n) h in
    rw (unsigned_abs-mul (cast_signed w32 n) (pos unit)) (omega (arith, p))

pub points_length : (unit : ℕ) (bytes : List ℕ) (at count : ℕ)
    → length (points_from unit bytes at count) ≡ count
points_length unit bytes at zero = refl
points_length unit bytes at (suc n) = rw (points_length unit bytes (at + 8) n) (omega arith)

-- the point at an index
pub point_of : (unit : ℕ) (bytes : List ℕ) (at count i : ℕ) → i < count
    → get_or (points_from unit bytes at count) i no_point ≡ point_from unit bytes (at + 8 * i)
point_of unit bytes at zero i h = absurd (omega (arith, h))
point_of unit bytes at (suc n) zero h = ap (point_from unit bytes) (omega arith)
point_of unit bytes at (suc n) (suc i) h =
    let less : i < n = omega (arith, h) in
    let same : (at + 8) + 8 * i ≡ at + 8 * suc i = omega arith in
    point_of unit bytes (at + 8) n i less ∙ ap (point_from unit bytes) same

-- one more
pub points_more : (unit : ℕ) (bytes : List ℕ) (at count : ℕ)
    → points_from unit bytes at (suc count) ≡ points_from unit bytes at count ++ point_from unit bytes (at + 8 * count) ∷ []
points_more unit bytes at zero =
    let same : at ≡ at + 8 * 0 = omega arith in
    ap (λ p. point_from unit bytes p ∷ []) same
points_more unit bytes at (suc n) =
    let same : (at + 8) + 8 * n ≡ at + 8 * suc n = omega arith in
    ap (λ ps. point_from unit bytes at ∷ ps) (points_more unit bytes (at + 8) n
    ∙ ap (λ p. points_from unit bytes (at + 8) n ++ point_from unit bytes p ∷ []) same)

-- the points so far and one more are those of a list
pub points_next : (unit : ℕ) (bytes : List ℕ) (at i : ℕ) (ps : List Point) (d : Point) → i < length ps
    → points_from unit bytes at i ≡ take i ps → point_from unit bytes (at + 8 * i) ≡ get_or ps i d
    → points_from unit bytes at (i + 1) ≡ take (i + 1) ps
points_next unit bytes at i ps d h before same =
    let one : i + 1 ≡ suc i = omega arith in
    ap (points_from unit bytes at) one ∙ points_more unit bytes at i
    ∙ ap (λ xs. xs ++ point_from unit bytes (at + 8 * i) ∷ []) before
    ∙ ap (λ p. take i ps ++ p ∷ []) same ∙ sym (take_more ps i d h)

both_hold : (a b : Bool) → false ≡ not (a && b) → (a ≡ true) × (b ≡ true)
both_hold true true e = (refl, refl)
both_hold true false e = absurd cc
both_hold false b e = absurd cc

pub same_if_not_apart : (p q : Point) → false ≡ not (int_eq p.x q.x && int_eq p.y q.y) → p ≡ q
same_if_not_apart p q e =
    let both = both_hold (int_eq p.x q.x) (int_eq p.y q.y) e in
    let x = (Decides-int_eq p.x q.x).0 both.0 in
    let y = (Decides-int_eq p.y q.y).0 both.1 in
    λ i. record { x = x i; y = y i }

-- ---- a list of points in the text

pub shared_length : (source : Coordinates) (text : Text) (at count : ℕ) (ps : List Point)
    → source ≡ Shared text → points_in source at count ≡ ps → count ≡ length ps
shared_length source text at count ps e view =
    sym (points_length text.unit text.bytes.value.items at count)
    ∙ ap (λ s. length (points_in s at count)) (sym e) ∙ ap length view

pub shared_within : (source : Coordinates) (text : Text) (at count : ℕ) → source ≡ Shared text
    → Fits source at count → IsWithin text at count
shared_within source text at count e h = subst (λ s. Fits s at count) e h

pub shared_point : (source : Coordinates) (text : Text) (at count i : ℕ) (ps : List Point)
    → source ≡ Shared text → points_in source at count ≡ ps → i < length ps
    → get_or ps i no_point ≡ point_from text.unit text.bytes.value.items (at + 8 * i)
shared_point source text at count i ps e view h =
    let same : points_from text.unit text.bytes.value.items at count ≡ ps =
    ap (λ s. points_in s at count) (sym e) ∙ view in
    let less : i < count = omega (arith, h, shared_length source text at count ps e view) in
    ap (λ xs. get_or xs i no_point) (sym same)
    ∙ point_of text.unit text.bytes.value.items at count i less
