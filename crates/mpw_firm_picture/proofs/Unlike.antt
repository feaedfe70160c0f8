-- No two layers of a picture have the same style.
use Rattle.std.proofs.Common.{◌≡◌, ◌∙◌, ◌<◌, ◌≤◌, ◌+◌, ◌-◌, ◌*◌, ◌/◌, ◌%◌, ◌==◌, ◌&&◌, ◌||◌, ℕ, zero, suc, Bool, true, false, not, cond, List, [], ◌∷◌, length, refl, sym, ap, arith, ltb, ltb-true, ltb-false, Option, Some, None}
use Rattle.std.proofs.lemmas.Bool.{false≢true}
use Rattle.std.specs.Prelude.{unwrap_or}
use Rattle.std.specs.List.{list_any, prefix_len, position_or_len}
use Rattle.mpw_geom.specs.declared.plane.Layer.{Layer}
use Rattle.mpw_firm_picture.specs.Looks.{Look, plain, striped, angle_of, colour_of, hatch_of, is_layer, look_of, period_of, place_of, LayersLookUnlike, PlacesLookUnlike}

-- ---- indices

abbrev pub colour_in : Look → ℕ
colour_in (plain colour) = colour
colour_in (striped colour period angle) = colour

abbrev pub period_in : Look → ℕ
period_in (plain colour) = 0
period_in (striped colour period angle) = period

abbrev pub angle_in : Look → ℕ
angle_in (plain colour) = 0
angle_in (striped colour period angle) = angle

abbrev pub is_plain : Look → Bool
is_plain (plain colour) = true
is_plain (striped colour period angle) = false

abbrev pub look_by : Bool → ℕ → Look
look_by b place =
    cond b (plain (colour_of place))
    (striped (colour_of place) (period_of (hatch_of place)) (angle_of (hatch_of place)))

true-false : {A : Type 0} → true ≡ false → A
true-false e = absurd (false≢true (sym e))

same_place : (a b : ℕ) (p r : Bool) → ltb a 12 ≡ p → ltb b 12 ≡ r → look_by p a ≡ look_by r b
    → a ≡ b
unfolding colour_of hatch_of period_of angle_of
same_place a b true true la lb e =
    let below : a < 12 = ltb-true a 12 la in
    let other : b < 12 = ltb-true b 12 lb in
    let colour : a % 12 ≡ b % 12 = ap colour_in e in
    omega (arith, below, other, colour)
same_place a b true false la lb e = true-false (ap is_plain e)
same_place a b false true la lb e = true-false (sym (ap is_plain e))
same_place a b false false la lb e =
    let above : 12 ≤ a = ltb-false a 12 la in
    let other : 12 ≤ b = ltb-false b 12 lb in
    let colour : a % 12 ≡ b % 12 = ap colour_in e in
    let period : 6 + 4 * ((a / 12 - 1) / 4) ≡ 6 + 4 * ((b / 12 - 1) / 4) = ap period_in e in
    let angle : 45 * ((a / 12 - 1) % 4) ≡ 45 * ((b / 12 - 1) % 4) = ap angle_in e in
    let hatch : a / 12 - 1 ≡ b / 12 - 1 = omega (arith, period, angle) in
    omega (arith, above, other, colour, hatch)

pub places_look_unlike : PlacesLookUnlike
places_look_unlike a b e = same_place a b (ltb a 12) (ltb b 12) refl refl e

-- ---- layers

prefix_step : (b : Bool) (n m : ℕ) → n ≤ m → cond b (1 + n) 0 ≤ suc m
prefix_step true n m h = omega (arith, h)
prefix_step false n m h = omega arith

prefix_within : {X : Type 0} (p : X → Bool) (xs : List X) → prefix_len p xs ≤ length xs
prefix_within p [] = omega arith
prefix_within p (x ∷ xs) = prefix_step (p x) (prefix_len p xs) (length xs) (prefix_within p xs)

found_or_last : (n m : ℕ) (b : Bool) → ltb n m ≡ b → n ≤ m → unwrap_or (cond b (Some n) None) m ≡ n
found_or_last n m true is h = refl
found_or_last n m false is h = let last : m ≤ n = ltb-false n m is in omega (arith, h, last)

place_is : (layers : List Layer) (l : Layer)
    → place_of layers l ≡ position_or_len (is_layer l) layers
place_is layers l =
    found_or_last (position_or_len (is_layer l) layers) (length layers)
    (ltb (position_or_len (is_layer l) layers) (length layers)) refl
    (prefix_within (λ x. not (is_layer l x)) layers)

joined : (l m x : Layer) → is_layer l x ≡ true → is_layer m x ≡ true → is_layer l m ≡ true
joined l m x a b = grind arith

first_step : (l m x : Layer) (p r : Bool) → is_layer l x ≡ p → is_layer m x ≡ r → (u v : Bool)
    (i j : ℕ) → (p || u) ≡ true → (r || v) ≡ true
    → cond (not p) (1 + i) 0 ≡ cond (not r) (1 + j) 0
    → (u ≡ true → v ≡ true → i ≡ j → is_layer l m ≡ true) → is_layer l m ≡ true
first_step l m x true true lx mx u v i j a b e rest = joined l m x lx mx
first_step l m x true false lx mx u v i j a b e rest =
    let one : zero ≡ 1 + j = e in absurd (omega (arith, one))
first_step l m x false true lx mx u v i j a b e rest =
    let one : 1 + i ≡ zero = e in absurd (omega (arith, one))
first_step l m x false false lx mx u v i j a b e rest =
    let next : 1 + i ≡ 1 + j = e in rest a b (omega (arith, next))

same_first : (layers : List Layer) (l m : Layer) → list_any (is_layer l) layers ≡ true
    → list_any (is_layer m) layers ≡ true
    → position_or_len (is_layer l) layers ≡ position_or_len (is_layer m) layers
    → is_layer l m ≡ true
same_first [] l m a b e = true-false (sym a)
same_first (x ∷ xs) l m a b e =
    first_step l m x (is_layer l x) (is_layer m x) refl refl (list_any (is_layer l) xs)
    (list_any (is_layer m) xs) (position_or_len (is_layer l) xs)
    (position_or_len (is_layer m) xs) a b e (same_first xs l m)

pub layers_look_unlike : LayersLookUnlike
layers_look_unlike layers l m a b e =
    same_first layers l m a b
    (sym (place_is layers l) ∙ places_look_unlike (place_of layers l) (place_of layers m) e
    ∙ place_is layers m)
