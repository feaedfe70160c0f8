-- Steps that are shorter than a gap, and the boxes of an array that therefore miss a window.
use Rattle.std.proofs.Common.{◌≡◌, ℕ, zero, suc, ◌+◌, ◌-◌, ◌*◌, ◌/◌, ◌<◌, ◌≤◌, max, Bool, true, false, ◌&&◌, ◌⊎◌, inl, inr, ℤ, pos, negsuc, neg_ℤ, ◌+ℤ◌, ◌-ℤ◌, ◌*ℤ◌, ◌<ℤ◌, refl, ap, subst, ◌∙◌, arith}
use Rattle.std.specs.Prelude.{int_le, unsigned_abs}
use Rattle.std.specs.Int.{int_min, int_max}
use Rattle.std.proofs.Math.Nat.{le-div_iff_mul-le}
use Rattle.std.proofs.lemmas.Bool.{cases_lt}
use Rattle.std.proofs.lemmas.Int.{ints, clamps}
use Rattle.mpw_geom.proofs.Boxes.{same_box}
use Rattle.mpw_geom.proofs.Tests.{le_from_test}
use Rattle.mpw_geom.specs.declared.plane.Box2.{Box2}
use Rattle.mpw_geom.specs.declared.plane.Point.{Point}
use Rattle.mpw_walk.specs.declared.skip.Span.{Span}
use Rattle.mpw_walk.specs.Window.{do_meet}
use Rattle.mpw_structures.specs.declared.element.Reference.{Reference}
use Rattle.mpw_walk.specs.declared.frame.Frame.{Frame}
use Rattle.mpw_walk.specs.Internal.Skips.{span_on, do_share, box_on, box_at, across_of, behind_columns, MissColumns, MissRows, SkipsColumns}

-- ---- steps

pub no_steps : (n : ℕ) (s : ℤ) → s ≡ pos 0 → pos n *ℤ s ≡ pos 0
no_steps n s e = ap (λ z. pos n *ℤ z) e ∙ (let same : n * 0 ≡ 0 = omega arith in ap pos same)

no_step : (s : ℤ) → pos 0 *ℤ s ≡ pos 0
no_step (pos c) = omega (arith, ints)
no_step (negsuc c) = omega (arith, ints)

pub back_steps : (n : ℕ) (s : ℤ) → pos n *ℤ neg_ℤ s ≡ neg_ℤ (pos n *ℤ s)
back_steps n (pos zero) = omega (arith, ints)
back_steps n (pos (suc c)) = omega (arith, ints)
back_steps n (negsuc c) = omega (arith, ints)

pub short_on : (gap k n : ℕ) (step : ℤ) → pos 0 <ℤ step → 1 ≤ gap
    → n ≤ (gap - 1) / unsigned_abs step + 1 → k < n → (pos k *ℤ step) <ℤ pos gap
short_on gap k n (pos s) h some few lt =
    let steps = (gap - 1) / s in
    let le : k ≤ steps = omega (arith, few, lt) in
    let p : k * s ≤ gap - 1 = (le-div_iff_mul-le {k = s} (omega (arith, ints, h))).0 le in
    omega (arith, ints, p, some)
short_on gap k n (negsuc s) h some few lt = absurd (omega (arith, ints, h))

-- ---- intervals

not_le : (x y : ℤ) → y <ℤ x → int_le x y ≡ false
not_le x y h = go (int_le x y) refl
  where
    go : (b : Bool) → int_le x y ≡ b → int_le x y ≡ false
    go true e = let le = le_from_test x y e in absurd (omega (arith, ints, h, le))
    go false e = e

gap_is : (z : ℤ) → pos 0 <ℤ z → pos (unsigned_abs z) ≡ z
gap_is (pos n) h = refl
gap_is (negsuc n) h = absurd (omega (arith, ints, h))

some_gap : (z : ℤ) → pos 0 <ℤ z → 1 ≤ unsigned_abs z
some_gap (pos n) h = omega (arith, ints, h)
some_gap (negsuc n) h = absurd (omega (arith, ints, h))

module _ (a b : Span) (step : ℤ) (k : ℕ) where
  pub gap_below : a.high <ℤ b.low → 1 ≤ unsigned_abs (b.low -ℤ a.high)
  gap_below h = some_gap (b.low -ℤ a.high) (omega (arith, ints, h))

  pub gap_above : b.high <ℤ a.low → 1 ≤ unsigned_abs (a.low -ℤ b.high)
  gap_above h = some_gap (a.low -ℤ b.high) (omega (arith, ints, h))

  pub below_misses : a.high <ℤ b.low
      → (pos k *ℤ step) <ℤ pos (unsigned_abs (b.low -ℤ a.high))
      → do_share (span_on a step k) b ≡ false
  below_misses h short =
      let gap = gap_is (b.low -ℤ a.high) (omega (arith, ints, h)) in
      not_le (int_max (a.low +ℤ (pos k *ℤ step)) b.low) (int_min (a.high +ℤ (pos k *ℤ step)) b.high)
      (omega (arith, ints, clamps, gap, short))

  pub above_misses : b.high <ℤ a.low
      → (pos k *ℤ neg_ℤ step) <ℤ pos (unsigned_abs (a.low -ℤ b.high))
      → do_share (span_on a step k) b ≡ false
  above_misses h short =
      let gap = gap_is (a.low -ℤ b.high) (omega (arith, ints, h)) in
      let back = back_steps k step in
      not_le (int_max (a.low +ℤ (pos k *ℤ step)) b.low) (int_min (a.high +ℤ (pos k *ℤ step)) b.high)
      (omega (arith, ints, clamps, gap, short, back))

-- ---- boxes

either : (x y k : ℕ) → k < max x y → (k < x) ⊎ (k < y)
either x y k h = elim (cases_lt k x) [ inl lt ↦ inl lt | inr le ↦ inr (omega (arith, h, le)) ]

first_false : (a b : Bool) → a ≡ false → (a && b) ≡ false
first_false a b e = ap (λ x. x && b) e

second_false : (a b : Bool) → b ≡ false → (a && b) ≡ false
second_false true b e = e
second_false false b e = refl

abbrev pub x_of : Box2 → Span
x_of b = record { low = b.x0; high = b.x1 }

abbrev pub y_of : Box2 → Span
y_of b = record { low = b.y0; high = b.y1 }

abbrev pub SpansMissed : Span → Span → ℤ → ℕ → Type 0
SpansMissed a b step n = (k : ℕ) → k < n → do_share (span_on a step k) b ≡ false

pub misses_x : (b w : Box2) → do_share (x_of b) (x_of w) ≡ false → do_meet b w ≡ false
unfolding do_meet
misses_x b w e = first_false _ _ e

pub misses_y : (b w : Box2) → do_share (y_of b) (y_of w) ≡ false → do_meet b w ≡ false
unfolding do_meet
misses_y b w e = second_false _ _ e

pub miss_columns : (there window : Box2) (across : Point) (x y : ℕ)
    → SpansMissed (x_of there) (x_of window) across.x x
    → SpansMissed (y_of there) (y_of window) across.y y
    → MissColumns there window across (max x y)
miss_columns there window across x y by_x by_y k h =
    elim (either x y k h) [
      | inl lt ↦ misses_x (box_on there across k) window (by_x k lt)
      | inr lt ↦ misses_y (box_on there across k) window (by_y k lt)
    ]

same_place : (z s : ℤ) (from to : ℕ) → s ≡ pos 0
    → z +ℤ ((pos to *ℤ s) -ℤ (pos from *ℤ s)) ≡ z
same_place z s from to e =
    let p = no_steps to s e in
    let q = no_steps from s e in
    omega (arith, ints, p, q)

-- along an axis along which columns don't lead
abbrev pub MissAlong : Span → Span → (across up : ℤ) → ℕ → Type 0
MissAlong a b across up n = (0 < n → across ≡ pos 0) × SpansMissed a b up n

pub miss_rows : (there window : Box2) (across up : Point) (x y : ℕ)
    → MissAlong (x_of there) (x_of window) across.x up.x x
    → MissAlong (y_of there) (y_of window) across.y up.y y
    → MissRows there window across up (max x y)
miss_rows there window across up x y by_x by_y from to k h =
    let box = box_on (box_at there across from to) up k in
    elim (either x y k h) [
      | inl lt ↦
          let none = by_x.0 (omega (arith, lt)) in
          let low = same_place there.x0 across.x from to none in
          let high = same_place there.x1 across.x from to none in
          misses_x box window (rw (low, high) (by_x.1 k lt))
      | inr lt ↦
          let none = by_y.0 (omega (arith, lt)) in
          let low = same_place there.y0 across.y from to none in
          let high = same_place there.y1 across.y from to none in
          misses_y box window (rw (low, high) (by_y.1 k lt))
    ]

-- ---- frames

box_none : (b : Box2) (s : Point) → box_on b s 0 ≡ b
box_none b s =
    let x = no_step s.x in
    let y = no_step s.y in
    same_box _ _ (omega (arith, ints, x)) (omega (arith, ints, y)) (omega (arith, ints, x))
    (omega (arith, ints, y))

pub skips_columns : (f : Frame) (r : Reference) (there window : Box2) (g : Frame) (across : Point)
    (n m : ℕ) → across ≡ across_of f r → MissColumns there window across n
    → do_meet there window ≡ false → m ≡ max n 1 → g ≡ behind_columns f r m
    → SkipsColumns f r there window g
skips_columns f r there window g across n m is missed here most behind = record {
  n = m;
  some = omega (arith, most);
  missed = λ k lt. subst (λ s. do_meet (box_on there s k) window ≡ false) is
      (elim (either n 1 k (omega (arith, most, lt))) [
        | inl le ↦ missed k le
        | inr le ↦
            let none : k ≡ 0 = omega (arith, le) in
            rw none (ap (λ b. do_meet b window) (box_none there across) ∙ here)
      ]);
  is = behind;
}
