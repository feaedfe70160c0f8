-- Intervals and boxes at equal steps that miss a window.
use Rattle.std.proofs.Common.{◌≡◌, ℕ, ◌*◌, ◌<◌, ◌≤◌, Bool, true, false, ◌&&◌, inl, inr, ℤ, pos, neg_ℤ, ◌+ℤ◌, ◌*ℤ◌, ◌<ℤ◌, refl, ap, subst, ◌∙◌, arith}
use Rattle.std.specs.Prelude.{int_le}
use Rattle.std.specs.Int.{int_min, int_max}
use Rattle.std.proofs.lemmas.Bool.{cases_lt}
use Rattle.std.proofs.lemmas.Int.{ints, clamps}
use Rattle.mpw_geom.proofs.Tests.{le_from_test}
use Rattle.mpw_geom.specs.declared.plane.Box2.{Box2}
use Rattle.mpw_walk.specs.Window.{do_meet}
use Rattle.mpw_walk.proofs.Skipping.{back_steps, no_steps}
use Rattle.mpw_columns_contents.specs.declared.fit.Span.{Span}
use Rattle.mpw_columns_contents.specs.declared.fit.Places.{Places}
use Rattle.mpw_columns_contents.specs.declared.fit.Steps.{Steps}
use Rattle.mpw_columns_contents.specs.declared.thing.Array.{Array}
use Rattle.mpw_columns_contents.specs.Internal.Fitting.{span_on, do_share, IsOutside, IsEither, SpansMissed, AlongMissed, box_at, ColumnsMissed, RowsMissed}

-- ---- intervals

pub not_le : (x y : ℤ) → y <ℤ x → int_le x y ≡ false
not_le x y h = go (int_le x y) refl
  where
    go : (b : Bool) → int_le x y ≡ b → int_le x y ≡ false
    go true e = let le = le_from_test x y e in absurd (omega (arith, ints, h, le))
    go false e = e

ends_before : (a b : Span) → a.high <ℤ b.low → do_share a b ≡ false
ends_before a b h =
    not_le (int_max a.low b.low) (int_min a.high b.high) (omega (arith, ints, clamps, h))

begins_behind : (a b : Span) → b.high <ℤ a.low → do_share a b ≡ false
begins_behind a b h =
    not_le (int_max a.low b.low) (int_min a.high b.high) (omega (arith, ints, clamps, h))

module _ (there window : Span) (step most from end : ℕ) where
  abbrev places : Places
  places = record { from = from; end = end }

  pub upwards_missed : ((k : ℕ) → k < from → (there.high +ℤ pos (k * step)) <ℤ window.low)
      → ((k : ℕ) → k < most → end ≤ k → window.high <ℤ (there.low +ℤ pos (k * step)))
      → SpansMissed there window (pos step) most places
  upwards_missed before behind k h (inl lt) = ends_before (span_on there (pos step) k) window
      (before k lt)
  upwards_missed before behind k h (inr le) = begins_behind (span_on there (pos step) k) window
      (behind k h le)

  pub downwards_missed : ((k : ℕ) → k < from → (window.high +ℤ pos (k * step)) <ℤ there.low)
      → ((k : ℕ) → k < most → end ≤ k → there.high <ℤ (window.low +ℤ pos (k * step)))
      → SpansMissed there window (neg_ℤ (pos step)) most places
  downwards_missed before behind k h (inl lt) =
      let b = before k lt in
      let e : pos k *ℤ neg_ℤ (pos step) ≡ neg_ℤ (pos (k * step)) = back_steps k (pos step) in
      begins_behind (span_on there (neg_ℤ (pos step)) k) window (omega (arith, ints, b, e))
  downwards_missed before behind k h (inr le) =
      let b = behind k h le in
      let e : pos k *ℤ neg_ℤ (pos step) ≡ neg_ℤ (pos (k * step)) = back_steps k (pos step) in
      ends_before (span_on there (neg_ℤ (pos step)) k) window (omega (arith, ints, b, e))

same_span : (a b : Span) → a.low ≡ b.low → a.high ≡ b.high → a ≡ b
same_span a b e f =
    let h : ◌≡◌ {A = Span} (record { low = a.low; high = a.high })
    (record { low = b.low; high = b.high }) = cc in h

pub span_still : (a : Span) (k : ℕ) (s : ℤ) → s ≡ pos 0 → span_on a s k ≡ a
span_still a k s e =
    let z = no_steps k s e in
    same_span _ _ (omega (arith, ints, z)) (omega (arith, ints, z))

pub along_from : (there window : Span) (step other : ℤ) (most : ℕ) (p : Places) → other ≡ pos 0
    → SpansMissed there window step most p
    → AlongMissed there window step other most p
along_from there window step other most p still missed k n h out =
    ap (λ a. do_share a window) (span_still (span_on there step k) n other still) ∙ missed k h out

pub along_same : (a b c d : Span) (s u : Steps) (most : ℕ) (p : Places) → a ≡ c → b ≡ d → s ≡ u
    → AlongMissed a b s.along s.across most p → AlongMissed c d u.along u.across most p
along_same a b c d s u most p e f g h =
    subst (λ (x : Span). AlongMissed x d u.along u.across most p) e
    (subst (λ (x : Span). AlongMissed a x u.along u.across most p) f
    (subst (λ (x : Steps). AlongMissed a b x.along x.across most p) g h))

pub nowhere : (p : Places) → p.end ≤ p.from → (k : ℕ) → IsOutside p k
nowhere p h k = elim (cases_lt k p.from) [ inl lt ↦ inl lt | inr le ↦ inr (omega (arith, h, le)) ]

-- ---- boxes

abbrev pub x_of : Box2 → Span
x_of b = record { low = b.x0; high = b.x1 }

abbrev pub y_of : Box2 → Span
y_of b = record { low = b.y0; high = b.y1 }

first_false : (a b : Bool) → a ≡ false → (a && b) ≡ false
first_false a b e = ap (λ x. x && b) e

second_false : (a b : Bool) → b ≡ false → (a && b) ≡ false
second_false true b e = e
second_false false b e = refl

misses_x : (b w : Box2) → do_share (x_of b) (x_of w) ≡ false → do_meet b w ≡ false
unfolding do_meet
misses_x b w e = first_false _ _ e

misses_y : (b w : Box2) → do_share (y_of b) (y_of w) ≡ false → do_meet b w ≡ false
unfolding do_meet
misses_y b w e = second_false _ _ e

span_swapped : (a : Span) (s u : ℤ) (k n : ℕ)
    → span_on (span_on a s k) u n ≡ span_on (span_on a u n) s k
span_swapped a s u k n = same_span _ _ (omega (arith, ints)) (omega (arith, ints))

pub columns_missed : (there window : Box2) (a : Array) (x y p : Places)
    → AlongMissed (x_of there) (x_of window) a.column_step.x a.row_step.x a.columns x
    → AlongMissed (y_of there) (y_of window) a.column_step.y a.row_step.y a.columns y
    → ((k : ℕ) → IsOutside p k → IsEither x y k) → ColumnsMissed there window a p
columns_missed there window a x y p by_x by_y either row column h out = go (either column out)
  where
    go : IsEither x y column → do_meet (box_at there a row column) window ≡ false
    go (inl o) = misses_x (box_at there a row column) window (by_x column row h o)
    go (inr o) = misses_y (box_at there a row column) window (by_y column row h o)

pub rows_missed : (there window : Box2) (a : Array) (x y p : Places)
    → AlongMissed (x_of there) (x_of window) a.row_step.x a.column_step.x a.rows x
    → AlongMissed (y_of there) (y_of window) a.row_step.y a.column_step.y a.rows y
    → ((k : ℕ) → IsOutside p k → IsEither x y k) → RowsMissed there window a p
rows_missed there window a x y p by_x by_y either row column h out = go (either row out)
  where
    go : IsEither x y row → do_meet (box_at there a row column) window ≡ false
    go (inl o) = misses_x (box_at there a row column) window
        (ap (λ s. do_share s (x_of window))
        (span_swapped (x_of there) a.column_step.x a.row_step.x column row)
        ∙ by_x row column h o)
    go (inr o) = misses_y (box_at there a row column) window
        (ap (λ s. do_share s (y_of window))
        (span_swapped (y_of there) a.column_step.y a.row_step.y column row)
        ∙ by_y row column h o)
