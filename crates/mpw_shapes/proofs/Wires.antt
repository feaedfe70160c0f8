-- The boxes of a centre line.
use Rattle.std.proofs.Common.{◌≡◌, ◌≢◌, ℤ, ◌+ℤ◌, ◌-ℤ◌, ◌≤ℤ◌, ◌<ℤ◌, true, false, refl, if◌then◌else◌, int_lt}
use Rattle.std.specs.Ordering.{int_eq}
use Rattle.std.proofs.lemmas.Bool.{false_from_ne_true}
use Rattle.std.proofs.lemmas.Bool.Decides.{Decides-int_eq}
use Rattle.mpw_geom.specs.declared.plane.Point.{Point}
use Rattle.mpw_geom.proofs.Tests.{test_from_lt}
use Rattle.mpw_shapes.specs.Path.{wire_box}
use Rattle.mpw_shapes.specs.Internal.Wire.{along, across, framed}
use Rattle.mpw_shapes.proofs.Columns.{not_lt_test}

eq_test : (a b : ℤ) → a ≡ b → int_eq a b ≡ true
eq_test a b h = (Decides-int_eq a b).1 h

ne_test : (a b : ℤ) → a ≢ b → int_eq a b ≡ false
ne_test a b h = false_from_ne_true (int_eq a b) (λ t. h ((Decides-int_eq a b).0 t))

module _ (half before behind : ℤ) (p q : Point) where
  pub wire_right : p.y ≡ q.y → p.x <ℤ q.x
      → wire_box half before behind p q
      ≡ record { x0 = p.x -ℤ before; y0 = p.y -ℤ half; x1 = q.x +ℤ behind; y1 = p.y +ℤ half }
  unfolding wire_box
  wire_right e h = rw (eq_test p.y q.y e, test_from_lt p.x q.x h)

  pub wire_left : p.y ≡ q.y → q.x ≤ℤ p.x
      → wire_box half before behind p q
      ≡ record { x0 = q.x -ℤ behind; y0 = p.y -ℤ half; x1 = p.x +ℤ before; y1 = p.y +ℤ half }
  unfolding wire_box
  wire_left e h = rw (eq_test p.y q.y e, not_lt_test p.x q.x h)

  pub wire_up : p.y ≢ q.y → p.y <ℤ q.y
      → wire_box half before behind p q
      ≡ record { x0 = p.x -ℤ half; y0 = p.y -ℤ before; x1 = p.x +ℤ half; y1 = q.y +ℤ behind }
  unfolding wire_box
  wire_up n h = rw (ne_test p.y q.y n, test_from_lt p.y q.y h)

  pub wire_down : p.y ≢ q.y → q.y ≤ℤ p.y
      → wire_box half before behind p q
      ≡ record { x0 = p.x -ℤ half; y0 = q.y -ℤ behind; x1 = p.x +ℤ half; y1 = p.y +ℤ before }
  unfolding wire_box
  wire_down n h = rw (ne_test p.y q.y n, not_lt_test p.y q.y h)

  pub wire_level : p.y ≡ q.y
      → wire_box half before behind p q ≡ framed (along before behind p.x q.x) (across half p.y)
  unfolding wire_box along
  wire_level e = rw (eq_test p.y q.y e) (elim (int_lt p.x q.x) as (λ b.
      (if b
      then record { x0 = p.x -ℤ before; y0 = p.y -ℤ half; x1 = q.x +ℤ behind; y1 = p.y +ℤ half }
      else record { x0 = q.x -ℤ behind; y0 = p.y -ℤ half; x1 = p.x +ℤ before; y1 = p.y +ℤ half })
      ≡ framed (if b then record { low = p.x -ℤ before; high = q.x +ℤ behind }
      else record { low = q.x -ℤ behind; high = p.x +ℤ before }) (across half p.y)) [
        | true ↦ refl
        | false ↦ refl
      ])

  pub wire_upright : p.y ≢ q.y
      → wire_box half before behind p q ≡ framed (across half p.x) (along before behind p.y q.y)
  unfolding wire_box along
  wire_upright n = rw (ne_test p.y q.y n) (elim (int_lt p.y q.y) as (λ b.
      (if b
      then record { x0 = p.x -ℤ half; y0 = p.y -ℤ before; x1 = p.x +ℤ half; y1 = q.y +ℤ behind }
      else record { x0 = p.x -ℤ half; y0 = q.y -ℤ behind; x1 = p.x +ℤ half; y1 = p.y +ℤ before })
      ≡ framed (across half p.x) (if b then record { low = p.y -ℤ before; high = q.y +ℤ behind }
      else record { low = q.y -ℤ behind; high = p.y +ℤ before })) [
        | true ↦ refl
        | false ↦ refl
      ])
