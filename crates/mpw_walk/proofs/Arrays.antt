-- The instances of an array, and their displacements.
use Rattle.std.proofs.Common.{◌≡◌, ◌<◌, ℕ, suc, ℤ, pos, negsuc, neg_ℤ, ◌*◌, ◌+ℤ◌, ◌*ℤ◌, refl, ap, subst, ◌∙◌, arith, w64, FitsSigned, to_z, of_z}
use Rattle.std.proofs.lemmas.Int.{ints, to_z-of_z}
use Rattle.mpw_geom.specs.declared.plane.Point.{Point}
use Rattle.mpw_geom.specs.Plane.{IsInPlane}
use Rattle.mpw_geom.proofs.Chains.{same_point}
use Rattle.mpw_structures.specs.declared.element.Reference.{Reference}
use Rattle.mpw_hier.specs.Items.{stepped}
use Rattle.mpw_walk.specs.Frames.{IsShort, IsWithin}
use Rattle.mpw_walk.specs.Internal.Frames.{IsNearArray}

no_step : (z : ℤ) → pos 0 *ℤ z ≡ pos 0
no_step (pos n) = let e : 0 * n ≡ 0 = omega arith in ap pos e
no_step (negsuc n) = let e : 0 * suc n ≡ 0 = omega arith in ap (λ m. neg_ℤ (pos m)) e

no_steps : (p step : Point) → stepped p 0 step ≡ p
no_steps p step =
    same_point (stepped p 0 step) p (let e = no_step step.x in omega (arith, ints))
    (let e = no_step step.y in omega (arith, ints))

-- the first instance, the one of a column in the first row, and the one itself
pub within_first : (r : Reference) (row column : ℕ) → IsNearArray r → row < r.rows
    → column < r.columns → IsWithin r.origin
within_first r row column near h l =
    subst IsWithin (no_steps (stepped r.origin 0 r.column_step) r.row_step
    ∙ no_steps r.origin r.column_step) (near 0 0 (omega (arith, h)) (omega (arith, l)))

pub within_column : (r : Reference) (row column : ℕ) → IsNearArray r → row < r.rows
    → column < r.columns → IsWithin (stepped r.origin column r.column_step)
within_column r row column near h l =
    subst IsWithin (no_steps (stepped r.origin column r.column_step) r.row_step)
    (near 0 column (omega (arith, h)) l)

-- what is added fits
pub added_fits : (a b : ℤ) → IsShort a → IsShort (a +ℤ b) → FitsSigned w64 b
added_fits a b h l = omega (arith, ints, h.low, h.high, l.low, l.high)

pub short_fits : (a : ℤ) → IsShort a → FitsSigned w64 a
short_fits a h = omega (arith, ints, h.low, h.high)

-- what the code computes
pub computed : (p n step : ℤ) → FitsSigned w64 n → FitsSigned w64 step → IsShort p
    → IsShort (p +ℤ (n *ℤ step)) → to_z w64
    (of_z w64 (to_z w64 (of_z w64 p) +ℤ to_z w64
    (of_z w64 (to_z w64 (of_z w64 n) *ℤ to_z w64 (of_z w64 step))))) ≡ p +ℤ (n *ℤ step)
computed p n step f g h l =
    let m : FitsSigned w64 (n *ℤ step) = added_fits p (n *ℤ step) h l in
    rw (
      to_z-of_z w64 n f,
      to_z-of_z w64 step g,
      to_z-of_z w64 (n *ℤ step) m,
      to_z-of_z w64 p (short_fits p h),
      to_z-of_z w64 (p +ℤ (n *ℤ step)) (short_fits _ l),
    ) refl

pub in_plane : (p : Point) → IsWithin p → IsInPlane p
in_plane p h = record {
  x = record { low = omega (arith, ints, h.x.low); high = omega (arith, ints, h.x.high) };
  y = record { low = omega (arith, ints, h.y.low); high = omega (arith, ints, h.y.high) };
}
