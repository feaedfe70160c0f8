-- Coordinates in the code: a word of 64 bits, read as a signed number.
use Rattle.std.proofs.Common.{◌≡◌, ℤ, pos, neg_ℤ, ◌-ℤ◌, ◌∙◌, sym, subst, arith, w64, to_z, of_z}
use Rattle.std.proofs.lemmas.Int.{ints, to_z-of_z}
use Rattle.mpw_geom.specs.Plane.{IsCoordinate}
use Rattle.mpw_geom.proofs.Turns.{negated_twice}

pub kept : (z : ℤ) → IsCoordinate z → to_z w64 (of_z w64 z) ≡ z
kept z h = to_z-of_z w64 z (omega (arith, ints, h.low, h.high))

pub negated : (z : ℤ) → IsCoordinate z
    → to_z w64 (of_z w64 (pos 0 -ℤ to_z w64 (of_z w64 z))) ≡ neg_ℤ z
negated z h = omega (arith, ints, h.low, h.high)

-- if a turn negates more than once
pub kept_twice : (z : ℤ) → IsCoordinate z → to_z w64 (of_z w64 z) ≡ neg_ℤ (neg_ℤ z)
kept_twice z h = kept z h ∙ sym (negated_twice z)

pub negated_thrice : (z : ℤ) → IsCoordinate z
    → to_z w64 (of_z w64 (pos 0 -ℤ to_z w64 (of_z w64 z))) ≡ neg_ℤ (neg_ℤ (neg_ℤ z))
negated_thrice z h = negated z h ∙ sym (negated_twice (neg_ℤ z))

pub kept_coordinate : (z : ℤ) → IsCoordinate z → IsCoordinate (to_z w64 (of_z w64 z))
kept_coordinate z h = subst IsCoordinate (sym (kept z h)) h

pub negated_coordinate : (z : ℤ) → IsCoordinate z
    → IsCoordinate (to_z w64 (of_z w64 (pos 0 -ℤ to_z w64 (of_z w64 z))))
negated_coordinate z h = record {
  low = omega (arith, ints, h.low, h.high);
  high = omega (arith, ints, h.low, h.high);
}
