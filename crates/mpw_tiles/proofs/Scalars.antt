-- Coordinates and lengths as calls take them: a word of 64 bits, read as a signed number.
use Rattle.std.proofs.Common.{◌≡◌, ℕ, ◌^◌, ◌≤◌, ◌<◌, sym, subst, arith, w64, SFits, to_z, of_z}
use Rattle.std.specs.Prelude.{ℤ, pos, neg_ℤ, ◌+ℤ◌, ◌-ℤ◌, ◌≤ℤ◌, ◌<ℤ◌}
use Rattle.std.proofs.lemmas.Int.{ints, to_z-of_z}
use Rattle.mpw_geom.specs.Plane.{IsCoordinate}
use Rattle.mpw_tiles.specs.Internal.Grid.{IsStretch}

-- a coordinate as it is passed on
abbrev pub handed : ℤ → ℤ
handed z = to_z w64 (of_z w64 z)

pub handed_is : (z : ℤ) → IsCoordinate z → handed z ≡ z
handed_is z h = to_z-of_z w64 z (omega (arith, ints, h.low, h.high))

pub handed_coordinate : (z : ℤ) → IsCoordinate z → IsCoordinate (handed z)
handed_coordinate z h = subst IsCoordinate (sym (handed_is z h)) h

-- a coordinate minus a margin, and one more than it
pub below_is : (z : ℤ) (m : ℕ) → IsCoordinate z → m ≤ 2 ^ 32
    → handed (handed z -ℤ to_z w64 m) ≡ z -ℤ pos m
below_is z m h u = omega (arith, ints, h.low, h.high, u)

pub above_is : (z : ℤ) (m : ℕ) → IsCoordinate z → m ≤ 2 ^ 32
    → handed (handed z +ℤ to_z w64 m) ≡ z +ℤ pos m
above_is z m h u = omega (arith, ints, h.low, h.high, u)

pub wide_stretch : (x y : ℤ) (m : ℕ) → IsCoordinate x → IsCoordinate y → x <ℤ y → m ≤ 2 ^ 32
    → IsStretch (handed (handed x -ℤ to_z w64 m)) (handed (handed y +ℤ to_z w64 m))
wide_stretch x y m h k l u = record {
  near = omega (arith, ints, below_is x m h u, h.low, u);
  some = omega (arith, ints, below_is x m h u, above_is y m k u, l);
  within = omega (arith, ints, above_is y m k u, k.high, u);
}

-- ---- where a core begins and ends along one direction

pub record Side (start length : ℤ) : Type 0 where
  pub start_is : handed start ≡ start
  pub fits : SFits w64 (handed start +ℤ handed length)
  pub end_is : handed (handed start +ℤ handed length) ≡ start +ℤ length
  pub near : neg_ℤ (pos (2 ^ 50)) ≤ℤ start
  pub within : (start +ℤ length) ≤ℤ pos (2 ^ 50)

-- for a core that begins n nm after a coordinate
pub side_of : (low : ℤ) (n s : ℕ) (start length : ℤ) → IsCoordinate low → start ≡ low +ℤ pos n
    → n ≤ 2 ^ 49 → length ≡ pos s → s < 2 ^ 32 → Side start length
side_of low n s start length h e u f v =
    let l = h.low in
    let r = h.high in
    record {
      start_is = omega (arith, ints);
      fits = omega (arith, ints);
      end_is = omega (arith, ints);
      near = omega (arith, ints);
      within = omega (arith, ints);
    }
