-- Intervals of an axis, as grids divide them.
use Rattle.std.specs.Prelude.{◌^◌, ℤ, pos, neg_ℤ, ◌≤ℤ◌, ◌<ℤ◌}

-- from low to high: in order and within bounds, as for a box of the plane with a margin
pub record IsStretch (low high : ℤ) : Type 0 where
  pub near : neg_ℤ (pos (2 ^ 50)) ≤ℤ low
  pub some : low <ℤ high
  pub within : high ≤ℤ pos (2 ^ 50)
