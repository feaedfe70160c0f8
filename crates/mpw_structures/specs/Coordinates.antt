-- Coordinates as a text has them.
use Rattle.std.specs.Prelude.{ℕ, ◌+◌, ℤ, pos, ◌*ℤ◌, List, drop}
use Rattle.std.specs.Int.{w32, cast_signed}
use Rattle.byteorder.specs.Endian.{big_number}
use Rattle.mpw_geom.specs.declared.plane.Point.{Point}

-- A four-byte signed number of database units, in nm.
unfoldable pub scaled : ℕ → List ℕ → ℤ
scaled unit bytes = cast_signed w32 (big_number 4 bytes) *ℤ pos unit

-- The point that begins at a byte: its x, and after that its y.
abbrev pub point_from : ℕ → List ℕ → ℕ → Point
point_from unit bytes at =
    record { x = scaled unit (drop at bytes); y = scaled unit (drop (at + 4) bytes) }

abbrev pub no_point : Point
no_point = record { x = pos 0; y = pos 0 }
