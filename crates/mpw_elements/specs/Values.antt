-- The values of a record's data, and the faults of a value, at its record.
use Rattle.std.specs.Prelude.{ℕ, zero, suc, ◌+◌, ◌-◌, ◌*◌, ◌/◌, ◌%◌, ◌&&◌, ◌||◌, ◌==◌, not, nat_lt, nat_le, Bool, true, false, bit_and, if◌then◌else◌}
use Rattle.std.specs.Prelude.{ℤ, pos, neg_ℤ, ◌-ℤ◌, ◌*ℤ◌, unsigned_abs, int_div, int_rem}
use Rattle.std.specs.Prelude.{List, [], ◌∷◌, length, take, drop, map, slice_index_or, Option, Some, None, Result, Ok, Err}
use Rattle.std.specs.Int.{w32, cast_signed}
use Rattle.std.specs.List.{dedup, list_all, range_with_len}
use Rattle.std.specs.Ordering.{int_eq}
use Rattle.byteorder.specs.Endian.{big_number}
use Rattle.mpw_geom.specs.declared.plane.Point.{Point}
use Rattle.mpw_geom.specs.declared.plane.Orient.{Orient}
use Rattle.mpw_geom.specs.declared.plane.Orient.TheVariants.{R0, R90, R180, R270, M0, M90, M180, M270}
use Rattle.mpw_structures.specs.Coordinates.{scaled, no_point}
use Rattle.mpw_structures.specs.Element.{same_point, is_manhattan_step, each_step, closed}
use Rattle.mpw_records.specs.declared.fault.Code.TheVariants.{BadName, BadSize, Magnification, Angle, NotManhattan, RoundPath, OddWidth, PointPath, Columns, Pitch, Absolute}
use Rattle.mpw_records.specs.declared.fault.ReadFault.{ReadFault}
use Rattle.mpw_records.specs.Records.{RawRecord}
use Rattle.mpw_real8.specs.Real.{real_value, is_whole}
use Rattle.mpw_elements.specs.declared.values.Grid.{Grid}
use Rattle.mpw_elements.specs.Reading.{fault_at}

-- ---- numbers

-- A two-byte number, as LAYER and DATATYPE have it: 0 to 65535.
abbrev pub short_of : RawRecord → ℕ
short_of r = big_number 2 r.bytes

-- ---- points

abbrev pub point_at : ℕ → List ℕ → ℕ → Point
point_at unit bytes i =
    record { x = scaled unit (drop (8 * i) bytes); y = scaled unit (drop (8 * i + 4) bytes) }

-- The points of XY, eight bytes each.
unfoldable pub points_of : ℕ → List ℕ → List Point
points_of unit bytes = map (point_at unit bytes) (range_with_len 0 (length bytes / 8))

-- The last point closes the boundary if there are at least two points and it equals the first.
unfoldable pub is_closing : List Point → Bool
is_closing ps = nat_le 2 (length ps) && same_point (slice_index_or ps 0 no_point)
    (slice_index_or ps (length ps - 1) no_point)

-- The points without the closing point.
unfoldable pub without_closing : List Point → List Point
without_closing ps = if is_closing ps then take (length ps - 1) ps else ps

-- The corners of a boundary.
unfoldable pub corners_of : ℕ → RawRecord → Result (List Point) ReadFault
corners_of unit r =
    if each_step is_manhattan_step (closed (without_closing (points_of unit r.bytes)))
    then Ok (without_closing (points_of unit r.bytes))
    else Err (fault_at NotManhattan r)

-- The centre line of a path.
unfoldable pub centre_of : ℕ → RawRecord → Result (List Point) ReadFault
centre_of unit r =
    if nat_lt (length (dedup same_point (points_of unit r.bytes))) 2 then Err (fault_at PointPath r)
    else if each_step is_manhattan_step (dedup same_point (points_of unit r.bytes))
    then Ok (dedup same_point (points_of unit r.bytes))
    else Err (fault_at NotManhattan r)

-- The one point of a reference.
unfoldable pub origin_of : ℕ → RawRecord → Result Point ReadFault
origin_of unit r =
    if length r.bytes == 8 then Ok (point_at unit r.bytes 0) else Err (fault_at BadSize r)

-- ---- paths

unfoldable pub path_type_of : RawRecord → Result ℕ ReadFault
path_type_of r =
    if (short_of r == 0) || (short_of r == 2) || (short_of r == 4) then Ok (short_of r)
    else Err (fault_at RoundPath r)

-- The width is the absolute value.
unfoldable pub width_of : ℕ → RawRecord → Result ℤ ReadFault
width_of unit r =
    if unsigned_abs (scaled unit r.bytes) % 2 == 0
    then Ok (pos (unsigned_abs (scaled unit r.bytes))) else Err (fault_at OddWidth r)

abbrev pub extension_of : ℕ → RawRecord → Result ℤ ReadFault
extension_of unit r = Ok (scaled unit r.bytes)

-- The extension of an end: half the width for type 2, the given number for type 4, otherwise 0.
abbrev pub lengthening : ℕ → ℤ → ℤ → ℤ
lengthening path_type width given =
    if path_type == 4 then given else if path_type == 2 then int_div width (pos 2) else pos 0

-- ---- names

-- The bytes without the NULs at their end.
unfoldable pub without_nuls : List ℕ → List ℕ
without_nuls [] = []
without_nuls (b ∷ bs) =
    if (b == 0) && (length (without_nuls bs) == 0) then [] else b ∷ without_nuls bs

abbrev pub is_visible : ℕ → Bool
is_visible byte = nat_le 0x21 byte && nat_le byte 0x7E

-- 1 to 255 bytes of 21 to 7E hex.
abbrev pub is_name : List ℕ → Bool
is_name bytes = nat_le 1 (length bytes) && nat_le (length bytes) 255 && list_all is_visible bytes

unfoldable pub name_of : RawRecord → Result (List ℕ) ReadFault
name_of r =
    if is_name (without_nuls r.bytes) then Ok (without_nuls r.bytes) else Err (fault_at BadName r)

-- ---- orientations

-- Whether the reference is mirrored: bit 8000 hex of STRANS. Bit 0002 is refused, and the others are ignored.
unfoldable pub mirrored_of : RawRecord → Result Bool ReadFault
mirrored_of r = if bit_and (short_of r) 2 == 0 then Ok (not (bit_and (short_of r) 0x8000 == 0))
    else Err (fault_at Absolute r)

-- A magnification of exactly 1.
unfoldable pub magnification_of : RawRecord → Result (Unit {0}) ReadFault
magnification_of r =
    if is_whole (real_value r.bytes) (pos 1) then Ok tt else Err (fault_at Magnification r)

-- The quarter turns of an angle: a multiple of 90 degrees from -360 to 360.
unfoldable pub turns : ℤ → Option ℕ
turns angle =
    if is_whole angle (pos 0) || is_whole angle (pos 360) || is_whole angle (neg_ℤ (pos 360))
    then Some 0
    else if is_whole angle (pos 90) || is_whole angle (neg_ℤ (pos 270)) then Some 1
    else if is_whole angle (pos 180) || is_whole angle (neg_ℤ (pos 180)) then Some 2
    else if is_whole angle (pos 270) || is_whole angle (neg_ℤ (pos 90)) then Some 3
    else None

abbrev pub turns_or_fault : Option ℕ → RawRecord → Result ℕ ReadFault
turns_or_fault (Some n) r = Ok n
turns_or_fault None r = Err (fault_at Angle r)

abbrev pub turns_of : RawRecord → Result ℕ ReadFault
turns_of r = turns_or_fault (turns (real_value r.bytes)) r

-- The orientation that mirrors about the x axis, or doesn't, and then turns counterclockwise.
abbrev pub orient_of : Bool → ℕ → Orient
orient_of false zero = R0
orient_of false (suc zero) = R90
orient_of false (suc (suc zero)) = R180
orient_of false (suc (suc (suc n))) = R270
orient_of true zero = M0
orient_of true (suc zero) = M90
orient_of true (suc (suc zero)) = M180
orient_of true (suc (suc (suc n))) = M270

-- ---- arrays

abbrev pub is_count : ℕ → Bool
is_count n = nat_le 1 n && nat_le n 32767

-- The columns and the rows.
unfoldable pub counts_of : RawRecord → Result (ℕ × ℕ) ReadFault
counts_of r =
    if is_count (big_number 2 r.bytes) && is_count (big_number 2 (drop 2 r.bytes))
    then Ok (big_number 2 r.bytes, big_number 2 (drop 2 r.bytes))
    else Err (fault_at Columns r)

abbrev pub divides : ℕ → ℤ → Bool
divides n z = int_eq (int_rem z (pos n)) (pos 0)

-- The whole number that is an n-th of z, if there is one.
abbrev pub part_of : ℕ → ℤ → Option ℤ
part_of n z = if divides n z then Some (int_div z (pos n)) else None

abbrev pub both : Option ℤ → Option ℤ → Option Point
both (Some x) (Some y) = Some (record { x = x; y = y })
both (Some x) None = None
both None y = None

-- The step that leads from one point to another in n steps, if it is whole.
abbrev pub step_of : ℕ → Point → Point → Option Point
step_of n p q = both (part_of n (q.x -ℤ p.x)) (part_of n (q.y -ℤ p.y))

abbrev pub grid_or_fault : Point → Option Point → Option Point → RawRecord → Result Grid ReadFault
grid_or_fault origin (Some column) (Some row) r =
    Ok (record { origin = origin; column_step = column; row_step = row })
grid_or_fault origin (Some column) None r = Err (fault_at Pitch r)
grid_or_fault origin None row r = Err (fault_at Pitch r)

-- XY of an array: the origin, the origin after all columns, and the origin after all rows.
unfoldable pub grid_of : ℕ → ℕ → ℕ → RawRecord → Result Grid ReadFault
grid_of unit columns rows r =
    if length r.bytes == 24
    then grid_or_fault (point_at unit r.bytes 0)
    (step_of columns (point_at unit r.bytes 0) (point_at unit r.bytes 1))
    (step_of rows (point_at unit r.bytes 0) (point_at unit r.bytes 2)) r
    else Err (fault_at BadSize r)
