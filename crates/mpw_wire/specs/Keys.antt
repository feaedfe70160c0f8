-- The key of a marker, as a word of a line: the name of its rule, its axis, its side and four coordinates in
-- nm, with colons between them. It is read from its end, since a name may have colons.
use Rattle.std.specs.Prelude.{ℕ, ℤ, List, [], ◌∷◌, Option, Some, None, ◌==◌, if◌then◌else◌}
use Rattle.mpw_text.specs.Text.{number_of}
use Rattle.mpw_edges.specs.declared.run.Axis.{Axis}
use Rattle.mpw_edges.specs.declared.run.Piece.{Piece}
use Rattle.mpw_requests.specs.declared.sign_off.MarkerName.{MarkerName}
use Rattle.mpw_requests.specs.Words.{marker_key, axis_of}
use Rattle.mpw_wire.specs.declared.operand.Origin.{Origin}
use Rattle.mpw_wire.specs.declared.operand.Origin.TheVariants.{Connection, Store}
use Rattle.mpw_wire.specs.Placement.{coordinate_of}
use Rattle.mpw_wire.specs.Names.{◌>>=◌, name_of}

-- the marker of a rule with that run
abbrev pub marker_at : List ℕ → Piece → MarkerName
marker_at rule piece = record { rule = rule; piece = piece }

-- ---- writing

-- the key of such a marker
abbrev pub key_text : List ℕ → Piece → List ℕ
key_text rule piece = marker_key (marker_at rule piece)

-- ---- reading

-- the parts before and after the last colon
unfoldable pub cut_last : List ℕ → Option (List ℕ × List ℕ)
cut_last [] = None
cut_last (byte ∷ bytes) = behind (cut_last bytes)
  where
    behind : Option (List ℕ × List ℕ) → Option (List ℕ × List ℕ)
    behind (Some parts) = Some (byte ∷ parts.0, parts.1)
    behind None = if byte == 0x3A then Some ([], bytes) else None

-- the greatest side: 1 on a connection, and in a store the greatest value of a byte
unfoldable pub greatest_side : Origin → ℕ
greatest_side Connection = 1
greatest_side Store = 255

-- the part after the last colon, read as a coordinate, a side or an axis, with the part before it
unfoldable pub last_coordinate : Origin → List ℕ → Option (List ℕ × ℤ)
last_coordinate origin word = do
  parts ← cut_last word
  z ← coordinate_of origin parts.1
  Some (parts.0, z)

unfoldable pub last_side : Origin → List ℕ → Option (List ℕ × ℕ)
last_side origin word = do
  parts ← cut_last word
  side ← number_of 0 (greatest_side origin) parts.1
  Some (parts.0, side)

unfoldable pub last_axis : List ℕ → Option (List ℕ × Axis)
last_axis word = do
  parts ← cut_last word
  axis ← axis_of parts.1
  Some (parts.0, axis)

-- the run of a marker by the end of its key, with the part before it
unfoldable pub last_piece : Origin → List ℕ → Option (List ℕ × Piece)
last_piece origin word = do
  y1 ← last_coordinate origin word
  y0 ← last_coordinate origin y1.0
  x2 ← last_coordinate origin y0.0
  x1 ← last_coordinate origin x2.0
  side ← last_side origin x1.0
  axis ← last_axis side.0
  Some (axis.0, record { axis = axis.1; side = side.1; x1 = x1.1; x2 = x2.1; y0 = y0.1; y1 = y1.1 })

-- the marker of a key
unfoldable pub key_of : Origin → List ℕ → Option MarkerName
key_of origin word = do
  found ← last_piece origin word
  rule ← name_of origin found.0
  Some (marker_at rule found.1)
