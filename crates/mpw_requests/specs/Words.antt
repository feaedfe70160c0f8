-- Words of operands: an orientation, the key of a marker, and an operation with the kind of its object.
use Rattle.std.specs.Prelude.{ℕ, Bool, true, false, List, [], ◌∷◌, codes, Option, Some, None, if◌then◌else◌}
use Rattle.std.specs.Fmt.{decimal, signed_decimal}
use Rattle.mpw_text.specs.Writing.{with_colons}
use Rattle.mpw_geom.specs.Names.{name_eq}
use Rattle.mpw_geom.specs.declared.plane.Orient.{Orient}
use Rattle.mpw_geom.specs.declared.plane.Orient.TheVariants.{R0, R90, R180, R270, M0, M90, M180, M270}
use Rattle.mpw_edges.specs.declared.run.Axis.{Axis}
use Rattle.mpw_edges.specs.declared.run.Axis.TheVariants.{V, H}
use Rattle.mpw_permissions.specs.declared.permission.Operation.{Operation}
use Rattle.mpw_permissions.specs.declared.permission.Operation.TheVariants.{Submit, Use, Read, Place, Admin, Deck, Run, Waive, Sign, Verdict, Audit}
use Rattle.mpw_requests.specs.declared.sign_off.MarkerName.{MarkerName}
use Rattle.mpw_requests.specs.declared.words.TheConstants.{ORIENTS, OPERATIONS}

-- the first item that has the word
abbrev pub first_of : {A : Type 0} → (A → List ℕ) → List ℕ → List A → Option A
first_of text word [] = None
first_of text word (item ∷ items) =
    if name_eq word (text item) then Some item else first_of text word items

-- the word of an orientation
unfoldable pub orient_text : Orient → List ℕ
orient_text R0 = codes "R0"
orient_text R90 = codes "R90"
orient_text R180 = codes "R180"
orient_text R270 = codes "R270"
orient_text M0 = codes "M0"
orient_text M90 = codes "M90"
orient_text M180 = codes "M180"
orient_text M270 = codes "M270"

-- the orientation that a word names
unfoldable pub orient_of : List ℕ → Option Orient
orient_of word = first_of orient_text word ORIENTS

-- the letter of an axis
unfoldable pub axis_text : Axis → List ℕ
axis_text V = codes "V"
axis_text H = codes "H"

-- the axis of a letter
unfoldable pub axis_of : List ℕ → Option Axis
axis_of word = first_of axis_text word (V ∷ H ∷ [])

-- the key of a marker: the name of its rule, and, each after a colon, the axis, the side, the coordinates of
-- the edges and the rows, in nm
abbrev pub marker_key : MarkerName → List ℕ
marker_key m =
    with_colons (m.rule ∷ axis_text m.piece.axis ∷ decimal m.piece.side ∷ signed_decimal m.piece.x1
    ∷ signed_decimal m.piece.x2 ∷ signed_decimal m.piece.y0 ∷ signed_decimal m.piece.y1 ∷ [])

-- the word of an operation
unfoldable pub operation_text : Operation → List ℕ
operation_text Submit = codes "submit"
operation_text Use = codes "use"
operation_text Read = codes "read"
operation_text Place = codes "place"
operation_text Admin = codes "admin"
operation_text Deck = codes "deck"
operation_text Run = codes "run"
operation_text Waive = codes "waive"
operation_text Sign = codes "sign"
operation_text Verdict = codes "verdict"
operation_text Audit = codes "audit"

-- the operation that a word names
unfoldable pub operation_of : List ℕ → Option Operation
operation_of word = first_of operation_text word OPERATIONS

-- whether the operation is on cells; the others are on the desk
unfoldable pub is_on_cells : Operation → Bool
is_on_cells Submit = true
is_on_cells Use = true
is_on_cells Read = true
is_on_cells Place = true
is_on_cells _ = false
