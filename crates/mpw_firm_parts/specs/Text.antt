-- The text of a part: a line with what was checked and which column is the first, a line for each column with its keys, and a last line
-- with the SHA-256 of all before it.
use Rattle.std.specs.Prelude.{ℕ, List, [], ◌∷◌, ◌++◌, codes, Option, None, Some}
use Rattle.std.specs.List.{flat_map}
use Rattle.std.specs.Fmt.{decimal, signed_decimal}
use Rattle.hex.specs.Hex.{encode_lower}
use Rattle.sha2.specs.Sha256.{sha256}
use Rattle.mpw_geom.specs.declared.plane.Box2.{Box2}
use Rattle.mpw_text.specs.Writing.{with_colons}
use Rattle.mpw_edges.specs.declared.run.Axis.{Axis}
use Rattle.mpw_edges.specs.declared.run.Axis.TheVariants.{V, H}
use Rattle.mpw_markers.specs.declared.marker.Key.{Key}
use Rattle.mpw_columns_keys.specs.declared.column.Column.{Column}
use Rattle.mpw_firm_parts.specs.Parts.{Checked, Found}

-- a word after a space, and a line with its line feed
abbrev pub spaced : List ℕ → List ℕ
spaced word = 32 ∷ word

abbrev pub ended : List ℕ → List ℕ
ended line = line ++ 10 ∷ []

-- the letter of an axis
unfoldable pub axis_text : Axis → List ℕ
axis_text V = codes "V"
axis_text H = codes "H"

-- a key, whose axis is its column's: the rule's place in the deck, the side, where the edges lie, which rows there are
abbrev pub key_fields : Key → List (List ℕ)
key_fields k = decimal k.piece.side ∷ signed_decimal k.piece.x1 ∷ signed_decimal k.piece.x2
    ∷ signed_decimal k.piece.y0
    ∷ signed_decimal k.piece.y1 ∷ []

unfoldable pub key_text : Key → List ℕ
key_text k = with_colons (decimal k.rule ∷ key_fields k)

abbrev pub key_part : Key → List ℕ
key_part k = spaced (key_text k)

-- a column: its axis, its first place, and the place after its last one
abbrev pub column_fields : Column → List (List ℕ)
column_fields c = signed_decimal c.from ∷ signed_decimal c.to ∷ []

unfoldable pub column_text : Column → List ℕ
column_text c = with_colons (axis_text c.axis ∷ column_fields c)

-- the line of a column
unfoldable pub column_line : Column → List Key → List ℕ
column_line c keys = column_text c ++ flat_map key_part keys

-- the lines of columns
unfoldable pub columns_text : List Column → List (List Key) → List ℕ
columns_text [] lists = []
columns_text (c ∷ cs) [] = []
columns_text (c ∷ cs) (keys ∷ lists) = ended (column_line c keys) ++ columns_text cs lists

-- the extent: its sides, or a sign that there is none
abbrev pub box_fields : Box2 → List (List ℕ)
box_fields b = signed_decimal b.y0 ∷ signed_decimal b.x1 ∷ signed_decimal b.y1 ∷ []

unfoldable pub extent_text : Option Box2 → List ℕ
extent_text None = codes "-"
extent_text (Some b) = with_colons (signed_decimal b.x0 ∷ box_fields b)

-- the first line: what names the check, its columns, and the first of them
unfoldable pub head_names : Checked → List ℕ
head_names subject = codes "mpw-part-3" ++ spaced (encode_lower subject.library)
    ++ spaced (encode_lower subject.deck) ++ spaced subject.top ++ codes " "

unfoldable pub head_line : Checked → ℕ → List ℕ
head_line subject first = head_names subject ++ extent_text subject.extent
    ++ spaced (decimal subject.columns) ++ spaced (decimal first)

-- the text without its last line
unfoldable pub body_text : Found → List ℕ
body_text part =
    ended (head_line part.subject part.first) ++ columns_text part.columns part.lists

-- the last line of a text with this body: the body's SHA-256 in lower case hexadecimal digits
unfoldable pub digest_line : List ℕ → List ℕ
digest_line body = codes "sha256 " ++ encode_lower (sha256 body)

-- the whole
unfoldable pub part_text : Found → List ℕ
part_text part = body_text part ++ ended (digest_line (body_text part))
