-- What a text says as a part, if it is one.
use Rattle.std.specs.Prelude.{◌==◌, ◌&&◌, ◌||◌, ◌+◌, ◌-◌, ℕ, ℤ, pos, neg_ℤ, int_lt, int_le, Bool, true, false, nat_le, List, [], ◌∷◌, codes, length, map, take, drop, Option, None, Some, option_map, option_and_then, if◌then◌else◌}
use Rattle.std.specs.List.{slice_split}
use Rattle.std.specs.Result.{result_ok}
use Rattle.hex.specs.Hex.{decode_of, decode_sized}
use Rattle.mpw_geom.specs.declared.plane.Box2.{Box2}
use Rattle.mpw_geom.specs.Name.{is_visible_word}
use Rattle.mpw_geom.specs.Names.{name_eq}
use Rattle.mpw_text.specs.Text.{lines_of, words_of, number_of}
use Rattle.mpw_edges.specs.declared.run.Axis.{Axis}
use Rattle.mpw_edges.specs.declared.run.Axis.TheVariants.{V, H}
use Rattle.mpw_edges.specs.declared.run.Piece.{Piece}
use Rattle.mpw_markers.specs.declared.marker.Key.{Key}
use Rattle.mpw_columns_keys.specs.declared.column.Column.{Column}
use Rattle.mpw_columns_keys.specs.Keys.{are_in_order}
use Rattle.mpw_firm_parts.specs.declared.head.Heading.{Heading}
use Rattle.mpw_firm_parts.specs.declared.key.Edges.{Edges}
use Rattle.mpw_firm_parts.specs.declared.line.Listed.{Listed}
use Rattle.mpw_firm_parts.specs.Parts.{Found}
use Rattle.mpw_firm_parts.specs.Text.{part_text}

-- a part, and then the next if there is one
infixl 10 ◌>>=◌
abbrev pub ◌>>=◌ : {A B : Type 0} → Option A → (A → Option B) → Option B
option >>= next = option_and_then next option

-- what all items are, if each is something
unfoldable pub all_of : {A B : Type 0} → (A → Option B) → List A → Option (List B)
all_of is [] = Some []
all_of is (x ∷ xs) = is x >>= λ y. option_map (λ ys. y ∷ ys) (all_of is xs)

-- ---- words

-- a number of 64 bits: digits, after a minus sign below 0
abbrev pub negative : ℕ → ℤ
negative number = neg_ℤ (pos number)

unfoldable pub integer_of : List ℕ → Option ℤ
integer_of [] = None
integer_of (first ∷ rest) =
    if first == 0x2D then option_map negative (number_of 1 9223372036854775808 rest)
    else option_map pos (number_of 0 9223372036854775807 (first ∷ rest))

-- the axis of a letter
unfoldable pub axis_of : List ℕ → Option Axis
axis_of word =
    if name_eq word (codes "V") then Some V
    else if name_eq word (codes "H") then Some H
    else None

unfoldable pub name_of : List ℕ → Option (List ℕ)
name_of word = if is_visible_word word then Some word else None

-- the bytes that hexadecimal digits spell, and 32 of them
unfoldable pub bytes_of : List ℕ → Option (List ℕ)
bytes_of word = result_ok (decode_of word)

unfoldable pub digest_of : List ℕ → Option (List ℕ)
digest_of word = result_ok (decode_sized word 32)

-- the parts of a word between colons
abbrev pub fields_of : List ℕ → List (List ℕ)
fields_of word = slice_split (λ b. b == 58) word

-- a box by its sides: left, lower, right and upper
unfoldable pub box_by : List (List ℕ) → Option Box2
box_by (x0 ∷ y0 ∷ x1 ∷ y1 ∷ []) = do
  left ← integer_of x0
  low ← integer_of y0
  right ← integer_of x1
  high ← integer_of y1
  Some (record { x0 = left; y0 = low; x1 = right; y1 = high })
box_by _ = None

-- an extent, or that there is none
unfoldable pub extent_of : List ℕ → Option (Option Box2)
extent_of word =
    if name_eq word (codes "-") then Some None
    else option_map (λ b. Some b) (box_by (fields_of word))

-- ---- a column's line

-- a column with a place
unfoldable pub some_column : Column → Option Column
some_column c = if int_lt c.from c.to then Some c else None

unfoldable pub column_by : List (List ℕ) → Option Column
column_by (axis ∷ from ∷ to ∷ []) = do
  a ← axis_of axis
  first ← integer_of from
  end ← integer_of to
  some_column (record { axis = a; from = first; to = end })
column_by _ = None

-- a key with a row whose first edge lies in the column
abbrev pub is_in_column : Column → Key → Bool
is_in_column c k =
    int_le c.from k.piece.x1 && (int_lt k.piece.x1 c.to && int_lt k.piece.y0 k.piece.y1)

unfoldable pub key_in : Column → Key → Option Key
key_in c k = if is_in_column c k then Some k else None

-- where a key's edges and rows lie
unfoldable pub edges_by : List (List ℕ) → Option Edges
edges_by (x1 ∷ x2 ∷ y0 ∷ y1 ∷ []) = do
  left ← integer_of x1
  right ← integer_of x2
  low ← integer_of y0
  high ← integer_of y1
  Some (record { x1 = left; x2 = right; y0 = low; y1 = high })
edges_by _ = None

-- a key on an axis
abbrev pub key_with : Axis → (rule side : ℕ) → Edges → Key
key_with axis rule side e =
    let piece : Piece = record {
      axis = axis;
      side = side;
      x1 = e.x1;
      x2 = e.x2;
      y0 = e.y0;
      y1 = e.y1;
    } in
    record { rule = rule; piece = piece }

-- the key that fields give, on the column's axis
unfoldable pub key_from : Column → (rule side : List ℕ) → List (List ℕ) → Option Key
key_from c rule side words = do
  r ← number_of 0 4294967295 rule
  s ← number_of 0 255 side
  e ← edges_by words
  key_in c (key_with c.axis r s e)

unfoldable pub key_by : Column → List (List ℕ) → Option Key
key_by c (rule ∷ side ∷ words) = key_from c rule side words
key_by c _ = None

abbrev pub column_key : Column → List ℕ → Option Key
column_key c word = key_by c (fields_of word)

-- a column with its keys, which are in order
unfoldable pub with_keys : Column → List Key → Option Listed
with_keys c keys = if are_in_order keys then Some (record { column = c; keys = keys }) else None

-- by the words of its line
unfoldable pub column_words : List (List ℕ) → Option Listed
column_words [] = None
column_words (word ∷ words) = do
  c ← column_by (fields_of word)
  keys ← all_of (column_key c) words
  with_keys c keys

abbrev pub column_of : List ℕ → Option Listed
column_of line = column_words (words_of line)

-- ---- the other lines

-- what was checked, with the first column, by the words of the first line
unfoldable pub head_from : List (List ℕ) → Option Heading
head_from (library ∷ deck ∷ top ∷ extent ∷ columns ∷ first ∷ []) = do
  l ← digest_of library
  c ← number_of 0 4194304 columns
  f ← number_of 0 4194304 first
  e ← extent_of extent
  n ← name_of top
  d ← bytes_of deck
  Some (record {
    subject = record { library = l; deck = d; top = n; extent = e; columns = c };
    first = f;
  })
head_from _ = None

unfoldable pub head_by : List (List ℕ) → Option Heading
head_by [] = None
head_by (kind ∷ words) = if name_eq kind (codes "mpw-part-3") then head_from words else None

abbrev pub head_of : List ℕ → Option Heading
head_of line = head_by (words_of line)

-- the columns of the lines before the last
abbrev pub listed_of : List (List ℕ) → Option (List Listed)
listed_of lines = all_of column_of (take (length lines - 1) lines)

-- a part whose columns are among those of the whole
unfoldable pub within : Heading → List Column → List (List Key) → Option Found
within head columns lists =
    if nat_le (head.first + length lists) head.subject.columns
    then Some (record {
      subject = head.subject;
      first = head.first;
      columns = columns;
      lists = lists;
    }) else None

unfoldable pub part_by : List (List ℕ) → Option Found
part_by [] = None
part_by (first ∷ lines) = do
  head ← head_of first
  found ← listed_of lines
  within head (map (λ (l : Listed). l.column) found) (map (λ (l : Listed). l.keys) found)

-- the part, if this is the very text that is written of it
unfoldable pub exact : List ℕ → Found → Option Found
exact text part = if name_eq text (part_text part) then Some part else None

-- the part that a text is
unfoldable pub part_of : List ℕ → Option Found
part_of text = part_by (lines_of text) >>= exact text

-- ---- texts that are no parts, by their first words

-- whether a word ends there
abbrev pub ends_word : List ℕ → Bool
ends_word [] = true
ends_word (byte ∷ bytes) = byte == 32 || byte == 10

-- whether this is the first word of the text's first line
abbrev pub has_first_word : List ℕ → List ℕ → Bool
has_first_word word text =
    name_eq (take (length word) text) word && ends_word (drop (length word) text)

-- the word of a part of tiles, or of columns without a digest
abbrev pub is_older : List ℕ → Bool
is_older text =
    has_first_word (codes "mpw-part-1") text || has_first_word (codes "mpw-part-2") text

-- the word of a part; a text with it that is none was changed or cut off
abbrev pub begins_as_part : List ℕ → Bool
begins_as_part text = has_first_word (codes "mpw-part-3") text
