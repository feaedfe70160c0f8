-- A key and a column's line, read again.
use Rattle.std.proofs.Common.{◌≡◌, ◌==◌, ◌<ℤ◌, ℕ, true, false, cond, Some, None, List, [], ◌∷◌, ◌++◌, map, refl, ap, sym, ◌∙◌, subst, arith}
use Rattle.std.specs.Prelude.{All, int_lt, int_le}
use Rattle.std.specs.Fmt.{decimal, signed_decimal}
use Rattle.std.proofs.lemmas.Bool.{and_from}
use Rattle.std.proofs.lemmas.Int.{ints}
use Rattle.std.proofs.lemmas.List.Folds.{flat_map-map}
use Rattle.std.proofs.lemmas.List.Elements.{All-append, All-map, All-weaker, All-from_recursion}
use Rattle.mpw_text.proofs.Decimals.{number_read}
use Rattle.mpw_text.specs.Text.{words_of}
use Rattle.mpw_markers.specs.declared.marker.Key.{Key}
use Rattle.mpw_columns_keys.specs.declared.column.Column.{Column}
use Rattle.mpw_columns_keys.specs.Keys.{AreInOrder}
use Rattle.mpw_columns_keys.proofs.Ordered.{decides}
use Rattle.mpw_firm_parts.specs.declared.line.Listed.{Listed}
use Rattle.mpw_firm_parts.specs.Parts.{IsKeyOf, IsListOf, IsKey, IsColumn, AreKeys}
use Rattle.mpw_firm_parts.specs.Reading.{all_of, edges_by, key_with, key_in, key_from, key_by, column_key, fields_of, some_column, column_by, with_keys, column_words, column_of, ◌>>=◌}
use Rattle.mpw_firm_parts.specs.Text.{axis_text, spaced, key_fields, key_text, column_fields, column_text, column_line}
use Rattle.mpw_firm_parts.proofs.AllOf.{all_read}
use Rattle.mpw_firm_parts.proofs.Splitting.{IsGlyph, IsPlain, IsOne, each_behind, parts_again, one_word, one_line, one_field, glyphs, all_flat}
use Rattle.mpw_firm_parts.proofs.Words.{number_plain, integer_read, integer_plain, axis_read, axis_plain}

-- ---- a key

edges_read : (k : Key) → IsKey k → edges_by (signed_decimal k.piece.x1 ∷ signed_decimal k.piece.x2
    ∷ signed_decimal k.piece.y0 ∷ signed_decimal k.piece.y1 ∷ [])
    ≡ Some (record { x1 = k.piece.x1; x2 = k.piece.x2; y0 = k.piece.y0; y1 = k.piece.y1 })
unfolding edges_by
edges_read k h =
    rw (
      integer_read k.piece.x1 h.x1,
      integer_read k.piece.x2 h.x2,
      integer_read k.piece.y0 h.y0,
      integer_read k.piece.y1 h.y1,
    ) refl

in_read : (c : Column) (k : Key) → IsKeyOf c k → key_in c k ≡ Some k
unfolding key_in
in_read c k h =
    let left = h.left in
    let right = h.right in
    let filled = h.filled in
    let first : int_le c.from k.piece.x1 ≡ true = grind (arith, ints, left) in
    let second : int_lt k.piece.x1 c.to ≡ true = grind (arith, ints, right) in
    let third : int_lt k.piece.y0 k.piece.y1 ≡ true = grind (arith, ints, filled) in
    ap (λ b. cond b (Some k) None) (and_from _ _ first (and_from _ _ second third))

fields_read : (c : Column) (k : Key) → IsKey k → IsKeyOf c k
    → key_by c (decimal k.rule ∷ key_fields k) ≡ Some k
unfolding key_by key_from
fields_read c k h of =
    let narrow = h.rule in
    let short = h.side in
    rw (
      number_read 0 k.rule 4294967295 (omega (arith, narrow)) (omega arith)
          (omega (arith, narrow)),
      number_read 0 k.piece.side 255 (omega (arith, short))
          (omega arith) (omega (arith, short)),
      edges_read k h,
    )
    (ap (λ a. key_in c (key_with a k.rule k.piece.side
    (record { x1 = k.piece.x1; x2 = k.piece.x2; y0 = k.piece.y0; y1 = k.piece.y1 })))
    (sym of.on_axis)
    ∙ in_read c k of)

fields_plain : (k : Key) → IsKey k → All (All IsPlain) (key_fields k)
fields_plain k h =
    let short = h.side in
    All-from_recursion (All IsPlain) (key_fields k) (
      number_plain k.piece.side (omega (arith, short)),
      (
        integer_plain k.piece.x1 h.x1,
        (
          integer_plain k.piece.x2 h.x2,
          (integer_plain k.piece.y0 h.y0, (integer_plain k.piece.y1 h.y1, tt)),
        ),
      ),
    )

rule_plain : (k : Key) → IsKey k → All IsPlain (decimal k.rule)
rule_plain k h = let narrow = h.rule in number_plain k.rule (omega (arith, narrow))

key_parts : (k : Key) → IsKey k → fields_of (key_text k) ≡ decimal k.rule ∷ key_fields k
unfolding key_text
key_parts k h =
    parts_again 58 (decimal k.rule) (key_fields k) (one_field (decimal k.rule) (rule_plain k h))
    (All-weaker (All IsPlain) (IsOne 58) one_field (key_fields k) (fields_plain k h))

key_glyphs : (k : Key) → IsKey k → All IsGlyph (key_text k)
unfolding key_text
key_glyphs k h =
    All-append IsGlyph (decimal k.rule) (each_behind 58 (key_fields k))
    (glyphs (decimal k.rule) (rule_plain k h))
    (all_flat IsGlyph 58 (key_fields k) (omega arith)
    (All-weaker (All IsPlain) (All IsGlyph) glyphs (key_fields k) (fields_plain k h)))

-- a key with what its fields have, of a column
record IsKeyIn (c : Column) (k : Key) : Type 0 where
  key : IsKey k
  of : IsKeyOf c k

key_read : (c : Column) (k : Key) → IsKeyIn c k → column_key c (key_text k) ≡ Some k
key_read c k h = ap (key_by c) (key_parts k h.key) ∙ fields_read c k h.key h.of

-- ---- a column

some_read : (c : Column) → c.from <ℤ c.to → some_column c ≡ Some c
unfolding some_column
some_read c h = let test : int_lt c.from c.to ≡ true = grind (arith, ints, h) in
    ap (λ b. cond b (Some c) None) test

sides_read : (c : Column) → IsColumn c → c.from <ℤ c.to
    → column_by (axis_text c.axis ∷ column_fields c) ≡ Some c
unfolding column_by
sides_read c h some =
    rw (axis_read c.axis, integer_read c.from h.from, integer_read c.to h.to) (some_read c some)

sides_plain : (c : Column) → IsColumn c → All (All IsPlain) (column_fields c)
sides_plain c h = All-from_recursion (All IsPlain) (column_fields c)
    (integer_plain c.from h.from, (integer_plain c.to h.to, tt))

column_parts : (c : Column) → IsColumn c
    → fields_of (column_text c) ≡ axis_text c.axis ∷ column_fields c
unfolding column_text
column_parts c h =
    parts_again 58 (axis_text c.axis) (column_fields c)
    (one_field (axis_text c.axis) (axis_plain c.axis))
    (All-weaker (All IsPlain) (IsOne 58) one_field (column_fields c) (sides_plain c h))

column_glyphs : (c : Column) → IsColumn c → All IsGlyph (column_text c)
unfolding column_text
column_glyphs c h =
    All-append IsGlyph (axis_text c.axis) (each_behind 58 (column_fields c))
    (glyphs (axis_text c.axis) (axis_plain c.axis))
    (all_flat IsGlyph 58 (column_fields c) (omega arith)
    (All-weaker (All IsPlain) (All IsGlyph) glyphs (column_fields c) (sides_plain c h)))

column_read : (c : Column) → IsColumn c → c.from <ℤ c.to
    → column_by (fields_of (column_text c)) ≡ Some c
column_read c h some = ap column_by (column_parts c h) ∙ sides_read c h some

-- ---- its line

-- a column with its keys, with what the fields of each have
pub record IsLine (l : Listed) : Type 0 where
  pub column : IsColumn l.column
  pub of : IsListOf l.column l.keys
  pub own : AreKeys l.keys

abbrev pub line_of : Listed → List ℕ
line_of l = column_line l.column l.keys

line_is : (c : Column) (keys : List Key)
    → column_line c keys ≡ column_text c ++ each_behind 32 (map key_text keys)
unfolding column_line
line_is c keys = ap (λ t. column_text c ++ t) (sym (flat_map-map spaced key_text keys))

keys_glyphs : (keys : List Key) → All IsKey keys → All (All IsGlyph) (map key_text keys)
keys_glyphs keys all = All-map (All IsGlyph) key_text keys
    (All-weaker IsKey (λ k. All IsGlyph (key_text k)) key_glyphs keys all)

line_words : (l : Listed) → IsLine l
    → words_of (line_of l) ≡ column_text l.column ∷ map key_text l.keys
line_words l h =
    ap words_of (line_is l.column l.keys)
    ∙ parts_again 32 (column_text l.column) (map key_text l.keys)
    (one_word (column_text l.column) (column_glyphs l.column h.column))
    (All-weaker (All IsGlyph) (IsOne 32) one_word (map key_text l.keys)
    (keys_glyphs l.keys h.own.all))

ordered_read : (l : Listed) → AreInOrder l.keys → with_keys l.column l.keys ≡ Some l
unfolding with_keys
ordered_read l h = ap (λ b. cond b (Some l) None) ((decides l.keys).1 h)

words_read : (l : Listed) → IsLine l
    → column_words (column_text l.column ∷ map key_text l.keys) ≡ Some l
unfolding column_words
words_read l h =
    ap (λ o. o >>= λ c. all_of (column_key c) (map key_text l.keys) >>= λ keys. with_keys c keys)
    (column_read l.column h.column h.of.some)
    ∙ ap (λ o. o >>= λ keys. with_keys l.column keys)
    (all_read (column_key l.column) key_text (IsKeyIn l.column) (key_read l.column) l.keys
    (λ i d less. record { key = h.own.all i d less; of = h.of.all i d less }))
    ∙ ordered_read l h.own.ordered

pub line_read : (l : Listed) → IsLine l → column_of (line_of l) ≡ Some l
line_read l h = ap column_words (line_words l h) ∙ words_read l h

pub line_one_line : (l : Listed) → IsLine l → IsOne 10 (line_of l)
line_one_line l h =
    subst (IsOne 10) (sym (line_is l.column l.keys))
    (All-append (λ byte. (byte == 10) ≡ false) (column_text l.column)
    (each_behind 32 (map key_text l.keys))
    (one_line (column_text l.column) (column_glyphs l.column h.column))
    (all_flat (λ byte. (byte == 10) ≡ false) 32 (map key_text l.keys) refl
    (All-weaker (All IsGlyph) (IsOne 10) one_line (map key_text l.keys)
    (keys_glyphs l.keys h.own.all))))
