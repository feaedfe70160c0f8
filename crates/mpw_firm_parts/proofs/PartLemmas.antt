-- A part, read again.
use Rattle.std.proofs.Common.{◌≡◌, ◌≤◌, ◌+◌, ◌-◌, ◌==◌, ℕ, Bool, true, false, cond, Option, Some, None, option_map, List, [], ◌∷◌, ◌++◌, length, take, map, refl, ap, sym, ◌∙◌, arith, codes, append_assoc, append-nil, length-append}
use Rattle.std.specs.Prelude.{All, IfSome}
use Rattle.std.specs.List.{AllZip, flat_map}
use Rattle.std.specs.Fmt.{decimal, signed_decimal}
use Rattle.std.proofs.lemmas.List.Concat.{flat_map-append}
use Rattle.std.proofs.lemmas.Option.{cond_some, option_and_then_some}
use Rattle.std.proofs.lemmas.List.Elements.{All-head, All-tail, All-nil, All-cons, All-append, All-map, All-weaker, All-from_recursion}
use Rattle.hex.specs.Hex.{encode_lower}
use Rattle.mpw_geom.specs.declared.plane.Box2.{Box2}
use Rattle.mpw_geom.specs.Names.{name_eq}
use Rattle.mpw_geom.proofs.Linked.{same_name, name_eq-refl}
use Rattle.mpw_text.proofs.Decimals.{number_read, le_true}
use Rattle.mpw_text.specs.Text.{lines_of, words_of}
use Rattle.mpw_markers.specs.declared.marker.Key.{Key}
use Rattle.mpw_columns_keys.specs.declared.column.Column.{Column}
use Rattle.mpw_firm_parts.specs.declared.head.Heading.{Heading}
use Rattle.mpw_firm_parts.specs.declared.line.Listed.{Listed}
use Rattle.mpw_firm_parts.specs.Laws.{OnlyPartsAreRead, PartsAreReadBack}
use Rattle.mpw_firm_parts.specs.Parts.{Checked, Found, IsListOf, IsColumn, AreKeys, IsBox, IsChecked, IsPart}
use Rattle.mpw_firm_parts.specs.Reading.{all_of, fields_of, box_by, extent_of, column_of, head_from, head_by, head_of, listed_of, within, part_by, exact, part_of, ◌>>=◌}
use Rattle.mpw_firm_parts.specs.Text.{ended, spaced, column_line, columns_text, box_fields, extent_text, head_names, head_line, body_text, digest_line, part_text}
use Rattle.mpw_firm_parts.proofs.AllOf.{all_read}
use Rattle.mpw_firm_parts.proofs.Digests.{digest_one_line}
use Rattle.mpw_firm_parts.proofs.ReadBack.{IsLine, line_of, line_read, line_one_line}
use Rattle.mpw_firm_parts.proofs.Splitting.{IsGlyph, IsPlain, IsOne, each_behind, parts_again, lines_again, before_last, one_word, one_line, one_field, glyphs, all_flat}
use Rattle.mpw_firm_parts.proofs.Words.{name_read, name_glyphs, digest_read, bytes_read, hex_glyphs, number_plain, integer_read, integer_plain}

-- ---- an extent

abbrev box_text : Box2 → List ℕ
box_text b = signed_decimal b.x0 ++ each_behind 58 (box_fields b)

sides_plain : (b : Box2) → IsBox b → All (All IsPlain) (box_fields b)
sides_plain b h = All-from_recursion (All IsPlain) (box_fields b)
    (integer_plain b.y0 h.y0, (integer_plain b.x1 h.x1, (integer_plain b.y1 h.y1, tt)))

box_parts : (b : Box2) → IsBox b → fields_of (box_text b) ≡ signed_decimal b.x0 ∷ box_fields b
box_parts b h =
    parts_again 58 (signed_decimal b.x0) (box_fields b)
    (one_field (signed_decimal b.x0) (integer_plain b.x0 h.x0))
    (All-weaker (All IsPlain) (IsOne 58) one_field (box_fields b) (sides_plain b h))

sides_read : (b : Box2) → IsBox b → box_by (signed_decimal b.x0 ∷ box_fields b) ≡ Some b
unfolding box_by
sides_read b h =
    rw (
      integer_read b.x0 h.x0,
      integer_read b.y0 h.y0,
      integer_read b.x1 h.x1,
      integer_read b.y1 h.y1,
    ) refl

-- a box has more bytes than the sign that there is none
long : (b : Box2) → 2 ≤ length (box_text b)
long b =
    let first = length-append (signed_decimal b.x0) (each_behind 58 (box_fields b)) in
    let second = length-append (signed_decimal b.y0) (58 ∷ (signed_decimal b.x1
    ++ 58 ∷ (signed_decimal b.y1 ++ []))) in omega (arith, first, second)

no_sign : (b : Box2) → name_eq (box_text b) (codes "-") ≡ false
no_sign b = at (name_eq (box_text b) (codes "-")) refl
  where
    at : (t : Bool) → name_eq (box_text b) (codes "-") ≡ t → t ≡ false
    at false e = refl
    at true e =
        let short = ap length (same_name (box_text b) (codes "-") e) in
        let more = long b in
        absurd (omega (arith, short, more))

extent_read : (extent : Option Box2) → IfSome extent IsBox
    → extent_of (extent_text extent) ≡ Some extent
unfolding extent_of extent_text
extent_read None h = refl
extent_read (Some b) h =
    ap (λ t. cond t (Some None) (option_map (λ (x : Box2). Some x)
    (box_by (fields_of (box_text b)))))
    (no_sign b)
    ∙ ap (λ fields. option_map (λ (x : Box2). Some x) (box_by fields)) (box_parts b h)
    ∙ ap (option_map (λ (x : Box2). Some x)) (sides_read b h)

extent_glyphs : (extent : Option Box2) → IfSome extent IsBox → All IsGlyph (extent_text extent)
unfolding extent_text
extent_glyphs None h = All-from_recursion IsGlyph (codes "-") (omega arith, tt)
extent_glyphs (Some b) h =
    All-append IsGlyph (signed_decimal b.x0) (each_behind 58 (box_fields b))
    (glyphs (signed_decimal b.x0) (integer_plain b.x0 h.x0))
    (all_flat IsGlyph 58 (box_fields b) (omega arith)
    (All-weaker (All IsPlain) (All IsGlyph) glyphs (box_fields b) (sides_plain b h)))

-- ---- the first line

abbrev Kind : List ℕ
Kind = codes "mpw-part-3"

abbrev head_words : Checked → ℕ → List (List ℕ)
head_words s first =
    encode_lower s.library ∷ encode_lower s.deck ∷ s.top ∷ extent_text s.extent
    ∷ decimal s.columns ∷ decimal first ∷ []

-- texts one after another
in_row : (k l d t s e c f : List ℕ) → k ++ l ++ d ++ t ++ s ++ e ++ c ++ f
    ≡ k ++ (l ++ (d ++ (t ++ (s ++ (e ++ (c ++ (f ++ [])))))))
in_row k l d t s e c f =
    append_assoc (k ++ l ++ d ++ t ++ s ++ e) c f
    ∙ append_assoc (k ++ l ++ d ++ t ++ s) e (c ++ f)
    ∙ append_assoc (k ++ l ++ d ++ t) s (e ++ (c ++ f))
    ∙ append_assoc (k ++ l ++ d) t (s ++ (e ++ (c ++ f)))
    ∙ append_assoc (k ++ l) d (t ++ (s ++ (e ++ (c ++ f))))
    ∙ append_assoc k l (d ++ (t ++ (s ++ (e ++ (c ++ f)))))
    ∙ ap (λ end. k ++ (l ++ (d ++ (t ++ (s ++ (e ++ (c ++ end))))))) (sym (append-nil f))

head_is : (s : Checked) (first : ℕ)
    → head_line s first ≡ Kind ++ each_behind 32 (head_words s first)
unfolding head_line head_names
head_is s first =
    in_row Kind (spaced (encode_lower s.library)) (spaced (encode_lower s.deck)) (spaced s.top)
    (codes " ") (extent_text s.extent) (spaced (decimal s.columns)) (spaced (decimal first))

words_glyphs : (s : Checked) (first : ℕ) → IsChecked s → first ≤ 4194304
    → All (All IsGlyph) (head_words s first)
words_glyphs s first h few =
    let most = h.few in
    All-from_recursion (All IsGlyph) (head_words s first) (
      hex_glyphs s.library h.library,
      (
        hex_glyphs s.deck h.deck,
        (
          name_glyphs s.top h.top,
          (
            extent_glyphs s.extent h.extent,
            (
              glyphs (decimal s.columns)
                  (number_plain s.columns (omega (arith, most))),
              (glyphs (decimal first) (number_plain first (omega (arith, few))), tt),
            ),
          ),
        ),
      ),
    )

head_line_words : (s : Checked) (first : ℕ) → IsChecked s → first ≤ 4194304
    → words_of (head_line s first) ≡ Kind ∷ head_words s first
head_line_words s first h few =
    ap words_of (head_is s first)
    ∙ parts_again 32 Kind (head_words s first)
    (All-from_recursion (λ byte. (byte == 32) ≡ false) Kind
    (refl, (refl, (refl, (refl, (refl, (refl, (refl, (refl, (refl, (refl, tt)))))))))))
    (All-weaker (All IsGlyph) (IsOne 32) one_word (head_words s first) (words_glyphs s first h few))

head_one_line : (s : Checked) (first : ℕ) → IsChecked s → first ≤ 4194304
    → IsOne 10 (Kind ++ each_behind 32 (head_words s first))
head_one_line s first h few =
    All-append (λ byte. (byte == 10) ≡ false) Kind (each_behind 32 (head_words s first))
    (All-from_recursion (λ byte. (byte == 10) ≡ false) Kind
    (refl, (refl, (refl, (refl, (refl, (refl, (refl, (refl, (refl, (refl, tt)))))))))))
    (all_flat (λ byte. (byte == 10) ≡ false) 32 (head_words s first) refl
    (All-weaker (All IsGlyph) (IsOne 10) one_line (head_words s first)
    (words_glyphs s first h few)))

from_words : (s : Checked) (first : ℕ) → IsChecked s → first ≤ 4194304
    → head_from (head_words s first) ≡ Some (record { subject = s; first = first })
unfolding head_from
from_words s first h few =
    let most = h.few in
    rw (
      digest_read s.library h.digest h.library,
      number_read 0 s.columns 4194304 (omega (arith, most))
          (omega arith) most,
      number_read 0 first 4194304 (omega (arith, few)) (omega arith) few,
      extent_read s.extent h.extent,
      name_read s.top h.top,
      bytes_read s.deck h.deck,
    )
    refl

head_read : (s : Checked) (first : ℕ) → IsChecked s → first ≤ 4194304
    → head_of (head_line s first) ≡ Some (record { subject = s; first = first })
unfolding head_by
head_read s first h few = ap head_by (head_line_words s first h few) ∙ from_words s first h few

-- ---- the columns

-- columns with their lists, line by line
record AreLines (columns : List Column) (lists : List (List Key)) : Type 0 where
  listed : List Listed
  own_columns : map (λ (l : Listed). l.column) listed ≡ columns
  own_lists : map (λ (l : Listed). l.keys) listed ≡ lists
  all : All IsLine listed
  text : columns_text columns lists ≡ flat_map ended (map line_of listed)

lines_from : (columns : List Column) (lists : List (List Key)) → AllZip IsListOf columns lists
    → All IsColumn columns → All AreKeys lists → AreLines columns lists
unfolding columns_text
lines_from [] [] zipped cs ls = record {
  listed = [];
  own_columns = refl;
  own_lists = refl;
  all = All-nil IsLine;
  text = refl;
}
lines_from [] (l ∷ lists) zipped cs ls = absurd zipped
lines_from (c ∷ columns) [] zipped cs ls = absurd zipped
lines_from (c ∷ columns) (l ∷ lists) zipped cs ls =
    let rest = lines_from columns lists zipped.1 (All-tail IsColumn c columns cs)
    (All-tail AreKeys l lists ls) in
    let first : Listed = record { column = c; keys = l } in
    record {
      listed = first ∷ rest.listed;
      own_columns = ap (λ (xs : List Column). c ∷ xs) rest.own_columns;
      own_lists = ap (λ (xs : List (List Key)). l ∷ xs) rest.own_lists;
      all = All-cons IsLine first rest.listed (record {
        column = All-head IsColumn c columns cs;
        of = zipped.0;
        own = All-head AreKeys l lists ls;
      }) rest.all;
      text = ap (λ t. ended (column_line c l) ++ t) rest.text;
    }

-- ---- the whole

abbrev lines_behind : List Listed → List ℕ → List (List ℕ)
lines_behind listed last = map line_of listed ++ last ∷ []

abbrev last_of : Found → List ℕ
last_of p = digest_line (body_text p)

text_with : (p : Found) (lines : AreLines p.columns p.lists) (last : List ℕ)
    → body_text p ++ ended last
    ≡ flat_map ended (head_line p.subject p.first ∷ lines_behind lines.listed last)
unfolding body_text
text_with p lines last =
    append_assoc (ended (head_line p.subject p.first)) (columns_text p.columns p.lists) (ended last)
    ∙ ap (λ t. ended (head_line p.subject p.first) ++ t)
    (ap (λ t. t ++ ended last) lines.text
    ∙ ap (λ t. flat_map ended (map line_of lines.listed) ++ t) (sym (append-nil (ended last)))
    ∙ sym (flat_map-append ended (map line_of lines.listed) (last ∷ [])))

text_is : (p : Found) (lines : AreLines p.columns p.lists) → part_text p ≡ flat_map ended
    (head_line p.subject p.first ∷ lines_behind lines.listed (last_of p))
unfolding part_text
text_is p lines = text_with p lines (last_of p)

lines_read : (listed : List Listed) (last : List ℕ) → All IsLine listed
    → listed_of (lines_behind listed last) ≡ Some listed
lines_read listed last all =
    ap (all_of column_of) (before_last (map line_of listed) last)
    ∙ all_read column_of line_of IsLine line_read listed all

within_read : (p : Found) → p.first + length p.lists ≤ p.subject.columns
    → within (record { subject = p.subject; first = p.first }) p.columns p.lists ≡ Some p
unfolding within
within_read p h =
    ap (λ b. cond b (Some p) None) (le_true (p.first + length p.lists) p.subject.columns h)

head_one : (s : Checked) (first : ℕ) → IsChecked s → first ≤ 4194304
    → All (λ byte. (byte == 10) ≡ false) (head_line s first)
head_one s first h few = rw (head_is s first) (head_one_line s first h few)

all_one_line : (p : Found) (lines : AreLines p.columns p.lists) → IsPart p → p.first ≤ 4194304
    → All (IsOne 10) (head_line p.subject p.first ∷ lines_behind lines.listed (last_of p))
all_one_line p lines h few =
    All-cons (IsOne 10) (head_line p.subject p.first) (lines_behind lines.listed (last_of p))
    (head_one p.subject p.first h.subject few)
    (All-append (IsOne 10) (map line_of lines.listed) (last_of p ∷ [])
    (All-map (IsOne 10) line_of lines.listed
    (All-weaker IsLine (λ l. IsOne 10 (line_of l)) line_one_line lines.listed lines.all))
    (All-from_recursion (IsOne 10) (last_of p ∷ []) (digest_one_line (body_text p), tt)))

said_back : (p : Found) → IsPart p → part_by (lines_of (part_text p)) ≡ Some p
unfolding part_by
said_back p h =
    let most = h.subject.few in
    let inside = h.within.few in
    let few : p.first ≤ 4194304 = omega (arith, most, inside) in
    let lines = lines_from p.columns p.lists h.within.lists h.columns h.lists in
    let last = last_of p in
    let head : Heading = record { subject = p.subject; first = p.first } in
    ap (λ t. part_by (lines_of t)) (text_is p lines)
    ∙ ap part_by (lines_again (head_line p.subject p.first ∷ lines_behind lines.listed last)
    (all_one_line p lines h few))
    ∙ ap (λ o. o >>= λ head. listed_of (lines_behind lines.listed last) >>= λ found. within head
    (map (λ (l : Listed). l.column) found) (map (λ (l : Listed). l.keys) found))
    (head_read p.subject p.first h.subject few)
    ∙ ap (λ o. o >>= λ found. within head (map (λ (l : Listed). l.column) found)
    (map (λ (l : Listed). l.keys) found)) (lines_read lines.listed last lines.all)
    ∙ ap (λ cs. within head cs (map (λ (l : Listed). l.keys) lines.listed)) lines.own_columns
    ∙ ap (λ ls. within head p.columns ls) lines.own_lists
    ∙ within_read p inside

-- ---- the text, and no other

own_text : (p : Found) → exact (part_text p) p ≡ Some p
unfolding exact
own_text p = ap (λ b. cond b (Some p) None) (name_eq-refl (part_text p))

pub parts_are_read_back : PartsAreReadBack
unfolding part_of
parts_are_read_back p h = ap (λ o. o >>= exact (part_text p)) (said_back p h) ∙ own_text p

exact_text : (text : List ℕ) (said part : Found) → exact text said ≡ Some part
    → text ≡ part_text part
unfolding exact
exact_text text said part e =
    let both = cond_some (name_eq text (part_text said)) said part e in
    same_name text (part_text said) both.0 ∙ ap part_text both.1

pub only_parts_are_read : OnlyPartsAreRead
unfolding part_of
only_parts_are_read text part e =
    option_and_then_some (exact text) (part_by (lines_of text)) part e
    (λ said is here. exact_text text said part here)
