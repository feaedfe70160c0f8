-- Words, fields and lines that were put one after another are taken apart again.
use Rattle.std.proofs.Common.{◌≡◌, ◌≤◌, ◌<◌, ◌-◌, ◌==◌, ℕ, true, false, cond, List, [], ◌∷◌, ◌++◌, length, take, refl, ap, ◌∙◌, arith, append-nil, append_assoc}
use Rattle.std.specs.List.{All, slice_split, flat_map}
use Rattle.std.proofs.lemmas.List.{length_push}
use Rattle.std.proofs.lemmas.List.Elements.{All-cons, All-head, All-tail, All-append, All-weaker, All-nil}
use Rattle.std.proofs.lemmas.List.Splits.{slice_split_at, slice_split_none}
use Rattle.std.proofs.lemmas.Bool.Decides.{nat_tests}
use Rattle.mpw_text.specs.Text.{is_last_empty, without_last_empty, lines_of}
use Rattle.mpw_firm_parts.specs.Text.{ended}

-- no byte of the word is the separator
abbrev pub IsOne : ℕ → List ℕ → Type 0
IsOne separator word = All (λ byte. (byte == separator) ≡ false) word

-- words, each after the separator
abbrev pub each_behind : ℕ → List (List ℕ) → List ℕ
each_behind separator words = flat_map (λ word. separator ∷ word) words

same : (n : ℕ) → (n == n) ≡ true
same n = grind (arith, nat_tests)

pub parts_again : (separator : ℕ) (word : List ℕ) (rest : List (List ℕ)) → IsOne separator word
    → All (IsOne separator) rest
    → slice_split (λ byte. byte == separator) (word ++ each_behind separator rest) ≡ word ∷ rest
parts_again separator word [] one all = ap (slice_split (λ byte. byte == separator))
    (append-nil word) ∙ slice_split_none (λ byte. byte == separator) word one
parts_again separator word (next ∷ rest) one all =
    slice_split_at (λ byte. byte == separator) word separator (next ++ each_behind separator rest)
    one (same separator)
    ∙ ap (λ ws. word ∷ ws) (parts_again separator next rest
    (All-head (IsOne separator) next rest all) (All-tail (IsOne separator) next rest all))

-- ---- lines

split_lines : (lines : List (List ℕ)) → All (IsOne 10) lines
    → slice_split (λ byte. byte == 10) (flat_map ended lines) ≡ lines ++ [] ∷ []
split_lines [] all =
    slice_split_none (λ byte. byte == 10) [] (All-nil (λ byte. (byte == 10) ≡ false))
split_lines (line ∷ lines) all =
    ap (slice_split (λ byte. byte == 10)) (append_assoc line (10 ∷ []) (flat_map ended lines))
    ∙ slice_split_at (λ byte. byte == 10) line 10 (flat_map ended lines)
    (All-head (IsOne 10) line lines all) (same 10)
    ∙ ap (λ ls. line ∷ ls) (split_lines lines (All-tail (IsOne 10) line lines all))

last_is_empty : (lines : List (List ℕ)) → is_last_empty (lines ++ [] ∷ []) ≡ true
last_is_empty [] = refl
last_is_empty (line ∷ []) = refl
last_is_empty (line ∷ next ∷ lines) = last_is_empty (next ∷ lines)

front : {A : Type 0} (xs : List A) (x : A) → take (length xs) (xs ++ x ∷ []) ≡ xs
front [] x = refl
front (y ∷ ys) x = ap (λ zs. y ∷ zs) (front ys x)

pub before_last : {A : Type 0} (xs : List A) (x : A)
    → take (length (xs ++ x ∷ []) - 1) (xs ++ x ∷ []) ≡ xs
before_last xs x =
    let long = length_push xs x in
    let counted : length (xs ++ x ∷ []) - 1 ≡ length xs = omega arith in
    ap (λ n. take n (xs ++ x ∷ [])) counted ∙ front xs x

-- lines that end with a line feed each are the lines of that text
pub lines_again : (lines : List (List ℕ)) → All (IsOne 10) lines
    → lines_of (flat_map ended lines) ≡ lines
lines_again lines all =
    ap without_last_empty (split_lines lines all)
    ∙ ap (λ b. cond b (take (length (lines ++ [] ∷ []) - 1) (lines ++ [] ∷ [])) (lines ++ [] ∷ []))
    (last_is_empty lines)
    ∙ before_last lines []

-- ---- bytes of words

-- visible, and none of them a colon
abbrev pub IsGlyph : ℕ → Type 0
IsGlyph byte = 33 ≤ byte

abbrev pub IsPlain : ℕ → Type 0
IsPlain byte = (33 ≤ byte) × ((byte == 58) ≡ false)

differs : (byte other : ℕ) → other < byte → (byte == other) ≡ false
differs byte other less = grind (arith, nat_tests, less)

pub one_word : (word : List ℕ) → All IsGlyph word → IsOne 32 word
one_word word all = All-weaker IsGlyph (λ byte. (byte == 32) ≡ false)
    (λ byte h. differs byte 32 (omega (arith, h))) word all

pub one_line : (word : List ℕ) → All IsGlyph word → IsOne 10 word
one_line word all = All-weaker IsGlyph (λ byte. (byte == 10) ≡ false)
    (λ byte h. differs byte 10 (omega (arith, h))) word all

pub one_field : (word : List ℕ) → All IsPlain word → IsOne 58 word
one_field word all = All-weaker IsPlain (λ byte. (byte == 58) ≡ false) (λ byte h. h.1) word all

pub glyphs : (word : List ℕ) → All IsPlain word → All IsGlyph word
glyphs word all = All-weaker IsPlain IsGlyph (λ byte h. h.0) word all

-- what holds of each byte of words holds of them one after another
pub all_flat : (P : ℕ → Type 0) (separator : ℕ) (words : List (List ℕ)) → P separator
    → All (All P) words → All P (each_behind separator words)
all_flat P separator [] h all = All-nil P
all_flat P separator (word ∷ words) h all =
    All-append P (separator ∷ word) (each_behind separator words)
    (All-cons P separator word h (All-head (All P) word words all))
    (all_flat P separator words h (All-tail (All P) word words all))
