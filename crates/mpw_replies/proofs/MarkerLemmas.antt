-- Listings of markers: their lines one by one, how many they have, and that they are those of the book.
use Rattle.std.proofs.Common.{◌≡◌, ℕ, ◌+◌, ◌<◌, ◌≤◌, Bool, true, false, cond, ◌&&◌, ◌==◌, Option, Some, None, List, [], ◌∷◌, ◌++◌, length}
use Rattle.std.proofs.Common.{get_or, take, drop, replicate, refl, sym, ap, ◌∙◌, arith, rules}
use Rattle.std.specs.Prelude.{slice_get, slice_index, filter, is_some}
use Rattle.std.specs.List.{flat_map}
use Rattle.std.proofs.lemmas.List.{length-append, length-take-le, at_drop_more, at_drop_all, get_or-replicate, length-replicate}
use Rattle.std.proofs.lemmas.List.Filters.{length-filter_more}
use Rattle.std.proofs.lemmas.Bool.{eq-eqb}
use Rattle.std.proofs.lemmas.Bool.Decides.{nat_tests}
use Rattle.mpw_deck.specs.declared.rule.Rule.{Rule}
use Rattle.mpw_hier.specs.declared.submission.Submission.{Submission}
use Rattle.mpw_markers.specs.declared.marker.Marker.{Marker}
use Rattle.mpw_roles.specs.Hierarchy.{Name}
use Rattle.mpw_replies.specs.Listing.{Listed, marker, masked}
use Rattle.mpw_replies.specs.Sight.{is_full, is_masked, met_cells, line_for, full_line, full_lines, masked_number, masked_line}
use Rattle.mpw_replies.specs.Sight.{masked_lines, book_lines}
use Rattle.mpw_replies.specs.Ranks.{met_of, line_by, shown_line, shown_lines, numbered_lines, lines_kept}
use Rattle.mpw_replies.specs.Internal.Ranks.{has_line, masked_one, AreNumbers}

-- ---- the lines of full markers

line_same : (names : List ℕ → List Name) (shelf : List Submission) (m : Marker) (o : Option Rule)
    → names m.met ≡ met_cells shelf m.met
    → line_by names m o ≡ line_for shelf m o
line_same names shelf m None e = refl
line_same names shelf m (Some rule) e = ap (λ cells. marker rule.name m.key cells ∷ []) e

shown_same : (names : List ℕ → List Name) (rules : List Rule) (shelf : List Submission)
    (seen : List Bool)
    → ((met : List ℕ) → names met ≡ met_cells shelf met) → (book : List Marker)
    → shown_lines names rules seen book ≡ full_lines rules shelf seen book
unfolding shown_lines full_lines
shown_same names rules shelf seen same [] = refl
shown_same names rules shelf seen same (m ∷ book) =
    let one : shown_line names rules seen m ≡ full_line rules shelf seen m =
    ap (λ ls. cond (is_full seen m) ls [])
    (line_same names shelf m (slice_get rules m.key.rule) (same m.met)) in
    ap (λ ls. ls ++ flat_map (shown_line names rules seen) book) one
    ∙ ap (λ ls. full_line rules shelf seen m ++ ls) (shown_same names rules shelf seen same book)

shown_next : (names : List ℕ → List Name) (rules : List Rule) (seen : List Bool) (m : Marker)
    (book : List Marker)
    → shown_lines names rules seen (m ∷ book) ≡ shown_line names rules seen m
    ++ shown_lines names rules seen book
unfolding shown_lines
shown_next names rules seen m book = refl

shown_none : (names : List ℕ → List Name) (rules : List Rule) (seen : List Bool)
    → shown_lines names rules seen [] ≡ []
unfolding shown_lines
shown_none names rules seen = refl

-- one turn over a book: the marker at an index, and what comes after it
pub shown_on : (names : List ℕ → List Name) (rules : List Rule) (seen : List Bool)
    (book : List Marker) (i : ℕ) (m : Marker) (line : List Listed)
    → i < length book → m ≡ get_or book i m → line ≡ shown_line names rules seen m
    → shown_lines names rules seen (drop i book) ≡ line
    ++ shown_lines names rules seen (drop (i + 1) book)
shown_on names rules seen book i m line l at is =
    at_drop_more (shown_lines names rules seen) book i m l
    ∙ ap (λ x. shown_lines names rules seen (x ∷ drop (i + 1) book)) (sym at)
    ∙ shown_next names rules seen m (drop (i + 1) book)
    ∙ ap (λ ls. ls ++ shown_lines names rules seen (drop (i + 1) book)) (sym is)

pub shown_over : (names : List ℕ → List Name) (rules : List Rule) (seen : List Bool)
    (book : List Marker) (i : ℕ) → length book ≤ i
    → shown_lines names rules seen (drop i book) ≡ []
shown_over names rules seen book i l =
    at_drop_all (shown_lines names rules seen) book i l ∙ shown_none names rules seen

line_count : (names : List ℕ → List Name) (m : Marker) (full : Bool) (o : Option Rule)
    → length (cond full (line_by names m o) []) ≡ cond (full && is_some o) 1 0
line_count names m true None = refl
line_count names m true (Some rule) = refl
line_count names m false o = refl

one_more : (b : Bool) (m : Marker) (ms : List Marker)
    → length (cond b (m ∷ ms) ms) ≡ cond b 1 0 + length ms
one_more true m ms = omega arith
one_more false m ms = omega arith

-- each full marker has a line
pub shown_count : (names : List ℕ → List Name) (rules : List Rule) (seen : List Bool)
    (book : List Marker)
    → length (shown_lines names rules seen book) ≡ length (filter (has_line rules seen) book)
unfolding shown_lines
shown_count names rules seen [] = refl
shown_count names rules seen (m ∷ book) =
    length-append (shown_line names rules seen m) (flat_map (shown_line names rules seen) book)
    ∙ ap (λ n. n + length (flat_map (shown_line names rules seen) book))
    (line_count names m (is_full seen m) (slice_get rules m.key.rule))
    ∙ ap (λ n. cond (has_line rules seen m) 1 0 + n) (shown_count names rules seen book)
    ∙ sym (one_more (has_line rules seen m) m (filter (has_line rules seen) book))

-- ---- the counts of masked markers

-- one more marker
pub number_more : (seen : List Bool) (book : List Marker) (i place : ℕ) (m : Marker)
    → i < length book → m ≡ get_or book i m
    → masked_number seen (take (i + 1) book) place ≡ masked_number seen (take i book) place
    + masked_one seen m place
unfolding masked_number
number_more seen book i place m l at =
    length-filter_more (λ x. (x.key.rule == place) && is_masked seen x) book i m l
    ∙ ap (λ x. masked_number seen (take i book) place + masked_one seen x place) (sym at)

numbered_same : (seen : List Bool) (book : List Marker) (numbers : List ℕ)
    → AreNumbers seen book numbers → (place : ℕ) (rules : List Rule)
    → place + length rules ≤ length numbers
    → numbered_lines numbers place rules ≡ masked_lines seen book place rules
unfolding numbered_lines masked_lines
numbered_same seen book numbers are place [] l = refl
numbered_same seen book numbers are place (rule ∷ rules) l =
    ap (λ n. masked_line rule.name n ++ numbered_lines numbers (place + 1) rules)
    (are place (omega (arith, l)))
    ∙ ap (λ ls. masked_line rule.name (masked_number seen book place) ++ ls)
    (numbered_same seen book numbers are (place + 1) rules (omega (arith, l)))

numbered_next : (numbers : List ℕ) (place : ℕ) (rule : Rule) (rules : List Rule)
    → numbered_lines numbers place (rule ∷ rules) ≡ masked_line rule.name
    (slice_index numbers place) ++ numbered_lines numbers (place + 1) rules
unfolding numbered_lines
numbered_next numbers place rule rules = refl

numbered_none : (numbers : List ℕ) (place : ℕ) → numbered_lines numbers place [] ≡ []
unfolding numbered_lines
numbered_none numbers place = refl

pub no_line : (name : Name) (n : ℕ) → n ≡ 0 → masked_line name n ≡ []
no_line name n e = ap (λ b. cond b [] (masked name n ∷ [])) (eq-eqb n 0 e)

pub some_line : (name : Name) (n : ℕ) → 0 < n → masked_line name n ≡ masked name n ∷ []
some_line name n l = let no : (n == 0) ≡ false = grind (arith, nat_tests, l) in
    ap (λ b. cond b [] (masked name n ∷ [])) no

-- one turn over counts: the rule at an index, and what comes after it
numbered_turn : (numbers : List ℕ) (rules : List Rule) (lines more : List Listed) (i : ℕ) (d : Rule)
    → lines ≡ numbered_lines numbers i (drop i rules) → i < length rules
    → masked_line (get_or rules i d).name (slice_index numbers i) ≡ more
    → lines ≡ more ++ numbered_lines numbers (i + 1) (drop (i + 1) rules)
numbered_turn numbers rules lines more i d before l is =
    before ∙ at_drop_more (numbered_lines numbers i) rules i d l
    ∙ numbered_next numbers i (get_or rules i d) (drop (i + 1) rules)
    ∙ ap (λ ls. ls ++ numbered_lines numbers (i + 1) (drop (i + 1) rules)) is

pub numbered_on : (numbers : List ℕ) (rules : List Rule) (lines : List Listed) (i : ℕ) (d : Rule)
    → lines ≡ numbered_lines numbers i (drop i rules) → i < length rules → 0 < slice_index numbers i
    → lines ≡ masked (get_or rules i d).name (slice_index numbers i)
    ∷ numbered_lines numbers (i + 1) (drop (i + 1) rules)
numbered_on numbers rules lines i d before l some = numbered_turn numbers rules lines _ i d before l
    (some_line (get_or rules i d).name (slice_index numbers i) some)

one_of : {P : Type 0} (rules : List Rule) (i : ℕ) → i < length rules → (Rule → P) → P
one_of [] i l f = absurd (omega (arith, l))
one_of (rule ∷ rules) i l f = f rule

pub numbered_skip : (numbers : List ℕ) (rules : List Rule) (lines : List Listed) (i : ℕ)
    → lines ≡ numbered_lines numbers i (drop i rules)
    → i < length rules → slice_index numbers i ≡ 0
    → lines ≡ numbered_lines numbers (i + 1) (drop (i + 1) rules)
numbered_skip numbers rules lines i before l none =
    one_of rules i l (λ d. numbered_turn numbers rules lines [] i d before l
    (no_line (get_or rules i d).name (slice_index numbers i) none))

pub numbered_over : (numbers : List ℕ) (rules : List Rule) (lines : List Listed) (i : ℕ)
    → lines ≡ numbered_lines numbers i (drop i rules)
    → length rules ≤ i → lines ≡ []
numbered_over numbers rules lines i before l =
    before ∙ at_drop_all (numbered_lines numbers i) rules i l ∙ numbered_none numbers i

pub counted_on : (numbers : List ℕ) (rules : List Rule) (i : ℕ) → i < length rules
    → 0 < slice_index numbers i
    → length (numbered_lines numbers i (drop i rules))
    ≡ 1 + length (numbered_lines numbers (i + 1) (drop (i + 1) rules))
counted_on numbers rules i l some =
    one_of rules i l (λ d. ap length (numbered_on numbers rules
    (numbered_lines numbers i (drop i rules)) i d refl l some)
    ∙ longer (masked (get_or rules i d).name (slice_index numbers i))
    (numbered_lines numbers (i + 1) (drop (i + 1) rules)))
  where
    longer : (line : Listed) (lines : List Listed) → length (line ∷ lines) ≡ 1 + length lines
    longer line lines = omega arith

pub counted_skip : (numbers : List ℕ) (rules : List Rule) (i : ℕ) → i < length rules
    → slice_index numbers i ≡ 0
    → length (numbered_lines numbers i (drop i rules))
    ≡ length (numbered_lines numbers (i + 1) (drop (i + 1) rules))
counted_skip numbers rules i l none =
    ap length (numbered_skip numbers rules (numbered_lines numbers i (drop i rules)) i refl l none)

pub counted_over : (numbers : List ℕ) (rules : List Rule) (i : ℕ) → length rules ≤ i
    → length (numbered_lines numbers i (drop i rules)) ≡ 0
counted_over numbers rules i l =
    ap length (numbered_over numbers rules (numbered_lines numbers i (drop i rules)) i refl l)

-- ---- counts, while markers are counted

length_filter : (p : Marker → Bool) (ms : List Marker) → length (filter p ms) ≤ length ms
length_filter p [] = omega arith
length_filter p (m ∷ ms) =
    let rest = length_filter p ms in
    elim (p m) as (λ b. length (cond b (m ∷ filter p ms) (filter p ms)) ≤ length (m ∷ ms))
    [ true ↦ omega (arith, rest) | false ↦ omega (arith, rest) ]

-- at most as many as markers so far
pub number_few : (seen : List Bool) (book : List Marker) (numbers : List ℕ) (i : ℕ)
    → i < length book → AreNumbers seen (take i book) numbers
    → (place : ℕ) → place < length numbers → slice_index numbers place ≤ i
unfolding masked_number
number_few seen book numbers i l are place inside =
    omega (
      arith,
      are place inside,
      length_filter (λ m. (m.key.rule == place) && is_masked seen m)
          (take i book),
      length-take-le i book (omega (arith, l)),
    )

pub numbers_on : (seen : List Bool) (book : List Marker) (numbers new : List ℕ) (i : ℕ) (m : Marker)
    → i < length book → m ≡ get_or book i m
    → length new ≡ length numbers
    → ((place : ℕ) → place < length numbers
    → slice_index new place ≡ slice_index numbers place + masked_one seen m place)
    → AreNumbers seen (take i book) numbers → AreNumbers seen (take (i + 1) book) new
numbers_on seen book numbers new i m l at many more are place inside =
    let old : place < length numbers = omega (arith, inside, many) in
    more place old ∙ ap (λ n. n + masked_one seen m place) (are place old)
    ∙ sym (number_more seen book i place m l at)

pub numbers_none : (seen : List Bool) (many : ℕ) → AreNumbers seen [] (replicate many 0)
unfolding masked_number
numbers_none seen many place inside = get_or-replicate many place 0 0
    ((let e : length (replicate {A = ℕ} many 0) ≡ many = length-replicate many 0 in
    omega (arith, inside, e)))

-- ---- the whole listing

pub lines_are : (rules : List Rule) (shelf : List Submission) (seen : List Bool)
    (book : List Marker) (cells : List Name) (ranks numbers : List ℕ)
    → ((met : List ℕ) → met_of cells ranks met ≡ met_cells shelf met)
    → length numbers ≡ length rules → AreNumbers seen book numbers
    → lines_kept rules cells ranks seen numbers book ≡ book_lines rules shelf seen book
lines_are rules shelf seen book cells ranks numbers met many are =
    ap (λ ls. ls ++ numbered_lines numbers 0 rules)
    (shown_same (met_of cells ranks) rules shelf seen met book)
    ∙ ap (λ ls. full_lines rules shelf seen book ++ ls)
    (numbered_same seen book numbers are 0 rules (omega (arith, many)))
