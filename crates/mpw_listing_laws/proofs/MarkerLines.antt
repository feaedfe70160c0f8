-- The lines of a book are those of exactly the markers that a session may read, and the counts of those that
-- it may read in part.
use Rattle.std.proofs.Common.{◌≡◌, ◌∙◌, ℕ, suc, ◌+◌, Bool, true, false, ◌&&◌, cond, List, [], ◌∷◌, ◌++◌, length, filter, Option, None, Some, option_map, refl, sym, ap, subst, arith}
use Rattle.std.specs.Prelude.{◌==◌, slice_get, Contains}
use Rattle.std.specs.Option.{option_to_list}
use Rattle.std.proofs.lemmas.Bool.{true≢false, and_parts, and_from, eqb-true, eq-eqb}
use Rattle.std.proofs.lemmas.Option.{same_Some, none-some}
use Rattle.mpw_deck.specs.declared.rule.Rule.{Rule}
use Rattle.mpw_markers.specs.declared.marker.Marker.{Marker}
use Rattle.mpw_markers.proofs.Unique.{Contains-head}
use Rattle.mpw_job.proofs.Tests.{is_false}
use Rattle.mpw_replies.specs.Listing.{Listed, marker, masked}
use Rattle.mpw_replies.specs.Sight.{is_full, is_masked, met_cells, line_for, full_line, full_lines, masked_number, masked_line, masked_lines, book_lines}
use Rattle.mpw_access.specs.Seen.{seen_by}
use Rattle.mpw_listing_laws.specs.Markers.{Sight, IsReadable, AreSoMany, TellOf, IsReadableAt, NamesMarkerAt, IsMaskedAt, HasMasked, CountsMasked, AreTold}
use Rattle.mpw_listing_laws.proofs.Places.{told_from, place_if, places_from, Gives, AreGiven, given}
use Rattle.mpw_listing_laws.proofs.Reading.{full_reads, reads_full, masked_half, half_masked, cells_in_order, cells_met}

abbrev pub seen_of : Sight → List Bool
seen_of v = seen_by v.policy v.connection v.shelf

-- each marker of the book is of a rule
abbrev pub HaveRules : Sight → Type 0
HaveRules v = (place : ℕ) (m : Marker) → slice_get v.book place ≡ Some m
    → (rule : Rule) × (slice_get v.rules m.key.rule ≡ Some rule)

-- ---- full markers

abbrev named : Sight → Marker → Option Rule → Option Listed
named v m o = option_map (λ (rule : Rule). marker rule.name m.key (met_cells v.shelf m.met)) o

abbrev line_when : Bool → Option Listed → Option Listed
line_when true o = o
line_when false o = None

abbrev shown_line : Sight → ℕ → Marker → Option Listed
shown_line v place m =
    line_when (is_full (seen_of v) m) (named v m (slice_get v.rules m.key.rule))

as_one : (v : Sight) (m : Marker) (o : Option Rule)
    → line_for v.shelf m o ≡ option_to_list (named v m o)
as_one v m None = refl
as_one v m (Some rule) = refl

as_full : (v : Sight) (place : ℕ) (m : Marker)
    → full_line v.rules v.shelf (seen_of v) m ≡ option_to_list (shown_line v place m)
as_full v place m = by (is_full (seen_of v) m)
  where
    by : (b : Bool) → cond b (line_for v.shelf m (slice_get v.rules m.key.rule)) []
        ≡ option_to_list (line_when b (named v m (slice_get v.rules m.key.rule)))
    by true = as_one v m (slice_get v.rules m.key.rule)
    by false = refl

lines_shown : (v : Sight) (n : ℕ) (book : List Marker)
    → full_lines v.rules v.shelf (seen_of v) book ≡ told_from (shown_line v) n book
unfolding full_lines
lines_shown v n [] = refl
lines_shown v n (m ∷ book) =
    ap (λ ls. ls ++ full_lines v.rules v.shelf (seen_of v) book) (as_full v n m)
    ∙ ap (λ ls. option_to_list (shown_line v n m) ++ ls) (lines_shown v (n + 1) book)

-- what holds of a line that is there
record IsShownLine (v : Sight) (m : Marker) (line : Listed) : Type 0 where
  readable : IsReadable v m
  rule : Rule
  at : slice_get v.rules m.key.rule ≡ Some rule
  is : line ≡ marker rule.name m.key (met_cells v.shelf m.met)

shown_tells : (v : Sight) (place : ℕ) (m : Marker) (line : Listed)
    → shown_line v place m ≡ Some line → IsShownLine v m line
shown_tells v place m line e =
    by (is_full (seen_of v) m) refl (slice_get v.rules m.key.rule) refl e
  where
    by : (b : Bool) → is_full (seen_of v) m ≡ b → (o : Option Rule)
        → slice_get v.rules m.key.rule ≡ o → line_when b (named v m o) ≡ Some line
        → IsShownLine v m line
    by true full None at e = absurd (none-some line e)
    by true full (Some rule) at e = record {
      readable = full_reads v m full;
      rule = rule;
      at = at;
      is = sym (same_Some _ line e);
    }
    by false full o at e = absurd (none-some line e)

tells_shown : (v : Sight) (place : ℕ) (m : Marker) (rule : Rule) → IsReadable v m
    → slice_get v.rules m.key.rule ≡ Some rule
    → shown_line v place m ≡ Some (marker rule.name m.key (met_cells v.shelf m.met))
tells_shown v place m rule h at =
    ap (λ b. line_when b (named v m (slice_get v.rules m.key.rule))) (reads_full v m h)
    ∙ ap (named v m) at

shown_at : (v : Sight) (place : ℕ) (line : Listed) → Gives (shown_line v) 0 v.book place line
    → (m : Marker) × (slice_get v.book place ≡ Some m) × IsShownLine v m line
shown_at v place line g =
    let here : g.i ≡ place = (let e = g.place_is in omega (arith, e)) in
    (g.x, ap (slice_get v.book) (sym here) ∙ g.at, shown_tells v place g.x line g.told)

names_at : (v : Sight) (place : ℕ) (line : Listed) → Gives (shown_line v) 0 v.book place line
    → NamesMarkerAt v place line
names_at v place line g =
    let s = shown_at v place line g in
    record {
      own = s.0;
      at = s.1;
      rule = s.2.rule;
      of_rule = s.2.at;
      cells = met_cells v.shelf s.0.met;
      is = s.2.is;
      by_name = cells_in_order v.shelf s.0.met;
      exact = cells_met v.shelf s.0;
    }

shown_told : (v : Sight) → HaveRules v
    → TellOf (IsReadableAt v) (NamesMarkerAt v) (full_lines v.rules v.shelf (seen_of v) v.book)
shown_told v rules =
    subst (TellOf (IsReadableAt v) (NamesMarkerAt v)) (sym (lines_shown v 0 v.book)) (record {
      places = places_from (shown_line v) 0 v.book;
      are = record {
        ascending = a.ascending;
        exact = λ place. (
          λ c. let s = a.sound place c in
              let m = shown_at v place s.0 s.1 in
              record { marker = m.0; at = m.1; readable = m.2.readable },
          λ h. let rule = rules place h.marker h.at in
              a.complete place (marker rule.0.name h.marker.key
              (met_cells v.shelf h.marker.met)) (record {
                i = place;
                x = h.marker;
                place_is = omega arith;
                at = h.at;
                told = tells_shown v place h.marker rule.0 h.readable rule.1;
              }),
        );
      };
      as_many = a.as_many;
      each = λ k place line p l. names_at v place line (a.each k place line p l);
    })
  where
    a : AreGiven (shown_line v) 0 v.book (places_from (shown_line v) 0 v.book)
        (told_from (shown_line v) 0 v.book)
    a = given (shown_line v) 0 v.book

-- ---- masked markers of a rule

abbrev is_counted : Sight → ℕ → Marker → Bool
is_counted v rule m = (m.key.rule == rule) && is_masked (seen_of v) m

-- a line to count by
abbrev any_line : Listed
any_line = masked [] 0

abbrev counted_line : Sight → ℕ → ℕ → Marker → Option Listed
counted_line v rule place m = line_when (is_counted v rule m) (Some any_line)

as_long : (v : Sight) (rule n : ℕ) (book : List Marker)
    → length (places_from (counted_line v rule) n book)
    ≡ length (filter (is_counted v rule) book)
as_long v rule n [] = refl
as_long v rule n (m ∷ book) = by (is_counted v rule m) (as_long v rule (n + 1) book)
  where
    by : (b : Bool) → length (places_from (counted_line v rule) (n + 1) book)
        ≡ length (filter (is_counted v rule) book)
        → length (place_if (line_when b (Some any_line)) n
        ++ places_from (counted_line v rule) (n + 1) book)
        ≡ length (cond b (m ∷ filter (is_counted v rule) book) (filter (is_counted v rule) book))
    by true e = ap suc e
    by false e = e

counted_is : (v : Sight) (rule place : ℕ) (m : Marker) → is_counted v rule m ≡ true
    → slice_get v.book place ≡ Some m → IsMaskedAt v rule place
counted_is v rule place m e at =
    let both = and_parts (m.key.rule == rule) (is_masked (seen_of v) m) e in
    record {
      marker = m;
      at = at;
      of_rule = eqb-true m.key.rule rule both.0;
      half = masked_half v m both.1;
    }

is_counted_at : (v : Sight) (rule place : ℕ) (h : IsMaskedAt v rule place)
    → is_counted v rule h.marker ≡ true
is_counted_at v rule place h =
    and_from _ _ (eq-eqb h.marker.key.rule rule h.of_rule) (half_masked v h.marker h.half)

when_some : (b : Bool) (o : Option Listed) (line : Listed) → line_when b o ≡ Some line → b ≡ true
when_some true o line e = refl
when_some false o line e = absurd (none-some line e)

pub masked_many : (v : Sight) (rule : ℕ)
    → AreSoMany (IsMaskedAt v rule) (masked_number (seen_of v) v.book rule)
unfolding masked_number
masked_many v rule = record {
  places = places_from (counted_line v rule) 0 v.book;
  are = record {
    ascending = a.ascending;
    exact = λ place. (
      λ c.
          let s = a.sound place c in
          let here : s.1.i ≡ place = (let e = s.1.place_is in omega (arith, e)) in
          counted_is v rule place s.1.x (when_some _ (Some any_line) s.0 s.1.told)
          (ap (slice_get v.book) (sym here) ∙ s.1.at),
      λ h. a.complete place any_line (record {
        i = place;
        x = h.marker;
        place_is = omega arith;
        at = h.at;
        told = ap (λ b. line_when b (Some any_line)) (is_counted_at v rule place h);
      }),
    );
  };
  many = as_long v rule 0 v.book;
}
  where
    a : AreGiven (counted_line v rule) 0 v.book (places_from (counted_line v rule) 0 v.book)
        (told_from (counted_line v rule) 0 v.book)
    a = given (counted_line v rule) 0 v.book

-- ---- lines of rules

abbrev number_of : Sight → ℕ → ℕ
number_of v rule = masked_number (seen_of v) v.book rule

abbrev unless : Bool → Listed → Option Listed
unless true line = None
unless false line = Some line

abbrev rule_line : Sight → ℕ → Rule → Option Listed
rule_line v place rule = unless (number_of v place == 0) (masked rule.name (number_of v place))

as_rule : (v : Sight) (place : ℕ) (rule : Rule)
    → masked_line rule.name (number_of v place) ≡ option_to_list (rule_line v place rule)
as_rule v place rule = by (number_of v place == 0)
  where
    by : (b : Bool) → cond b [] (masked rule.name (number_of v place) ∷ [])
        ≡ option_to_list (unless b (masked rule.name (number_of v place)))
    by true = refl
    by false = refl

lines_counted : (v : Sight) (n : ℕ) (rules : List Rule)
    → masked_lines (seen_of v) v.book n rules ≡ told_from (rule_line v) n rules
unfolding masked_lines
lines_counted v n [] = refl
lines_counted v n (rule ∷ rules) =
    ap (λ ls. ls ++ masked_lines (seen_of v) v.book (n + 1) rules) (as_rule v n rule)
    ∙ ap (λ ls. option_to_list (rule_line v n rule) ++ ls) (lines_counted v (n + 1) rules)

-- a list with an element is not empty
some_element : (xs : List ℕ) → (length xs == 0) ≡ false → (x : ℕ) × Contains xs x
some_element [] e = absurd (true≢false e)
some_element (x ∷ xs) e = (x, Contains-head x xs)

no_element : (xs : List ℕ) (x : ℕ) → Contains xs x → (length xs == 0) ≡ false
no_element [] x c = absurd (omega (arith, c.1))
no_element (y ∷ xs) x c = is_false (length (y ∷ xs) == 0) (λ e.
    let z = eqb-true (length (y ∷ xs)) 0 e in omega (arith, z))

counts_none : (v : Sight) (rule : ℕ) → (number_of v rule == 0) ≡ false
    → (place : ℕ) × IsMaskedAt v rule place
counts_none v rule e =
    let many = masked_many v rule in
    let s = some_element many.places (ap (λ n. n == 0) many.many ∙ e) in
    (s.0, (many.are.exact s.0).0 s.1)

counts_some : (v : Sight) (rule place : ℕ) → IsMaskedAt v rule place
    → (number_of v rule == 0) ≡ false
counts_some v rule place h =
    let many = masked_many v rule in
    ap (λ n. n == 0) (sym many.many)
    ∙ no_element many.places place ((many.are.exact place).1 h)

record IsRuleLine (v : Sight) (place : ℕ) (rule : Rule) (line : Listed) : Type 0 where
  some : (number_of v place == 0) ≡ false
  is : line ≡ masked rule.name (number_of v place)

rule_tells : (v : Sight) (place : ℕ) (rule : Rule) (line : Listed)
    → rule_line v place rule ≡ Some line → IsRuleLine v place rule line
rule_tells v place rule line e = by (number_of v place == 0) refl e
  where
    by : (b : Bool) → (number_of v place == 0) ≡ b
        → unless b (masked rule.name (number_of v place)) ≡ Some line
        → IsRuleLine v place rule line
    by true n e = absurd (none-some line e)
    by false n e = record { some = n; is = sym (same_Some _ line e) }

rule_at : (v : Sight) (place : ℕ) (line : Listed) → Gives (rule_line v) 0 v.rules place line
    → (rule : Rule) × (slice_get v.rules place ≡ Some rule) × IsRuleLine v place rule line
rule_at v place line g =
    let here : g.i ≡ place = (let e = g.place_is in omega (arith, e)) in
    (g.x, ap (slice_get v.rules) (sym here) ∙ g.at, rule_tells v place g.x line g.told)

counts_at : (v : Sight) (place : ℕ) (line : Listed) → Gives (rule_line v) 0 v.rules place line
    → CountsMasked v place line
counts_at v place line g =
    let s = rule_at v place line g in
    record {
      own = s.0;
      at = s.1;
      number = number_of v place;
      is = s.2.is;
      many = masked_many v place;
    }

counted_told : (v : Sight)
    → TellOf (HasMasked v) (CountsMasked v) (masked_lines (seen_of v) v.book 0 v.rules)
counted_told v =
    subst (TellOf (HasMasked v) (CountsMasked v)) (sym (lines_counted v 0 v.rules)) (record {
      places = places_from (rule_line v) 0 v.rules;
      are = record {
        ascending = a.ascending;
        exact = λ place. (
          λ c.
              let s = a.sound place c in
              let r = rule_at v place s.0 s.1 in
              let m = counts_none v place r.2.some in
              record { own = r.0; is = r.1; place = m.0; one = m.1 },
          λ h. a.complete place (masked h.own.name (number_of v place)) (record {
            i = place;
            x = h.own;
            place_is = omega arith;
            at = h.is;
            told = ap (λ b. unless b (masked h.own.name (number_of v place)))
                (counts_some v place h.place h.one);
          }),
        );
      };
      as_many = a.as_many;
      each = λ k place line p l. counts_at v place line (a.each k place line p l);
    })
  where
    a : AreGiven (rule_line v) 0 v.rules (places_from (rule_line v) 0 v.rules)
        (told_from (rule_line v) 0 v.rules)
    a = given (rule_line v) 0 v.rules

-- ---- the listing

pub book_told : (v : Sight) → HaveRules v
    → AreTold v (book_lines v.rules v.shelf (seen_of v) v.book)
book_told v rules = record {
  full = full_lines v.rules v.shelf (seen_of v) v.book;
  numbers = masked_lines (seen_of v) v.book 0 v.rules;
  parts = refl;
  shown = shown_told v rules;
  counted = counted_told v;
}
