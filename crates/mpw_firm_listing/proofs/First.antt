-- The listing of the first markers of each rule.
use Rattle.std.proofs.Common.{◌≡◌, ◌∙◌, ◌+◌, ◌-◌, ◌^◌, ℕ, List, [], ◌∷◌, length, refl, sym, ap}
use Rattle.std.specs.Prelude.{min, sum_by}
use Rattle.std.specs.List.{enumerate_from, flat_map}
use Rattle.std.proofs.lemmas.List.{length-take}
use Rattle.std.proofs.lemmas.List.Sums.{sum_by-cons}
use Rattle.mpw_deck.specs.declared.rule.Rule.{Rule}
use Rattle.mpw_markers.specs.declared.marker.Marker.{Marker}
use Rattle.mpw_firm_report.specs.Content.{of_rule, AgreeFirst}
use Rattle.mpw_firm_report.proofs.First.{texts_same}
use Rattle.mpw_firm_listing.specs.Limited.{Limited, listed_of, listed_count, rule_lines, limited_text, with_markers, FirstMarkersAreListed}
use Rattle.mpw_firm_listing.specs.Lines.{line_text}

-- Numbers that are equal for each entry have the same sum.
sums_same : {X : Type 0} (f g : X → ℕ) (xs : List X) → ((x : X) → f x ≡ g x)
    → sum_by f xs ≡ sum_by g xs
sums_same f g [] same = refl
sums_same f g (x ∷ xs) same =
    sum_by-cons f x xs ∙ ap (λ n. n + sum_by f xs) (same x)
    ∙ ap (λ n. g x + n) (sums_same f g xs same) ∙ sym (sum_by-cons g x xs)

listed_same : (l : Limited) (first : List Marker) (row : ℕ × Rule) → AgreeFirst l.limit first l.markers
    → listed_of (with_markers l first) row ≡ listed_of l row
listed_same l first row agree =
    sym (length-take l.limit (of_rule first row.0))
    ∙ ap (λ (ms : List Marker). length ms) (agree row.0)
    ∙ length-take l.limit (of_rule l.markers row.0)

lines_same : (l : Limited) (first : List Marker) (row : ℕ × Rule) → AgreeFirst l.limit first l.markers
    → rule_lines (with_markers l first) row ≡ rule_lines l row
lines_same l first row agree = ap (flat_map (line_text l.parts l.top row.1)) (agree row.0)

count_same : (l : Limited) (first : List Marker) → AgreeFirst l.limit first l.markers
    → listed_count (with_markers l first) ≡ listed_count l
unfolding listed_count
count_same l first agree =
    ap (λ n. min n (2 ^ 64 - 1)) (sums_same (listed_of (with_markers l first)) (listed_of l)
    (enumerate_from 0 l.rules) (λ row. listed_same l first row agree))

pub first_are_listed : FirstMarkersAreListed
unfolding limited_text
first_are_listed l first agree =
    rw (
      count_same l first agree,
      texts_same (rule_lines (with_markers l first)) (rule_lines l) (enumerate_from 0 l.rules)
          (λ row. lines_same l first row agree),
    )
    refl
