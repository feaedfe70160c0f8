-- The numbers of markers by rule, and the text that has them.
use Rattle.std.specs.Prelude.{ℕ, ◌-◌, ◌^◌, ◌++◌, List, codes, get_or, length, map, min}
use Rattle.std.specs.List.{enumerate_from, flat_map, range_with_len}
use Rattle.std.specs.Fmt.{decimal}
use Rattle.mpw_deck.specs.declared.rule.Rule.{Rule}
use Rattle.mpw_markers.specs.declared.marker.Marker.{Marker}
use Rattle.mpw_firm_report.specs.Content.{of_rule}

-- A number, up to the greatest of 64 bits.
abbrev pub capped : ℕ → ℕ
capped n = min n (2 ^ 64 - 1)

-- How many markers each of so many rules has, up to that, by the rule's place in the deck.
abbrev pub rule_counts : ℕ → List Marker → List ℕ
rule_counts rules markers =
    map (λ place. capped (length (of_rule markers place))) (range_with_len 0 rules)

-- A line of a name and a number, with a blank between them.
unfoldable pub count_line : (name : List ℕ) (count : ℕ) → List ℕ
count_line name count = name ++ (codes " " ++ (decimal count ++ codes "\n"))

-- The line of a rule with its place in the deck, by the numbers of all rules; one that has none there has 0.
abbrev pub rule_line : List ℕ → ℕ × Rule → List ℕ
rule_line counts row = count_line row.1.name (get_or counts row.0 0)

-- A line for each rule, in the deck's order.
abbrev pub rule_lines : List Rule → List ℕ → List ℕ
rule_lines rules counts = flat_map (rule_line counts) (enumerate_from 0 rules)

-- And after them one for all markers.
abbrev pub counts_text : List Rule → (counts : List ℕ) → (all : ℕ) → List ℕ
counts_text rules counts all = rule_lines rules counts ++ count_line (codes "all") all

-- The same of these markers.
abbrev pub summary_text : List Rule → List Marker → List ℕ
summary_text rules markers =
    counts_text rules (rule_counts (length rules) markers) (capped (length markers))
