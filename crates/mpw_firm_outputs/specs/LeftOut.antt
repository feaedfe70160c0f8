-- The notes of rules of whose markers a listing leaves some out.
use Rattle.std.specs.Prelude.{ℕ, ◌-◌, ◌++◌, List, [], codes, get_or, nat_lt, Option, None, Some, if◌then◌else◌}
use Rattle.std.specs.List.{enumerate_from, flat_map}
use Rattle.std.specs.Fmt.{decimal}
use Rattle.mpw_deck.specs.declared.rule.Rule.{Rule}

-- The line of a rule of whose markers so many of all are left out.
unfoldable pub left_out_line : (name : List ℕ) (left count : ℕ) → List ℕ
left_out_line name left count =
    codes "note: rule "
    ++ (name
    ++ (codes ": "
    ++ (decimal left ++ (codes " of " ++ (decimal count ++ codes " markers left out\n")))))

-- It is there if the rule has more markers than are listed.
abbrev pub left_out_note : (name : List ℕ) (count most : ℕ) → List ℕ
left_out_note name count most =
    if nat_lt most count then left_out_line name (count - most) count else []

abbrev pub left_out_row : List ℕ → ℕ → ℕ × Rule → List ℕ
left_out_row counts most row = left_out_note row.1.name (get_or counts row.0 0) most

abbrev pub left_out_lines : List Rule → (counts : List ℕ) → (most : ℕ) → List ℕ
left_out_lines rules counts most = flat_map (left_out_row counts most) (enumerate_from 0 rules)

-- Of a listing with that limit.
abbrev pub left_out_text : List Rule → (counts : List ℕ) → (limit : Option ℕ) → List ℕ
left_out_text rules counts None = []
left_out_text rules counts (Some most) = left_out_lines rules counts most
