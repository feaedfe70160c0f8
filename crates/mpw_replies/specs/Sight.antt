-- The markers of a finished run, as a session sees them by the submissions that they touch.
use Rattle.std.specs.Prelude.{◌==◌, ◌&&◌, ℕ, ◌+◌, Bool, false, not, List, [], ◌∷◌, ◌++◌, map, filter, length, slice_get, Option, None, Some, if◌then◌else◌}
use Rattle.std.specs.List.{flat_map, list_all, list_any}
use Rattle.mpw_geom.specs.Names.{by_name, name_eq}
use Rattle.mpw_deck.specs.declared.rule.Rule.{Rule}
use Rattle.mpw_hier.specs.declared.submission.Submission.{Submission}
use Rattle.mpw_markers.specs.declared.marker.Marker.{Marker}
use Rattle.mpw_roles.specs.Hierarchy.{Name}
use Rattle.mpw_replies.specs.Listing.{Listed, marker, masked, is_seen}

-- ---- what a session sees of a marker

-- The marker is full: each submission that it touches may be seen.
abbrev pub is_full : List Bool → Marker → Bool
is_full seen m = list_all (λ number. is_seen (slice_get seen number)) m.met

-- It is hidden: none of them may be seen.
abbrev pub is_hidden : List Bool → Marker → Bool
is_hidden seen m = not (list_any (λ number. is_seen (slice_get seen number)) m.met)

-- It is masked: some of them may be seen, and some not.
abbrev pub is_masked : List Bool → Marker → Bool
is_masked seen m = not (is_full seen m) && not (is_hidden seen m)

-- ---- the cells that a marker touches

-- The submission belongs to that cell.
abbrev pub is_of : Name → Option Submission → Bool
is_of cell None = false
is_of cell (Some s) = name_eq cell s.cell

-- The cells of the submissions on a shelf, in alphabetical order, each once.
abbrev pub cells_on : List Submission → List Name
cells_on shelf = by_name (map (λ s. s.cell) shelf)

-- Those of which a submission is touched.
unfoldable pub met_cells : List Submission → List ℕ → List Name
met_cells shelf met =
    filter (λ cell. list_any (λ number. is_of cell (slice_get shelf number)) met) (cells_on shelf)

-- ---- lines

-- The line of a marker: the name of its rule, its key, and the cells that it touches.
abbrev pub line_for : List Submission → Marker → Option Rule → List Listed
line_for shelf m None = []
line_for shelf m (Some rule) = marker rule.name m.key (met_cells shelf m.met) ∷ []

abbrev pub full_line : List Rule → List Submission → List Bool → Marker → List Listed
full_line rules shelf seen m =
    if is_full seen m then line_for shelf m (slice_get rules m.key.rule) else []

-- The full markers, in order.
unfoldable pub full_lines : List Rule → List Submission → List Bool → List Marker → List Listed
full_lines rules shelf seen book = flat_map (full_line rules shelf seen) book

-- How many markers of the rule at that index are masked.
unfoldable pub masked_number : List Bool → List Marker → ℕ → ℕ
masked_number seen book rule = length (filter (λ m. (m.key.rule == rule) && is_masked seen m) book)

-- A rule without masked markers has no line.
abbrev pub masked_line : Name → ℕ → List Listed
masked_line name number = if number == 0 then [] else masked name number ∷ []

-- The counts of masked markers, of the rules from an index on.
unfoldable pub masked_lines : List Bool → List Marker → ℕ → List Rule → List Listed
masked_lines seen book place [] = []
masked_lines seen book place (rule ∷ rules) = masked_line rule.name (masked_number seen book place)
    ++ masked_lines seen book (place + 1) rules

-- The lines of a book: the full markers, in order, and then the counts of the masked ones, by rule. A hidden
-- marker has no line.
abbrev pub book_lines : List Rule → List Submission → List Bool → List Marker → List Listed
book_lines rules shelf seen book =
    full_lines rules shelf seen book ++ masked_lines seen book 0 rules
