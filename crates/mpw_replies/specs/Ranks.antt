-- What a marker listing stores: for each submission the index of its cell in alphabetical order, and the
-- counts of masked markers.
use Rattle.std.specs.Prelude.{◌≡◌, ◌==◌, ◌≤◌, ◌<◌, ℕ, ◌+◌, Bool, false, List, [], ◌∷◌, ◌++◌, length, slice_get, slice_index}
use Rattle.std.specs.Prelude.{slice_index_or, drop, Option, None, Some, if◌then◌else◌}
use Rattle.std.specs.List.{flat_map, list_any}
use Rattle.mpw_deck.specs.declared.rule.Rule.{Rule}
use Rattle.mpw_markers.specs.declared.marker.Marker.{Marker}
use Rattle.mpw_roles.specs.Hierarchy.{Name}
use Rattle.mpw_replies.specs.declared.met.Turn.{Turn}
use Rattle.mpw_replies.specs.Listing.{Listed, marker}
use Rattle.mpw_replies.specs.Sight.{is_full, masked_line}

-- ---- the cells that a marker touches

-- a submission's rank, the index of its cell, is that index
abbrev pub is_at : ℕ → Option ℕ → Bool
is_at place None = false
is_at place (Some rank) = rank == place

-- one of the touched submissions belongs to the cell at that index
unfoldable pub is_met_at : List ℕ → List ℕ → ℕ → Bool
is_met_at ranks met place = list_any (λ number. is_at place (slice_get ranks number)) met

abbrev pub cell_if : Bool → Name → List Name
cell_if b cell = if b then cell ∷ [] else []

-- of the cells from an index on, those that are touched
unfoldable pub met_from : List ℕ → List ℕ → ℕ → List Name → List Name
met_from ranks met place [] = []
met_from ranks met place (cell ∷ cells) =
    cell_if (is_met_at ranks met place) cell ++ met_from ranks met (place + 1) cells

-- of all cells, those that are touched
abbrev pub met_of : List Name → List ℕ → List ℕ → List Name
met_of cells ranks met = met_from ranks met 0 cells

-- those of them that are left
abbrev pub met_left : List Name → List ℕ → List ℕ → Turn → List Name
met_left cells ranks met turn = met_from ranks met turn.at (drop turn.at cells)

-- marks of the 64 indexes from a base on: which of them are touched
abbrev pub AreMarks : List ℕ → List ℕ → ℕ → List Bool → Type 0
AreMarks ranks met base marks =
    (i : ℕ) → i < 64 → slice_index_or marks i false ≡ is_met_at ranks met (base + i)

-- the marks are those of the 64 indexes from the base on, and the next index is one of them or the first
-- after them
pub record IsMarked (ranks met : List ℕ) (turn : Turn) : Type 0 where
  pub from_base : turn.base ≤ turn.at
  pub near : turn.at ≤ turn.base + 64
  pub marks : AreMarks ranks met turn.base turn.marks

-- ---- full markers, by a function that names the cells of touched submissions

abbrev pub line_by : (List ℕ → List Name) → Marker → Option Rule → List Listed
line_by names m None = []
line_by names m (Some rule) = marker rule.name m.key (names m.met) ∷ []

abbrev pub shown_line : (List ℕ → List Name) → List Rule → List Bool → Marker → List Listed
shown_line names rules seen m =
    if is_full seen m then line_by names m (slice_get rules m.key.rule) else []

unfoldable pub shown_lines : (List ℕ → List Name) → List Rule → List Bool → List Marker
    → List Listed
shown_lines names rules seen book = flat_map (shown_line names rules seen) book

-- ---- counts of masked markers

-- the lines of counts, of the rules from an index on
unfoldable pub numbered_lines : List ℕ → ℕ → List Rule → List Listed
numbered_lines numbers place [] = []
numbered_lines numbers place (rule ∷ rules) =
    masked_line rule.name (slice_index numbers place) ++ numbered_lines numbers (place + 1) rules

-- ---- the lines of both

abbrev pub lines_kept : List Rule → List Name → List ℕ → List Bool → List ℕ → List Marker
    → List Listed
lines_kept rules cells ranks seen numbers book =
    shown_lines (met_of cells ranks) rules seen book ++ numbered_lines numbers 0 rules

-- there is a count for each rule, and this is the number of lines
pub record IsMarkerListing (rules : List Rule) (cells : List Name) (ranks : List ℕ)
    (seen : List Bool) (numbers : List ℕ) (book : List Marker) (count : ℕ) : Type 0 where
  pub numbered : length numbers ≡ length rules
  pub count_is : count ≡ length (lines_kept rules cells ranks seen numbers book)
