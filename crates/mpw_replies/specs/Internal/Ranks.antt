-- Definitions for private functions and proofs: what a marker listing stores: the ranks of cells, and counts
-- of masked markers.
use Rattle.std.specs.Prelude.{◌≡◌, ◌==◌, ◌&&◌, ◌<◌, ℕ, Bool, List, length, is_some, slice_get, slice_index}
use Rattle.std.specs.Prelude.{Some, if◌then◌else◌}
use Rattle.mpw_geom.specs.Names.{name_eq}
use Rattle.mpw_deck.specs.declared.rule.Rule.{Rule}
use Rattle.mpw_hier.specs.declared.submission.Submission.{Submission}
use Rattle.mpw_markers.specs.declared.marker.Marker.{Marker}
use Rattle.mpw_roles.specs.Hierarchy.{Name}
use Rattle.mpw_replies.specs.Sight.{is_of, is_full, is_masked, masked_number}
use Rattle.mpw_replies.specs.Ranks.{is_at}

-- the rank says of each index whether the name is there
abbrev pub IsRank : List Name → Name → ℕ → Type 0
IsRank cells name rank = (place : ℕ) (cell : Name) → slice_get cells place ≡ Some cell
    → (rank == place) ≡ name_eq cell name

-- the rank of each submission says which cell it belongs to
abbrev pub AreRanks : List Name → List Submission → List ℕ → Type 0
AreRanks cells shelf ranks =
    (number place : ℕ) (cell : Name) → slice_get cells place ≡ Some cell
    → is_at place (slice_get ranks number) ≡ is_of cell (slice_get shelf number)

-- the marker is full and has a rule
abbrev pub has_line : List Rule → List Bool → Marker → Bool
has_line rules seen m = is_full seen m && is_some (slice_get rules m.key.rule)

-- what a marker adds to the count of the rule at that index
abbrev pub masked_one : List Bool → Marker → ℕ → ℕ
masked_one seen m place = if (m.key.rule == place) && is_masked seen m then 1 else 0

-- each is the count of the masked markers of the rule at its index
abbrev pub AreNumbers : List Bool → List Marker → List ℕ → Type 0
AreNumbers seen book numbers =
    (place : ℕ) → place < length numbers → slice_index numbers place ≡ masked_number seen book place
