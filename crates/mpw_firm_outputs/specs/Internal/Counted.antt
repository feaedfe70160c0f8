-- Markers counted by rules, while they are counted.
use Rattle.std.specs.Prelude.{◌≡◌, ◌<◌, ℕ, List, length, slice_index}
use Rattle.mpw_firm_listing.specs.Limited.{count_of}
use Rattle.mpw_markers.specs.declared.marker.Marker.{Marker}

-- Each number is that of the markers of the rule at its place.
abbrev pub AreCounts : List Marker → List ℕ → Type 0
AreCounts markers counts =
    (place : ℕ) → place < length counts → slice_index counts place ≡ count_of markers place
