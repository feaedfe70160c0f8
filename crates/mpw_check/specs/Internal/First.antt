-- The first markers of each rule, during the pass over a book.
use Rattle.std.specs.Prelude.{◌≡◌, ◌==◌, ◌<◌, ◌≤◌, ◌+◌, ℕ, List, [], ◌∷◌, ◌++◌, if◌then◌else◌, length, take, slice_index}
use Rattle.mpw_columns.specs.declared.first.FirstMarkers.{FirstMarkers}
use Rattle.mpw_columns_keys.specs.Firsts.{of_rule}
use Rattle.mpw_markers.specs.declared.marker.Marker.{Marker}

-- One more marker is counted, and is stored if fewer than the limit of its rule were.
pub record AddsOne (most : ℕ) (m : Marker) (old new : FirstMarkers) : Type 0 where
  pub taken : slice_index old.counts.items m.key.rule < most
      → new.markers.items ≡ old.markers.items ++ m ∷ []
  pub left : most ≤ slice_index old.counts.items m.key.rule → new.markers.items ≡ old.markers.items
  pub long : length new.counts.items ≡ length old.counts.items
  pub counted : (place : ℕ) → place < length old.counts.items
      → slice_index new.counts.items place
      ≡ slice_index old.counts.items place + (if m.key.rule == place then 1 else 0)
  pub all : new.all ≡ old.all

-- The first of the markers that were read, and how many of these each rule has.
pub record AreFirstSeen (most : ℕ) (seen : List Marker) (f : FirstMarkers) : Type 0 where
  pub first : (place : ℕ) → of_rule f.markers.items place ≡ take most (of_rule seen place)
  pub counted : (place : ℕ) → place < length f.counts.items
      → slice_index f.counts.items place ≡ length (of_rule seen place)
