-- Books of markers.
use Rattle.std.specs.Prelude.{ℕ, List, All, AllPairs, Option}
use Rattle.std.specs.List.{position}
use Rattle.mpw_markers.specs.declared.marker.Key.{Key}
use Rattle.mpw_markers.specs.declared.marker.Marker.{Marker}
use Rattle.mpw_markers.specs.Met.{IsAscending}
use Rattle.mpw_markers.specs.Markers.{key_eq, IsFilled}
use Rattle.mpw_markers.specs.Order.{StandsBefore}

-- markers with rows, by line and then by row, of which no two on a line overlap or touch
pub record IsBook (markers : List Marker) : Type 0 where
  pub filled : All IsFilled markers
  pub ordered : AllPairs StandsBefore markers
  pub ascending : All (λ m. IsAscending m.met) markers

-- the index of the marker with a key, counted from 0, if there is one
abbrev pub place_in : List Marker → Key → Option ℕ
place_in markers key = position (λ m. key_eq m.key key) markers
