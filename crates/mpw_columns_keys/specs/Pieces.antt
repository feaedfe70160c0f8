-- The runs that pieces of runs make.
use Rattle.std.specs.Prelude.{◌≡◌, ℤ, pos, ◌-ℤ◌, ◌≤ℤ◌, ◌<ℤ◌, List, Contains}
use Rattle.mpw_markers.specs.declared.marker.Line.{Line}
use Rattle.mpw_markers.specs.declared.marker.Key.{Key}
use Rattle.mpw_markers.specs.Markers.{line_of_key}

-- Some piece has the row on the line.
pub record IsRowOf (pieces : List Key) (line : Line) (j : ℤ) : Type 0 where
  pub key : Key
  pub there : Contains pieces key
  pub on_line : line_of_key key ≡ line
  pub from : key.piece.y0 ≤ℤ j
  pub to : j <ℤ key.piece.y1

-- The key is a maximal run of rows that pieces have on its line.
pub record IsRunOfPieces (pieces : List Key) (k : Key) : Type 0 where
  pub filled : k.piece.y0 <ℤ k.piece.y1
  pub rows : (j : ℤ) → k.piece.y0 ≤ℤ j → j <ℤ k.piece.y1 → IsRowOf pieces (line_of_key k) j
  pub below : IsRowOf pieces (line_of_key k) (k.piece.y0 -ℤ pos 1) → ⊥
  pub above : IsRowOf pieces (line_of_key k) k.piece.y1 → ⊥
