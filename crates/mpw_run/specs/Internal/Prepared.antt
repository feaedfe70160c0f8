-- Definitions for private functions and proofs: the change of a run by an event, and what holds of it.
use Rattle.std.specs.Prelude.{ℕ, List, slice_get}
use Rattle.mpw_markers.specs.declared.marker.Marker.{Marker}
use Rattle.mpw_run.specs.Run.{Tile, answers_of}
use Rattle.mpw_run.specs.Step.{answered_by}
use Rattle.mpw_run.specs.Prepared.{set_tile}

-- The markers of all answered tiles, with these for one of them.
abbrev pub answers_with : List Marker → ℕ → List Tile → List (List Marker)
answers_with markers number tiles =
    answers_of (set_tile (answered_by markers) number tiles (slice_get tiles number))
