-- What holds of every table of placements that the decision tables make.
use Rattle.std.specs.Prelude.{[], ◌≡◌, ℕ, List, ◌++◌, Ok}
use Rattle.mpw_geom.specs.declared.placing.Placing.{Placing}
use Rattle.mpw_hier.specs.declared.submission.Submission.{Submission}
use Rattle.mpw_walk.specs.Turns.{flat_roots}
use Rattle.mpw_placings.specs.declared.placement.Placement.{Placement}
use Rattle.mpw_placings.specs.Placements.{roots_of, ArePlacings}
use Rattle.mpw_placings.specs.Rows.{placings_with, placings_without}

-- ---- what holds of placements is preserved

abbrev pub NoneArePlacings : Type 0
NoneArePlacings = (ss : List Submission) → ArePlacings ss []

abbrev pub PlacingKeeps : Type 0
PlacingKeeps =
    (ss : List Submission) (ps after : List Placement) (cell label : List ℕ) (placing : Placing)
    → ArePlacings ss ps → placings_with ss ps cell label placing ≡ Ok after → ArePlacings ss after

abbrev pub UnplacingKeeps : Type 0
UnplacingKeeps =
    (ss : List Submission) (ps after : List Placement) (cell label : List ℕ)
    → ArePlacings ss ps → placings_without ps cell label ≡ Ok after → ArePlacings ss after

abbrev pub LaterShelvesKeep : Type 0
LaterShelvesKeep =
    (ss later : List Submission) (ps : List Placement) → ArePlacings ss ps
    → ArePlacings (ss ++ later) ps

-- Later submissions don't change the shapes of placements.
abbrev pub PlacedAreShownAgain : Type 0
PlacedAreShownAgain =
    (ss later : List Submission) (ps : List Placement)
    → ArePlacings ss ps → flat_roots (ss ++ later) (roots_of ps) ≡ flat_roots ss (roots_of ps)
