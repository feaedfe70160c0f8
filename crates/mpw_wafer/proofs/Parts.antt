-- The parts of a decision table of the wafer.
use Rattle.std.proofs.Common.{◌≡◌, ℕ, List, Result, Ok, Err, ap}
use Rattle.mpw_geom.specs.declared.placing.Placing.{Placing}
use Rattle.mpw_hier.specs.declared.submission.Submission.{Submission}
use Rattle.mpw_placings.specs.declared.fault.PlacingFault.{PlacingFault}
use Rattle.mpw_placings.specs.declared.placement.Placement.{Placement}
use Rattle.mpw_placings.specs.Rows as table
use Rattle.mpw_wafer.specs.Wafers.{by_table, place_row, unplace_row}

table_ok : (told : Result (List Placement) PlacingFault) (ps : List Placement)
    → by_table told ≡ Ok ps → told ≡ Ok ps
table_ok (Ok qs) ps e = let same : qs ≡ ps = cc in ap (λ xs. Ok xs) same
table_ok (Err fault) ps e = absurd cc

pub placed_ok : (shelf : List Submission) (before after : List Placement)
    (cell label : List ℕ) (placing : Placing)
    → place_row shelf before cell label placing ≡ Ok after
    → table.placings_with shelf before cell label placing ≡ Ok after
placed_ok shelf before after cell label placing =
    table_ok (table.placings_with shelf before cell label placing) after

pub unplaced_ok : (before after : List Placement) (cell label : List ℕ)
    → unplace_row before cell label ≡ Ok after
    → table.placings_without before cell label ≡ Ok after
unplaced_ok before after cell label = table_ok (table.placings_without before cell label) after
