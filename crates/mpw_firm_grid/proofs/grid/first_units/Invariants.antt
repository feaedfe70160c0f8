-- The invariants of the loops of `first_units` in `src/grid.rt`.
use Rattle.std.proofs.Common.{◌≡◌, length}
use Rattle.mpw_firm_grid.specs.Texts.{first_units}
use Rattle.mpw_records.specs.Records.{outcomes_of}
use Rattle.mpw_firm_grid.proofs.grid.first_units.Given as goal

-- the first UNITS of the records that are left is the text's
abbrev pub invariant-loop-found : goal.invariant-loop-found
invariant-loop-found l = first_units l.records ≡ first_units (outcomes_of l.text)

abbrev pub decreases-loop-found : goal.decreases-loop-found
decreases-loop-found l = length l.records
