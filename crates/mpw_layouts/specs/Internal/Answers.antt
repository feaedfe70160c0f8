-- Definitions for private functions and proofs: the answers of the functions of the layouts'
-- decision tables.
use Rattle.std.specs.Prelude.{◌≡◌, ℕ, List, [], ◌∷◌, ◌++◌, Result, Ok}
use Rattle.mpw_hier.specs.declared.fault.HierFault.{HierFault}
use Rattle.mpw_hier.specs.declared.fault.HierFault.TheVariants as hier
use Rattle.mpw_hier.specs.declared.submission.Submission.{Submission}
use Rattle.mpw_trail.specs.declared.verdict.Code.TheVariants as code
use Rattle.mpw_layouts.specs.declared.ending.LayoutEnding.{LayoutEnding}
use Rattle.mpw_layouts.specs.declared.ending.LayoutEnding.TheVariants.{Refused}
use Rattle.mpw_replies.specs.declared.row.Fault.{Fault}
use Rattle.mpw_replies.specs.declared.row.Fault.TheVariants as fault

-- the fault of a decision table for a fault of the shelf
abbrev pub fault_of : HierFault → Fault LayoutEnding
fault_of hier.Memory = fault.Memory
fault_of hier.NoTop = fault.Told (Refused code.NoTop)
fault_of hier.Cycle = fault.Told (Refused code.Cycle)
fault_of hier.NoCell = fault.Told (Refused code.NoCell)
fault_of hier.Extent = fault.Told (Refused code.Extent)
fault_of hier.Shapes = fault.Told (Refused code.Shapes)
fault_of hier.Deep = fault.Told (Refused code.Deep)
fault_of hier.Full = fault.Told (Refused code.Full)

-- a shelf with one more submission, which is that of the decision table, and its version
pub record IsShelved (shelf : List Submission) (row : Result Submission LayoutEnding)
    (next : List Submission) (version : ℕ) : Type 0 where
  pub submission : Submission
  pub is : row ≡ Ok submission
  pub grown : next ≡ shelf ++ submission ∷ []
  pub version_is : version ≡ submission.version
