-- Definitions for private functions and proofs: the answers of the functions of the wafer's
-- decision tables.
use Rattle.mpw_placings.specs.declared.fault.PlacingFault.{PlacingFault}
use Rattle.mpw_placings.specs.declared.fault.PlacingFault.TheVariants as placing
use Rattle.mpw_trail.specs.declared.verdict.Code.{Code}
use Rattle.mpw_trail.specs.declared.verdict.Code.TheVariants as code
use Rattle.mpw_replies.specs.declared.row.Fault.{Fault}
use Rattle.mpw_replies.specs.declared.row.Fault.TheVariants as fault

-- The fault of a decision table for a refused placement.
abbrev pub fault_of : PlacingFault → Fault Code
fault_of placing.NoCell = fault.Told code.NoCell
fault_of placing.Known = fault.Told code.Known
fault_of placing.Extent = fault.Told code.Extent
fault_of placing.Shapes = fault.Told code.Shapes
fault_of placing.Full = fault.Told code.Full
fault_of placing.Unknown = fault.Told code.Unknown
fault_of placing.Memory = fault.Memory
