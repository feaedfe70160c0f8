-- The columns that are asked for, of a layout's.
use Rattle.std.specs.Prelude.{◌≡◌, ◌⊎◌, ◌+◌, List, length, take, drop, None, Some}
use Rattle.mpw_columns.specs.Plan.{AreColumnsOfLayout}
use Rattle.mpw_columns_keys.specs.declared.column.Column.{Column}
use Rattle.mpw_firm_parts.specs.Parts.{Found}
use Rattle.mpw_firm_spread.specs.Ranges.{IsSpanOf}
use Rattle.mpw_firm_spread.specs.declared.range.ColumnRange.{ColumnRange}
use Rattle.mpw_tiles.specs.Snapshots.{Snapshot}
use Rattle.mpw_firm_messages.specs.declared.fault.FirmFault.{FirmFault}
use Rattle.mpw_firm_messages.specs.declared.fault.FirmFault.TheVariants.{Memory}
use Rattle.mpw_firm_messages.specs.Told.{Misuses}
use Rattle.mpw_firm_messages.specs.ToldParts.{range_text}

-- The part has just the columns that are asked for of those into which the layout is cut, and says how many these are.
pub record HasColumnsOf (s : Snapshot) (range : ColumnRange) (part : Found) : Type 0 where
  pub columns : List Column
  pub cut : AreColumnsOfLayout s columns
  pub told : part.subject.columns ≡ length columns
  pub span : IsSpanOf range (length columns)
      (Some (record { first = part.first; end = part.first + length part.lists }))
  pub own : part.columns ≡ take (length part.lists) (drop part.first columns)

-- The layout is cut into columns and hasn't those that are asked for, and that is reported; or memory runs out.
abbrev pub IsOfRange : Snapshot → ColumnRange → FirmFault → Type 0
IsOfRange s range fault =
    (fault ≡ Memory)
    ⊎ ((columns : List Column)
    × AreColumnsOfLayout s columns
    × IsSpanOf range (length columns) None
    × Misuses (range_text (length columns)) fault)
