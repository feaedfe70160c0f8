-- The words of faults, as they are printed.
use Rattle.std.specs.Prelude.{ℕ, List, ◌++◌, codes}
use Rattle.std.specs.Fmt.{decimal}
use Rattle.mpw_records.specs.declared.fault.Code.{Code}
use Rattle.mpw_records.specs.declared.fault.Code.TheVariants as code
use Rattle.mpw_records.specs.declared.fault.ReadFault.{ReadFault}

unfoldable pub code_word : Code → List ℕ
code_word code.Short = codes "short"
code_word code.BadLength = codes "badlength"
code_word code.BadType = codes "badtype"
code_word code.Unexpected = codes "unexpected"
code_word code.BadSize = codes "badsize"
code_word code.BadName = codes "badname"
code_word code.Unit = codes "unit"
code_word code.Magnification = codes "mag"
code_word code.Angle = codes "angle"
code_word code.NotManhattan = codes "notmanhattan"
code_word code.RoundPath = codes "roundpath"
code_word code.OddWidth = codes "oddwidth"
code_word code.PointPath = codes "pointpath"
code_word code.Columns = codes "columns"
code_word code.Pitch = codes "pitch"
code_word code.DoubleName = codes "doublename"
code_word code.Absolute = codes "absolute"

unfoldable pub fault_text : ReadFault → List ℕ
fault_text fault = code_word fault.code ++ (codes " at byte " ++ decimal fault.offset)
