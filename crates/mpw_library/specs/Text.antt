-- A text with the result of reading it.
use Rattle.std.specs.Prelude.{◌≡◌, ℕ, List, Result, IfOk}
use Rattle.mpw_structures.specs.declared.structures.Structure.{Structure}
use Rattle.mpw_structures.specs.Library.{IsLibrary}
use Rattle.mpw_records.specs.declared.fault.ReadFault.{ReadFault}
use Rattle.mpw_library.specs.Grammar.{library_of}

-- A library, as reading gives it, or the first fault.
pub record IsRead (text : List ℕ) (outcome : Result (List Structure) ReadFault) : Type 0 where
  pub is : library_of text ≡ outcome
  pub shape : IfOk outcome IsLibrary
