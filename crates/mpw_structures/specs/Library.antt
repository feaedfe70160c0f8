-- The properties of a library that was read.
use Rattle.std.specs.Prelude.{List, All}
use Rattle.mpw_geom.specs.Name.{IsName}
use Rattle.mpw_structures.specs.Element.{IsElement}
use Rattle.mpw_structures.specs.declared.structures.Structure.{Structure}

pub record IsStructure (s : Structure) : Type 0 where
  pub name : IsName s.name
  pub elements : All IsElement s.elements

-- Each structure has a name and elements with the properties of read ones.
abbrev pub IsLibrary : List Structure → Type 0
IsLibrary ss = All IsStructure ss
