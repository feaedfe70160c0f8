-- For private functions and proofs: the properties of a library that was read.
use Rattle.mpw_structures.specs.Element.{IsElement}
use Rattle.mpw_library.specs.declared.read.Item.{Item}
use Rattle.mpw_library.specs.declared.read.Item.TheVariants as items

-- An item of a structure is an element as reading gives it, or has no meaning for the layout.
abbrev pub IsItem : Item → Type 0
IsItem items.End = Unit {0}
IsItem items.Other = Unit {0}
IsItem (items.Placed e) = IsElement e
