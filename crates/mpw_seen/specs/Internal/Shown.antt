-- For private functions and proofs: the contents of a submission's names, and of its top.
use Rattle.std.specs.Prelude.{◌≡◌, ℕ, List, [], length, pos}
use Rattle.mpw_geom.specs.declared.plane.Orient.TheVariants.{R0}
use Rattle.mpw_structures.specs.declared.element.Element.TheVariants as elements
use Rattle.mpw_structures.specs.declared.structures.Structure.{Structure}
use Rattle.mpw_hier.specs.declared.submission.Submission.{Submission}
use Rattle.mpw_hier.specs.Items.{Item, own_items, placed_items}
use Rattle.mpw_hier.specs.Named.{OwnNamesAreShown, OuterNamesAreShown, LastNodesAreTops, TopsAreListed}
use Rattle.mpw_hier.specs.Values.{flats}

-- A structure's own shapes.
abbrev pub own_shapes : ℕ → Structure → List Item
own_shapes number s = own_items number s.elements

-- The content of a name is that of its structure, or of the top of its submission. The content of a submission is that of its top.
pub record NamesAreShown : Type 0 where
  pub own : OwnNamesAreShown
  pub outer : OuterNamesAreShown
  pub last : LastNodesAreTops
  pub many : (ss : List Submission) → length (flats ss) ≡ length ss
  pub tops : TopsAreListed own_shapes placed_items

-- A shape of no list.
abbrev pub some_item : Item
some_item = record {
  origin = 0;
  placing = record { orient = R0; by = record { x = pos 0; y = pos 0 } };
  element = elements.Boundary (record { layer = record { layer = 0; datatype = 0 }; points = [] });
}
