-- What depends on a library and its top alone.
use Rattle.std.specs.Prelude.{◌≡◌, ℕ, List, Some}
use Rattle.mpw_structures.specs.declared.structures.Structure.{Structure}
use Rattle.mpw_structures.specs.Places.{place_of}
use Rattle.mpw_hier.specs.declared.outline.Outline.{Outline}
use Rattle.mpw_hier.specs.Outside.{graph_of, AreExternals}
use Rattle.mpw_hier.specs.Graph.{IsFromBelow}

-- The top is a structure of the library without a cycle below it. Its structures are in order, each after those that it places, and the
-- names outside are listed.
pub record IsOutline (library : List Structure) (top : List ℕ) (outline : Outline) : Type 0 where
  pub found : place_of library top ≡ Some outline.place
  pub from_below : IsFromBelow (graph_of library) outline.place outline.order.items
  pub externals : AreExternals library top outline.names
