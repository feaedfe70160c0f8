-- For private functions and proofs: the content of a submission's names and of its top.
use Rattle.std.specs.Prelude.{◌≡◌, ℕ, List, [], ◌∷◌, map, pos, slice_get, Option, Some, None, IsSomeAnd, false}
use Rattle.std.specs.List.{flat_map}
use Rattle.mpw_geom.specs.declared.placing.Placing.{Placing}
use Rattle.mpw_geom.specs.declared.plane.Box2.{Box2}
use Rattle.mpw_geom.specs.Placing.{oriented_point}
use Rattle.mpw_structures.specs.declared.element.Element.{Element}
use Rattle.mpw_geom.specs.declared.plane.Orient.TheVariants.{R0}
use Rattle.mpw_structures.specs.declared.element.Element.TheVariants as elements
use Rattle.mpw_structures.specs.declared.element.Reference.{Reference}
use Rattle.mpw_structures.specs.declared.structures.Structure.{Structure}
use Rattle.mpw_hier.specs.Items.{Item, own_items, placed_again, placed_item, placed_items}
use Rattle.mpw_hier.specs.Holding.{ExtentsHoldItems, ExtentsArePlaced}
use Rattle.mpw_hier.specs.Named.{OwnNamesAreShown, TopsAreListed}
use Rattle.mpw_hier.specs.Values.{structure_items}
use Rattle.mpw_hier.specs.declared.node.Child.{Child}
use Rattle.mpw_hier.specs.declared.submission.Submission.{Submission}
use Rattle.mpw_walk.specs.Window.{do_meet}
use Rattle.mpw_columns_contents.specs.declared.opening.Seen.{Seen}
use Rattle.mpw_columns_contents.specs.Things.{drawn, element_at, place_shown}

-- A structure's own shapes.
abbrev pub own_shapes : ℕ → Structure → List Item
own_shapes number s = own_items number s.elements

-- A name has the content of its structure, and a submission that of its top. Extents contain the content, and are placed with it.
pub record NamesAreOpened : Type 0 where
  pub own : OwnNamesAreShown
  pub tops : TopsAreListed own_shapes placed_items
  pub holds : ExtentsHoldItems
  pub placed : ExtentsArePlaced

-- An item of no list.
abbrev pub some_item : Item
some_item = record {
  origin = 0;
  placing = record { orient = R0; by = record { x = pos 0; y = pos 0 } };
  element = elements.Boundary (record { layer = record { layer = 0; datatype = 0 }; points = [] });
}

-- The content of a name for the first submission.
abbrev pub name_shown : List Submission → List ℕ → List Item
name_shown [] name = []
name_shown (s ∷ ss) name = structure_items [] s name

-- Shapes by their indices among elements, placed.
abbrev pub shapes_shown : Placing → List Element → List ℕ → List Item
shapes_shown t es places = flat_map (λ place. drawn t (slice_get es place)) places

-- The reference that an element is, if it is one.
abbrev pub as_reference : Option Element → Option Reference
as_reference None = None
as_reference (Some (elements.Boundary b)) = None
as_reference (Some (elements.Path p)) = None
as_reference (Some (elements.Reference r)) = Some r

-- What a reference places, given the content of the names.
abbrev pub reference_shown : (List ℕ → List Item) → Option Reference → List Item
reference_shown below None = []
reference_shown below (Some r) = placed_items r (below r.name)

abbrev pub child_shown : (List ℕ → List Item) → Option Element → List Item
child_shown below e = reference_shown below (as_reference e)

-- The same for the elements of a structure whose indices a node has.
abbrev pub structure_shapes : Placing → Option Structure → List ℕ → List Item
structure_shapes t s places = flat_map (λ place. drawn t (element_at s place)) places

abbrev pub structure_children : Placing → (List ℕ → List Item) → Option Structure → List Child
    → List Item
structure_children t below s children =
    flat_map (λ (c : Child). map (placed_item t) (child_shown below (element_at s c.element)))
    children

-- The content of instances of the structure at an index.
abbrev pub instances_shown : List Submission → ℕ → List Placing → List Item
instances_shown ss structure ts =
    flat_map (λ t. map (placed_item t) (place_shown ss structure)) ts

-- The stored box at an index misses the window.
pub record IsMissed (seen : Seen) (place : ℕ) : Type 0 where
  pub b : Box2
  pub at : slice_get seen.boxes.now place ≡ Some (Some b)
  pub away : IsSomeAnd seen.own (λ own. do_meet b own ≡ false)

-- A reference that is another one, placed.
pub record IsPlacedReference (t : Placing) (r q : Reference) : Type 0 where
  pub first : placed_again t (record { orient = r.orient; by = r.origin })
      ≡ record { orient = q.orient; by = q.origin }
  pub columns : q.columns ≡ r.columns
  pub rows : q.rows ≡ r.rows
  pub column_step : q.column_step ≡ oriented_point t.orient r.column_step
  pub row_step : q.row_step ≡ oriented_point t.orient r.row_step
