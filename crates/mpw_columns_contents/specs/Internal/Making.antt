-- For private functions and proofs: entries while they are made.
use Rattle.std.specs.Prelude.{◌≡◌, ℕ, List, ◌++◌, All, slice_get, Option, Some, IfSome}
use Rattle.mpw_geom.specs.Plane.{IsInPlane}
use Rattle.mpw_geom.specs.declared.plane.Box2.{Box2}
use Rattle.mpw_structures.specs.Places.{place_of}
use Rattle.mpw_hier.specs.declared.node.Node.{Node}
use Rattle.mpw_hier.specs.declared.node.Target.{Target}
use Rattle.mpw_hier.specs.declared.node.Target.TheVariants as targets
use Rattle.mpw_hier.specs.Items.{Item}
use Rattle.mpw_hier.specs.Nodes.{AreNodes}
use Rattle.mpw_columns_contents.specs.declared.layout.Layout.{Layout}
use Rattle.mpw_columns_contents.specs.declared.thing.Array.{Array}
use Rattle.mpw_columns_contents.specs.declared.thing.Thing.{Thing}
use Rattle.mpw_columns_contents.specs.declared.thing.Thing.TheVariants as things
use Rattle.mpw_columns_contents.specs.Contents.{AreWhole, AreSound, IsBoxed}
use Rattle.mpw_columns_contents.specs.Boxes.{AreBoxesOf, box_of}
use Rattle.mpw_columns_contents.specs.Things.{element_at, things_items}

-- The nodes and the structures of the first submission of a shelf.
pub record IsLayout (l : Layout) : Type 0 where
  pub nodes : AreNodes l.shelf.now 0 l.nodes.now
  pub structures : l.structures.now ≡ nodes.submission.library
  pub boxes : IfSome l.boxes (λ b. AreBoxesOf l.shelf.now b.now)

-- Each box in the list is that of the structure's element at that index.
abbrev pub HaveBoxes : Layout → ℕ → List (Option Box2) → Type 0
HaveBoxes l structure boxes =
    (place : ℕ) (b : Option Box2) → slice_get boxes place ≡ Some b
    → box_of (element_at (slice_get l.structures.now structure) place) ≡ b

-- One of the nodes.
pub record IsNodeOf (l : Layout) (node : Node) : Type 0 where
  pub place : ℕ
  pub at : slice_get l.nodes.now place ≡ Some node

-- The node to which a name of the library leads.
pub record IsOwnTarget (l : Layout) (name : List ℕ) (place : ℕ) : Type 0 where
  pub node : Node
  pub at : slice_get l.nodes.now place ≡ Some node
  pub named : place_of l.structures.now name ≡ Some node.structure

abbrev pub LeadsTo : Layout → List ℕ → Target → Type 0
LeadsTo l name (targets.Own place) = IsOwnTarget l name place
LeadsTo l name (targets.Outer number) = Unit {0}

-- An array of the structure of one of the nodes.
pub record IsArray (nodes : List Node) (a : Array) : Type 0 where
  pub node : Node
  pub at : slice_get nodes a.node ≡ Some node
  pub structure : node.structure ≡ a.structure
  pub near : IsInPlane a.first.by

-- The array's structure is one of the nodes', with that extent.
pub record HasExtent (nodes : List Node) (a : Array) (extent : Box2) : Type 0 where
  pub node : Node
  pub at : slice_get nodes a.node ≡ Some node
  pub structure : node.structure ≡ a.structure
  pub extent_is : node.size.extent ≡ Some extent

abbrev pub IsThing : List Node → Thing → Type 0
IsThing nodes (things.Shape shape) = IsInPlane shape.placing.by
IsThing nodes (things.Array a) = IsArray nodes a

-- A list includes all items of another that touch the window, and nothing else.
pub record Shows (window : Box2) (all shown : List Item) : Type 0 where
  pub whole : AreWhole window all shown
  pub sound : AreSound all shown

-- At the end, entries were added that include a list in this way.
pub record Adds (l : Layout) (items : List Item) (old new : List Thing) : Type 0 where
  pub made : List Thing
  pub is : new ≡ old ++ made
  pub are : All (IsThing l.nodes.now) made
  pub boxed : All (IsBoxed l.shelf.now) made
  pub shows : Shows l.window items (things_items l.shelf.now made)
