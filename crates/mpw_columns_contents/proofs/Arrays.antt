-- An array as it is added: the part of it that may touch the window.
use Rattle.std.proofs.Common.{◌≡◌, ◌++◌, ◌∷◌, [], false, true, List, map, Some, None, sym, ap, subst, ◌∙◌}
use Rattle.std.specs.Prelude.{slice_get, Contains, option_map, IfSome}
use Rattle.mpw_geom.specs.Plane.{IsInPlane}
use Rattle.mpw_geom.specs.declared.plane.Box2.{Box2}
use Rattle.mpw_geom.specs.declared.placing.Placing.{Placing}
use Rattle.mpw_hier.specs.declared.node.Node.{Node}
use Rattle.mpw_hier.specs.Boxes.{placed_box, item_box, extent_of, is_box_near}
use Rattle.mpw_hier.specs.Items.{Item, placed_item, placed_items, instances}
use Rattle.mpw_walk.specs.Window.{is_met}
use Rattle.mpw_walk.proofs.Fronts.{one}
use Rattle.mpw_columns_contents.specs.declared.layout.Layout.{Layout}
use Rattle.mpw_columns_contents.specs.declared.thing.Array.{Array}
use Rattle.mpw_columns_contents.specs.declared.thing.Thing.{Thing}
use Rattle.mpw_columns_contents.specs.declared.thing.Thing.TheVariants as things
use Rattle.mpw_columns_contents.specs.Things.{place_shown, reference_of, thing_items}
use Rattle.mpw_columns_contents.specs.Internal.Making.{IsLayout, IsNodeOf, IsArray, Shows, Adds}
use Rattle.mpw_columns_contents.specs.Internal.Fitting.{IsAway, IsFitted}
use Rattle.mpw_columns_contents.specs.Internal.Opening.{NamesAreOpened}
use Rattle.mpw_columns_contents.proofs.Adding.{shows_none, adds_none, adds_one}
use Rattle.mpw_columns_contents.proofs.Instances.{away_missed, fitted_shows}
use Rattle.mpw_columns_contents.proofs.Layouts.{node_extent, node_near}
use Rattle.mpw_columns_contents.proofs.Members.{part_of}
use Rattle.mpw_columns_contents.proofs.Missing.{placed_missed}

-- an array whose node is its structure's
pub own_array : (l : Layout) (a : Array) (node : Node) → slice_get l.nodes.now a.node ≡ Some node
    → node.structure ≡ a.structure → IsInPlane a.first.by → IsArray l.nodes.now a
own_array l a node at structure near =
    record { node = node; at = at; structure = structure; near = near }

module _ (law : NamesAreOpened) (l : Layout) (w : IsLayout l) (a : Array)
    (h : IsArray l.nodes.now a) (node : Node)
    (at : slice_get l.nodes.now a.node ≡ Some node) where
  abbrev items : List Item
  items = place_shown l.shelf.now a.structure

  abbrev n : IsNodeOf l node
  n = record { place = a.node; at = at }

  structure_is : node.structure ≡ a.structure
  structure_is = ap (λ (m : Node). m.structure)
      (one (slice_get l.nodes.now a.node) node h.node at h.at) ∙ h.structure

  extent_is : node.size.extent ≡ extent_of items
  extent_is =
      node_extent l w node n ∙ ap (λ place. extent_of (place_shown l.shelf.now place)) structure_is

  missed : (t : Placing) → is_met l.window (option_map (placed_box t) node.size.extent) ≡ false
      → (i : Item) → Contains (map (placed_item t) items) i → is_met l.window (item_box i) ≡ false
  missed t away = placed_missed law l.window t items node.size.extent extent_is away

  pub near : (e : Box2) → node.size.extent ≡ Some e → is_box_near e ≡ true
  near e is = subst (λ o. IfSome o (λ b. is_box_near b ≡ true)) is (node_near l w node n)

  pub nothing_shown : node.size.extent ≡ None → (old : List Thing)
      → Adds l (thing_items l.shelf.now (things.Array a)) old old
  unfolding thing_items
  nothing_shown none old = adds_none l (placed_items (reference_of a) items) old
      (shows_none l.window (placed_items (reference_of a) items)
      (λ i has. let p = part_of (λ (t : Placing). map (placed_item t) items)
      (instances (reference_of a)) i has in
      missed p.from (ap (λ o. is_met l.window (option_map (placed_box p.from) o)) none) i p.is))

  pub none_left : (e : Box2) → node.size.extent ≡ Some e → IsAway a l.window e → (old : List Thing)
      → Adds l (thing_items l.shelf.now (things.Array a)) old old
  unfolding thing_items
  none_left e is away old = adds_none l (placed_items (reference_of a) items) old
      (shows_none l.window (placed_items (reference_of a) items)
      (away_missed l.window items node.size.extent missed a e is away))

  pub left_is : (e : Box2) (b : Array) → IsFitted a l.window e b → IsArray l.nodes.now b
  left_is e b fit = record {
    node = node;
    at = subst (λ place. slice_get l.nodes.now place ≡ Some node) (sym fit.node) at;
    structure = structure_is ∙ sym fit.structure;
    near = fit.near;
  }

  pub left_shows : (e : Box2) → node.size.extent ≡ Some e → (b : Array) → IsFitted a l.window e b
      → Shows l.window (thing_items l.shelf.now (things.Array a))
      (thing_items l.shelf.now (things.Array b))
  unfolding thing_items
  left_shows e is b fit =
      subst (λ place. Shows l.window (placed_items (reference_of a) items)
      (placed_items (reference_of b) (place_shown l.shelf.now place)))
      (sym fit.structure) (fitted_shows l.window items node.size.extent missed a b e is fit)

  pub some_left : (e : Box2) → node.size.extent ≡ Some e → (b : Array) → IsFitted a l.window e b
      → (old new : List Thing)
      → new ≡ old ++ things.Array b ∷ [] → Adds l (thing_items l.shelf.now (things.Array a)) old new
  some_left e is b fit old new made =
      adds_one l (thing_items l.shelf.now (things.Array a)) old new (things.Array b) made
      (left_is e b fit) tt (left_shows e is b fit)
