-- The first submission of a shelf by its nodes: the content of a node, one level down.
use Rattle.std.proofs.Common.{◌≡◌, ℕ, List, [], ◌∷◌, ◌++◌, length, map, take, Option, Some, None, refl, sym, ap, subst, ◌∙◌}
use Rattle.std.specs.Prelude.{slice_get, Contains}
use Rattle.std.specs.List.{flat_map}
use Rattle.std.proofs.lemmas.Option.{slice_get_read}
use Rattle.std.proofs.lemmas.List.{map-append}
use Rattle.mpw_geom.specs.declared.placing.Placing.{Placing}
use Rattle.mpw_structures.specs.declared.element.Element.{Element}
use Rattle.mpw_structures.specs.declared.element.Element.TheVariants as elements
use Rattle.mpw_structures.specs.declared.element.Reference.{Reference}
use Rattle.mpw_structures.specs.declared.structures.Structure.{Structure}
use Rattle.mpw_structures.specs.Places.{place_of}
use Rattle.mpw_hier.specs.declared.node.Node.{Node}
use Rattle.mpw_hier.specs.declared.node.Child.{Child}
use Rattle.mpw_hier.specs.declared.node.Target.{Target}
use Rattle.mpw_hier.specs.declared.node.Target.TheVariants as targets
use Rattle.mpw_hier.specs.declared.submission.Submission.{Submission}
use Rattle.mpw_hier.specs.Structures.{references}
use Rattle.mpw_hier.specs.Boxes.{extent_of}
use Rattle.mpw_hier.specs.Sizes.{IsExtentNear}
use Rattle.mpw_hier.specs.Items.{Item, own_items, placed_item, placed_items, shown_items}
use Rattle.mpw_hier.specs.Nodes.{IsNode, IsTarget}
use Rattle.mpw_hier.specs.Values.{structure_items, flats, heights, from_first}
use Rattle.mpw_hier.proofs.Tops.{front_get, same_place}
use Rattle.mpw_walk.proofs.Shapes.{child_at}
use Rattle.mpw_columns_contents.specs.declared.layout.Layout.{Layout}
use Rattle.mpw_columns_contents.specs.declared.thing.Array.{Array}
use Rattle.mpw_columns_contents.specs.declared.thing.Thing.TheVariants as things
use Rattle.mpw_columns_contents.specs.Things.{element_at, element_in, structure_shown, place_shown, reference_of, thing_items}
use Rattle.mpw_columns_contents.specs.Internal.Making.{IsLayout, IsNodeOf, LeadsTo}
use Rattle.mpw_columns_contents.specs.Internal.Opening.{NamesAreOpened, name_shown, shapes_shown, as_reference, child_shown, structure_shapes, structure_children, IsPlacedReference}
use Rattle.mpw_columns_contents.proofs.Lists.{flat_map_same, map_flat}
use Rattle.mpw_columns_contents.proofs.Steps.{items_placed}
use Rattle.mpw_columns_contents.proofs.Opened.{shapes_all, children_all}

-- nothing comes before the first submission
none_before : (ss : List Submission) → flats (take 0 ss) ≡ []
unfolding flats from_first
none_before ss = refl

-- ---- the first submission

module _ (ss : List Submission) (s : Submission) (is : slice_get ss 0 ≡ Some s) where
  pub element_is : (structure place : ℕ)
      → element_in ss structure place ≡ element_at (slice_get s.library structure) place
  element_is structure place = go ss is
    where
      go : (ss : List Submission) → slice_get ss 0 ≡ Some s
          → element_in ss structure place ≡ element_at (slice_get s.library structure) place
      go [] e = absurd cc
      go (x ∷ xs) e = let same : x ≡ s = cc in
          ap (λ (y : Submission). element_at (slice_get y.library structure) place) same

  pub place_is : (place : ℕ) → place_shown ss place ≡ structure_shown s (slice_get s.library place)
  place_is place = go ss is
    where
      go : (ss : List Submission) → slice_get ss 0 ≡ Some s
          → place_shown ss place ≡ structure_shown s (slice_get s.library place)
      go [] e = absurd cc
      go (x ∷ xs) e = let same : x ≡ s = cc in
          ap (λ (y : Submission). structure_shown y (slice_get y.library place)) same

  pub name_is : (name : List ℕ) → name_shown ss name ≡ structure_items [] s name
  name_is name = go ss is
    where
      go : (ss : List Submission) → slice_get ss 0 ≡ Some s
          → name_shown ss name ≡ structure_items [] s name
      go [] e = absurd cc
      go (x ∷ xs) e = let same : x ≡ s = cc in ap (λ (y : Submission). structure_items [] y name)
          same

-- ---- nodes

module _ (l : Layout) (w : IsLayout l) where
  abbrev s : Submission
  s = w.nodes.submission

  abbrev before : List (List Item)
  before = flats (take 0 l.shelf.now)

  pub shape_is : (structure place : ℕ)
      → element_in l.shelf.now structure place ≡ element_at (slice_get l.structures.now structure)
      place
  shape_is structure place = element_is l.shelf.now s w.nodes.is structure place
      ∙ ap (λ ts. element_at (slice_get ts structure) place) (sym w.structures)

  pub named_is : (name : List ℕ) → name_shown l.shelf.now name ≡ structure_items before s name
  named_is name = name_is l.shelf.now s w.nodes.is name
      ∙ ap (λ b. structure_items b s name) (sym (none_before l.shelf.now))

  -- the structure at an index of the library, by its name
  placed_is : (place : ℕ) (structure : Structure) → slice_get s.library place ≡ Some structure
      → place_shown l.shelf.now place ≡ structure_items before s structure.name
  placed_is place structure at =
      place_is l.shelf.now s w.nodes.is place ∙ ap (structure_shown s) at
      ∙ ap (λ b. structure_items b s structure.name) (sym (none_before l.shelf.now))

  module _ (node : Node) (n : IsNodeOf l node) where
    abbrev is_node : IsNode before (heights (take 0 l.shelf.now)) s (take n.place l.nodes.now) node
    is_node = w.nodes.shown.each n.place node n.at

    pub structure_is : slice_get l.structures.now node.structure ≡ Some is_node.structure
    structure_is = ap (λ ts. slice_get ts node.structure) w.structures ∙ is_node.is

    pub node_place : place_shown l.shelf.now node.structure ≡ structure_items before s
        is_node.structure.name
    node_place = placed_is node.structure is_node.structure is_node.is

    -- by any name of its index
    pub node_named : (name : List ℕ) → place_of l.structures.now name ≡ Some node.structure
        → name_shown l.shelf.now name ≡ place_shown l.shelf.now node.structure
    node_named name named =
        named_is name ∙ ap (structure_items before s)
        (same_place s.library name is_node.structure.name node.structure
        (ap (λ ts. place_of ts name) (sym w.structures) ∙ named) is_node.named)
        ∙ sym node_place

    -- its size is that of its content
    pub node_extent : node.size.extent ≡ extent_of (place_shown l.shelf.now node.structure)
    node_extent = is_node.size.extent ∙ ap extent_of (sym node_place)

    pub node_near : IsExtentNear node.size.extent
    node_near = is_node.size.near

    -- one level down
    module _ (law : NamesAreOpened) where
      node_shown : place_shown l.shelf.now node.structure ≡ shown_items 0 is_node.structure
          (structure_items before s)
      node_shown =
          node_place ∙ (law.own l.shelf.now 0 s is_node.structure node is_node.structure.name
          (record {
            is = w.nodes.is;
            nodes = l.nodes.now;
            nodes_are = w.nodes.shown;
            place = n.place;
            at = n.at;
            structure_is = is_node.is;
            named = is_node.named;
          })).items

      shapes_are : (t : Placing) → structure_shapes t (slice_get l.structures.now node.structure)
          node.shapes ≡ map (placed_item t) (own_items 0 is_node.structure.elements)
      shapes_are t =
          ap (λ o. structure_shapes t o node.shapes) structure_is
          ∙ ap (shapes_shown t is_node.structure.elements) is_node.shapes
          ∙ shapes_all t [] is_node.structure.elements

      children_are : (t : Placing) → structure_children t (name_shown l.shelf.now)
          (slice_get l.structures.now node.structure) node.children.items
          ≡ map (placed_item t) (flat_map (λ (r : Reference).
          placed_items r (structure_items before s r.name))
          (references is_node.structure.elements))
      children_are t =
          let es = is_node.structure.elements in
          ap (λ o. structure_children t (name_shown l.shelf.now) o node.children.items) structure_is
          ∙ flat_map_same (λ (c : Child). map (placed_item t)
          (child_shown (name_shown l.shelf.now) (slice_get es c.element)))
          (λ (c : Child). map (placed_item t)
          (child_shown (structure_items before s) (slice_get es c.element)))
          (λ c. ap (map (placed_item t)) (same_child (slice_get es c.element))) node.children.items
          ∙ sym (map_flat (placed_item t) (λ (c : Child). child_shown (structure_items before s)
          (slice_get es c.element)) node.children.items)
          ∙ ap (map (placed_item t)) (children_all s before (take n.place l.nodes.now) es
          is_node.children [] refl refl)
        where
          same_child : (o : Option Element)
              → child_shown (name_shown l.shelf.now) o ≡ child_shown (structure_items before s) o
          same_child None = refl
          same_child (Some (elements.Boundary b)) = refl
          same_child (Some (elements.Path p)) = refl
          same_child (Some (elements.Reference r)) = ap (placed_items r) (named_is r.name)

      pub node_opens : (t : Placing) → structure_shapes t
          (slice_get l.structures.now node.structure) node.shapes
          ++ structure_children t (name_shown l.shelf.now)
          (slice_get l.structures.now node.structure) node.children.items
          ≡ map (placed_item t) (place_shown l.shelf.now node.structure)
      node_opens t =
          ap (λ xs. xs ++ structure_children t (name_shown l.shelf.now)
          (slice_get l.structures.now node.structure) node.children.items) (shapes_are t)
          ∙ ap (λ ys. map (placed_item t) (own_items 0 is_node.structure.elements) ++ ys)
          (children_are t)
          ∙ sym (map-append (placed_item t) (own_items 0 is_node.structure.elements)
          (flat_map (λ (r : Reference). placed_items r (structure_items before s r.name))
          (references is_node.structure.elements)))
          ∙ ap (map (placed_item t)) (sym node_shown)

    -- a child leads to an earlier node
    pub child_leads : (c : Child) (r : Reference) → Contains node.children.items c
        → as_reference (element_at (slice_get l.structures.now node.structure) c.element) ≡ Some r
        → LeadsTo l r.name c.target
    child_leads c r has at =
        let es = is_node.structure.elements in
        let k =
        child_at s before (take n.place l.nodes.now) es is_node.children [] refl refl has.0 c
        (slice_get_read node.children.items (length node.children.items) has.0 c refl has.1
        (sym has.2)) in
        let here : as_reference (slice_get es c.element) ≡ Some r =
        ap (λ o. as_reference (element_at o c.element)) (sym structure_is) ∙ at in
        let both : Some k.reference ≡ Some r = sym (ap as_reference k.is) ∙ here in
        let same : k.reference ≡ r = cc in
        go c.target (subst (λ (q : Reference). IsTarget s (length before) (take n.place l.nodes.now)
        q.name c.target) same k.target)
      where
        go : (target : Target) → IsTarget s (length before) (take n.place l.nodes.now) r.name target
            → LeadsTo l r.name target
        go (targets.Own place) o = record {
          node = o.node;
          at = (front_get n.place l.nodes.now place o.node o.is).1;
          named = ap (λ ts. place_of ts r.name) w.structures ∙ o.named;
        }
        go (targets.Outer number) o = tt

  -- what a reference places, as an array
  pub reference_placed : (t : Placing) (r : Reference) (a : Array) (node : Node) (place : ℕ)
      → slice_get l.nodes.now place ≡ Some node
      → place_of l.structures.now r.name ≡ Some node.structure → a.structure ≡ node.structure
      → IsPlacedReference t r (reference_of a)
      → map (placed_item t) (placed_items r (name_shown l.shelf.now r.name)) ≡ thing_items
      l.shelf.now (things.Array a)
  unfolding thing_items
  reference_placed t r a node place at named structure h =
      items_placed t r (reference_of a) h (name_shown l.shelf.now r.name)
      ∙ ap (placed_items (reference_of a))
      (node_named node (record { place = place; at = at }) r.name named
      ∙ ap (place_shown l.shelf.now) (sym structure))
