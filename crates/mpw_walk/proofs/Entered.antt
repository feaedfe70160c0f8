-- The content of a structure that is entered at its front.
use Rattle.std.proofs.Common.{◌≡◌, ℕ, ◌*◌, ◌<◌, ◌≤◌, List, [], ◌∷◌, ◌++◌, length, map, take, Option, Some, None, refl, sym, ap, subst, ◌∙◌, arith}
use Rattle.std.specs.Prelude.{slice_get}
use Rattle.std.specs.List.{flat_map}
use Rattle.std.proofs.lemmas.List.{nil_from_length}
use Rattle.mpw_structures.specs.declared.element.Element.{Element}
use Rattle.mpw_structures.specs.declared.element.Element.TheVariants as elements
use Rattle.mpw_structures.specs.declared.element.Reference.{Reference}
use Rattle.mpw_structures.specs.Element.{IsReference}
use Rattle.mpw_structures.specs.declared.structures.Structure.{Structure}
use Rattle.mpw_structures.specs.Places.{place_of}
use Rattle.mpw_hier.specs.declared.node.Node.{Node}
use Rattle.mpw_hier.specs.declared.node.Child.{Child}
use Rattle.mpw_hier.specs.declared.submission.Submission.{Submission}
use Rattle.mpw_hier.specs.Structures.{references}
use Rattle.mpw_hier.specs.Items.{Item, own_items, shown_items}
use Rattle.mpw_hier.specs.Named.{IsOwnName}
use Rattle.mpw_hier.specs.Nodes.{shape_places, AreNodesOf, structure_levels}
use Rattle.mpw_hier.specs.Sizes.{IsSizeOf}
use Rattle.mpw_hier.specs.Values.{structure_items, flats, shown_height, heights}
use Rattle.mpw_walk.specs.Internal.Named.{NamesAreWalked}
use Rattle.mpw_walk.specs.Turns.{Turn, entered, give, placed_turns, shown_turns, structure_turns, all_turns}
use Rattle.mpw_walk.specs.Frames.{turns_at, named_turns, turns_of_shapes, reference_turns, instance_turns, turns_of_children}
use Rattle.mpw_walk.proofs.Fronts.{one, element_read}
use Rattle.mpw_walk.proofs.Given.{Gives, named_gives, all_give}
use Rattle.mpw_walk.proofs.Shapes.{shapes_all, children_all, instances_front}

module _ (ss : List Submission) (n : ℕ) (s : Submission) (is : slice_get ss n ≡ Some s) where
  abbrev before : List (List Item)
  before = flats (take n ss)

  abbrev levels : List ℕ
  levels = heights (take n ss)

  pub named_is : (name : List ℕ) → named_turns ss n name ≡ structure_turns (all_turns (take n ss)) s
      name
  unfolding named_turns
  named_is name = ap (λ o. turns_at ss n o name) is

  pub named_give : (name : List ℕ) → Gives (named_turns ss n name) (structure_items before s name)
      (structure_levels levels s name)
  named_give name =
      subst (λ turns. Gives turns (structure_items before s name) (structure_levels levels s name))
      (sym (named_is name)) (named_gives (all_turns (take n ss)) before levels s
      (all_give (take n ss)) name)

  pub nothing_named : (name : List ℕ) → structure_items before s name ≡ []
      → named_turns ss n name ≡ []
  nothing_named name none =
      let g = named_give name in
      let few : length (named_turns ss n name) ≤ structure_levels levels s name * length
      (structure_items before s name) = g.few in
      let zero : structure_levels levels s name * length (structure_items before s name) ≡ 0 =
      rw none (omega arith) in
      nil_from_length _ (omega (arith, few, zero))

  -- a structure of its own
  own_name : (nodes : List Node) (k : ℕ) (node : Node) (structure : Structure) (name : List ℕ)
      → AreNodesOf before levels s nodes → slice_get nodes k ≡ Some node
      → slice_get s.library node.structure ≡ Some structure
      → place_of s.library name ≡ Some node.structure → IsOwnName ss n s structure node name
  own_name nodes k node structure name w at here place =
      record {
        is = is;
        nodes = nodes;
        nodes_are = w;
        place = k;
        at = at;
        structure_is = here;
        named = place;
      }

  pub own_turns : NamesAreWalked → (nodes : List Node) (k : ℕ) (node : Node) (structure : Structure)
      (name : List ℕ) → AreNodesOf before levels s nodes → slice_get nodes k ≡ Some node
      → slice_get s.library node.structure ≡ Some structure
      → place_of s.library name ≡ Some node.structure
      → named_turns ss n name ≡ shown_turns n structure (named_turns ss n)
  unfolding named_turns all_turns
  own_turns law nodes k node structure name w at here place =
      subst (λ o. turns_at ss n o name ≡ shown_turns n structure (λ target. turns_at ss n o target))
      (sym is) (law.own_turns_are ss n s structure node name
      (own_name nodes k node structure name w at here place))

  pub own_levels : NamesAreWalked → (nodes : List Node) (k : ℕ) (node : Node)
      (structure : Structure) (name : List ℕ) → AreNodesOf before levels s nodes
      → slice_get nodes k ≡ Some node
      → slice_get s.library node.structure ≡ Some structure
      → place_of s.library name ≡ Some node.structure
      → structure_levels levels s name ≡ shown_height structure (structure_levels levels s)
  own_levels law nodes k node structure name w at here place =
      (law.own ss n s structure node name
      (own_name nodes k node structure name w at here place)).levels

  pub own_items_shown : NamesAreWalked
      → (nodes : List Node) (k : ℕ) (node : Node) (structure : Structure) (name : List ℕ)
      → AreNodesOf before levels s nodes
      → slice_get nodes k ≡ Some node → slice_get s.library node.structure ≡ Some structure
      → place_of s.library name ≡ Some node.structure
      → structure_items before s name ≡ shown_items n structure (structure_items before s)
  own_items_shown law nodes k node structure name w at here place =
      (law.own ss n s structure node name
      (own_name nodes k node structure name w at here place)).items

  -- its size, by any name of its index
  pub own_size : NamesAreWalked → (nodes : List Node) (k : ℕ) (node : Node) (name : List ℕ)
      → AreNodesOf before levels s nodes → slice_get nodes k ≡ Some node
      → place_of s.library name ≡ Some node.structure
      → IsSizeOf (structure_items before s name) (structure_levels levels s name) node.size
  own_size law nodes k node name w at place =
      let m = w.each k node at in
      (law.own ss n s m.structure node name
      (own_name nodes k node m.structure name w at m.is place)).size

  -- its turns by its node
  pub children_front : (below : List ℕ → List Turn) (es : List Element)
      → ((i : ℕ) (r : Reference) → slice_get es i ≡ Some (elements.Reference r) → 0 < r.rows)
      → (cs : List Child) → turns_of_children below es 0 0 cs
      ≡ flat_map (λ (c : Child). reference_turns below (slice_get es c.element)) cs
  children_front below es some [] = refl
  children_front below es some (c ∷ cs) =
      ap (λ turns. turns ++ flat_map (λ (c : Child). reference_turns below (slice_get es c.element))
      cs) (go (slice_get es c.element) refl)
    where
      go : (o : Option Element) → slice_get es c.element ≡ o
          → instance_turns below 0 0 o ≡ reference_turns below o
      go None at = refl
      go (Some (elements.Boundary b)) at = refl
      go (Some (elements.Path p)) at = refl
      go (Some (elements.Reference r)) at = ap (flat_map (entered (below r.name)))
          (instances_front r (some c.element r at))

  pub node_turns : (nodes : List Node) (k : ℕ) (node : Node) (structure : Structure)
      → AreNodesOf before levels s nodes → slice_get nodes k ≡ Some node
      → slice_get s.library node.structure ≡ Some structure
      → turns_of_shapes n structure.elements node.shapes
      ++ turns_of_children (named_turns ss n) structure.elements 0 0 node.children.items
      ≡ shown_turns n structure (named_turns ss n)
  node_turns nodes k node structure w at here =
      let m = w.each k node at in
      let same = one (slice_get s.library node.structure) m.structure structure m.is here in
      let es = structure.elements in
      let shapes : turns_of_shapes n es node.shapes ≡ map give (own_items n es) =
      ap (turns_of_shapes n es) m.shapes
      ∙ ap (λ (x : Structure). turns_of_shapes n es (shape_places 0 x.elements)) same
      ∙ shapes_all n [] es in
      let below = named_turns ss n in
      let rows : (i : ℕ) (r : Reference) → slice_get es i ≡ Some (elements.Reference r)
      → 0 < r.rows = λ i r e. let q : IsReference r = element_read s.library node.structure
      structure i (elements.Reference r) w.library here e in omega (arith, q.rows.least) in
      let children = subst
      (λ (x : Structure). flat_map (λ (c : Child).
      reference_turns below (slice_get x.elements c.element)) node.children.items
      ≡ flat_map (λ (r : Reference). placed_turns r (below r.name)) (references x.elements))
      same (children_all s before (take k nodes) m.structure.elements below nothing_named m.children
      [] refl refl) in
      rw (shapes, children_front below es rows node.children.items, children) refl
