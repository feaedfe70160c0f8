-- The layers of nodes, submissions and roots are those of their flat lists.
use Rattle.std.proofs.Common.{◌≡◌, ℕ, ◌-◌, ◌*◌, ◌<◌, ◌≤◌, true, List, [], ◌∷◌, length, Option, Some, refl, sym, ap, subst, ◌∙◌, arith}
use Rattle.std.specs.Prelude.{All, fold, slice_get, slice_index_or}
use Rattle.std.proofs.lemmas.Option.{slice_get_within, get_or_from_slice_get}
use Rattle.std.proofs.Math.Nat.{mul-le-mul_left}
use Rattle.std.proofs.lemmas.List.Elements.{All-head, All-tail}
use Rattle.mpw_deck.specs.declared.rule.Rule.{Rule}
use Rattle.mpw_geom.specs.declared.plane.Layer.{Layer}
use Rattle.mpw_structures.specs.declared.element.Element.{Element}
use Rattle.mpw_structures.specs.declared.element.Element.TheVariants as elements
use Rattle.mpw_structures.specs.declared.element.Reference.{Reference}
use Rattle.mpw_structures.specs.Element.{IsElement, IsReference}
use Rattle.mpw_hier.specs.declared.node.Child.{Child}
use Rattle.mpw_hier.specs.declared.node.Node.{Node}
use Rattle.mpw_hier.specs.declared.submission.Submission.{Submission}
use Rattle.mpw_hier.specs.Structures.{is_shape}
use Rattle.mpw_hier.specs.Items.{Item, own_items, instances, placed_items}
use Rattle.mpw_hier.specs.Nodes.{AreChildren, none, shape, empty, child}
use Rattle.mpw_hier.specs.Values.{structure_items, flat}
use Rattle.mpw_walk.specs.declared.root.Root.{Root}
use Rattle.mpw_walk.specs.Turns.{flat_root, flat_roots}
use Rattle.mpw_seen.proofs.Children.{shown_below}
use Rattle.mpw_seen.proofs.Nodes.{one}
use Rattle.mpw_seen.specs.Internal.Shown.{NamesAreShown}
use Rattle.mpw_firm_layers.specs.Unnamed.{with_layer, with_items, unnamed_layers}
use Rattle.mpw_firm_layers.specs.Internal.Values.{target_value}
use Rattle.mpw_firm_layers.specs.Internal.Gathered.{with_layers, with_shapes, with_child, with_root, node_layers, gathered, AreGathered}
use Rattle.mpw_firm_layers.proofs.Placed.{how_many}
use Rattle.mpw_firm_layers.proofs.Values.{AreOfTargets, StepTells, any_value}
use Rattle.mpw_firm_layers.proofs.Gathering.{gathered_first, items_append, items_placed, instances_add}

-- an element that was read is placed at least once, if it is a reference
some_instances : (r : Reference) → IsReference r → 0 < length (instances r)
some_instances r read =
    let p : r.columns * 1 ≤ r.columns * r.rows = mul-le-mul_left r.columns read.rows.least in
    omega (arith, p, read.columns.least, how_many r)

array_adds : (rules : List Rule) (ls : List Layer) (r : Reference) (xs : List Item)
    → IsReference r → with_items rules ls (placed_items r xs) ≡ with_items rules ls xs
array_adds rules ls r xs read =
    instances_add rules ls xs (instances r) (some_instances r read)

-- ---- a structure

own_add : (rules : List Rule) (number : ℕ) (es : List Element) (ls : List Layer)
    → with_items rules ls (own_items number es) ≡ with_shapes rules ls es
own_add rules number [] ls = refl
own_add rules number (elements.Boundary b ∷ es) ls =
    own_add rules number es (with_layer rules ls b.layer)
own_add rules number (elements.Path p ∷ es) ls =
    own_add rules number es (with_layer rules ls p.layer)
own_add rules number (elements.Reference r ∷ es) ls = own_add rules number es ls

module _ (rules : List Rule) (s : Submission) (before : List (List Item)) (earlier : List Node)
    (own outer : List (List Layer))
    (lists : AreOfTargets [] (gathered rules) outer s before earlier own) where
  children_add : {i : ℕ} {es : List Element} {cs : List Child}
      → AreChildren s before earlier i es cs → All IsElement es → (ls : List Layer)
      → fold (with_child rules own outer) ls cs
      ≡ with_items rules ls (shown_below (structure_items before s) es)
  children_add none read ls = refl
  children_add (shape {e = e} {es = es} {cs = cs} is rest) read ls =
      children_add rest (All-tail IsElement e es read) ls ∙ go e is
    where
      go : (x : Element) → is_shape x ≡ true
          → with_items rules ls (shown_below (structure_items before s) es)
          ≡ with_items rules ls (shown_below (structure_items before s) (x ∷ es))
      go (elements.Boundary b) q = refl
      go (elements.Path p) q = refl
      go (elements.Reference r) q = absurd cc
  children_add (empty {r = r} {es = es} {cs = cs} shows rest) read ls =
      let below = structure_items before s in
      let e = elements.Reference r in
      children_add rest (All-tail IsElement e es read) ls
      ∙ ap (λ ns. with_items rules ns (shown_below below es))
      (sym (array_adds rules ls r (below r.name) (All-head IsElement e es read)
      ∙ ap (with_items rules ls) shows))
      ∙ sym (items_append rules ls (placed_items r (below r.name)) (shown_below below es))
  children_add (child {r = r} {target = target} {es = es} {cs = cs} shows target' rest) read ls =
      let below = structure_items before s in
      let e = elements.Reference r in
      let here : with_layers rules ls (target_value [] own outer target)
      ≡ with_items rules ls (placed_items r (below r.name)) =
      ap (with_layers rules ls) (lists r.name target target')
      ∙ gathered_first rules ls (below r.name)
      ∙ sym (array_adds rules ls r (below r.name) (All-head IsElement e es read)) in
      ap (λ ns. fold (with_child rules own outer) ns cs) here
      ∙ children_add rest (All-tail IsElement e es read)
      (with_items rules ls (placed_items r (below r.name)))
      ∙ sym (items_append rules ls (placed_items r (below r.name)) (shown_below below es))

-- the layers of a node are those of its structure
pub layers_tell : (rules : List Rule) (outer : List (List Layer))
    → StepTells [] (gathered rules) outer (node_layers rules outer)
layers_tell rules outer s before earlier own es cs read lists children =
    let below = shown_below (structure_items before s) es in
    children_add rules s before earlier own outer lists children read (with_shapes rules [] es)
    ∙ ap (λ ns. with_items rules ns below) (sym (own_add rules (length before) es []))
    ∙ sym (items_append rules [] (own_items (length before) es) below)

-- the last value is the one that is removed
pub last_taken : {V : Type 0} (values : List V) (len n : ℕ) (taken : Option V) (value told : V)
    → length values ≡ len → length values ≡ n → taken ≡ Some value
    → ((d : V) → 0 < len → taken ≡ Some (slice_index_or values (len - 1) d))
    → slice_get values (n - 1) ≡ Some told → value ≡ told
last_taken values len n taken value told many same is last at =
    let some : 0 < len = omega (arith, many, slice_get_within values (n - 1) told at) in
    let e : n ≡ len = omega (arith, many, same) in
    one taken value told is (last value some ∙ ap Some (get_or_from_slice_get values (len - 1) told
    value (subst (λ k. slice_get values (k - 1) ≡ Some told) e at)))

-- ---- roots

roots_add : (law : NamesAreShown) (ss : List Submission) (rules : List Rule)
    (lists : List (List Layer)) → AreGathered ss rules (length ss) lists → (roots : List Root)
    (ls : List Layer)
    → fold (with_root rules lists) ls roots ≡ with_items rules ls (flat_roots ss roots)
unfolding flat_roots
roots_add law ss rules lists w [] ls = refl
roots_add law ss rules lists w (root ∷ roots) ls =
    let here : with_root rules lists ls root ≡ with_items rules ls (flat_root ss root) =
    ap (with_layers rules ls) (any_value [] (gathered rules) refl law ss lists w root.submission)
    ∙ gathered_first rules ls (flat ss root.submission)
    ∙ sym (items_placed rules ls root.placing (flat ss root.submission)) in
    ap (λ ns. fold (with_root rules lists) ns roots) here
    ∙ roots_add law ss rules lists w roots (with_items rules ls (flat_root ss root))
    ∙ sym (items_append rules ls (flat_root ss root) (flat_roots ss roots))

pub roots_gathered : (law : NamesAreShown) (ss : List Submission) (rules : List Rule)
    (lists : List (List Layer)) → AreGathered ss rules (length ss) lists → (roots : List Root)
    → fold (with_root rules lists) [] roots ≡ unnamed_layers ss roots rules
unfolding unnamed_layers
roots_gathered law ss rules lists w roots = roots_add law ss rules lists w roots []
