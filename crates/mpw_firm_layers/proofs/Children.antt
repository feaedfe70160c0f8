-- The numbers of a structure's children are those of its references.
use Rattle.std.proofs.Common.{◌≡◌, ℕ, ◌+◌, ◌*◌, true, List, [], ◌∷◌, ◌++◌, length, Some, refl, sym, ap, subst, ◌∙◌, arith, append_assoc}
use Rattle.std.specs.Prelude.{slice_get}
use Rattle.std.specs.List.{sum_by}
use Rattle.std.proofs.lemmas.List.{length-append}
use Rattle.std.proofs.lemmas.List.Sums.{sum_by-cons}
use Rattle.mpw_geom.specs.declared.plane.Layer.{Layer}
use Rattle.mpw_structures.specs.declared.element.Element.{Element}
use Rattle.mpw_structures.specs.declared.element.Element.TheVariants as elements
use Rattle.mpw_hier.specs.declared.node.Child.{Child}
use Rattle.mpw_hier.specs.declared.node.Node.{Node}
use Rattle.mpw_hier.specs.declared.node.Target.TheVariants as targets
use Rattle.mpw_hier.specs.declared.node.Target.{Target}
use Rattle.mpw_hier.specs.declared.submission.Submission.{Submission}
use Rattle.mpw_hier.specs.Structures.{is_shape}
use Rattle.mpw_hier.specs.Items.{Item, own_items, placed_items}
use Rattle.mpw_hier.specs.Nodes.{AreChildren, none, shape, empty, child, IsTarget}
use Rattle.mpw_hier.specs.Values.{structure_items}
use Rattle.mpw_seen.specs.Internal.Counts.{told, target_number, array_number, child_number}
use Rattle.mpw_seen.proofs.Sums.{told_product, told_again}
use Rattle.mpw_seen.proofs.Children.{told_both, shown_below}
use Rattle.mpw_firm_layers.specs.Layers.{layer_items}
use Rattle.mpw_firm_layers.specs.Internal.Counts.{one_if, node_number, told_on}
use Rattle.mpw_firm_layers.proofs.Placed.{none_on, append_on, array_on, own_on}
use Rattle.mpw_firm_layers.proofs.Values.{AreOfTargets, StepTells}

get_at : {X : Type 0} (front : List X) (x : X) (xs : List X)
    → slice_get (front ++ x ∷ xs) (length front) ≡ Some x
get_at [] x xs = refl
get_at (y ∷ front) x xs = get_at front x xs

one_longer : {X : Type 0} (front : List X) (x : X) → length (front ++ x ∷ []) ≡ length front + 1
one_longer front x = length-append front (x ∷ [])

module _ (layer : Layer) (s : Submission) (before : List (List Item)) (earlier : List Node)
    (own outer : List ℕ) (all : List Element)
    (numbers : AreOfTargets 0 (told_on layer) outer s before earlier own) where
  number_of : (name : List ℕ) (target : Target) → IsTarget s (length before) earlier name target
      → told (target_number own outer target)
      ≡ told (layer_items layer (structure_items before s name))
  number_of name (targets.Own place) o = ap told (numbers name (targets.Own place) o) ∙ told_again _
  number_of name (targets.Outer to) o = ap told (numbers name (targets.Outer to) o) ∙ told_again _

  pub children_on : {i : ℕ} {es : List Element} {cs : List Child}
      → AreChildren s before earlier i es cs → (front : List Element) → i ≡ length front
      → all ≡ front ++ es → told (sum_by (child_number all own outer) cs)
      ≡ told_on layer (shown_below (structure_items before s) es)
  children_on none front at split = ap told (sym (none_on layer))
  children_on (shape {e = e} {es = es} {cs = cs} is rest) front at split =
      children_on rest (front ++ e ∷ []) (omega (arith, at, one_longer front e))
      (split ∙ sym (append_assoc front (e ∷ []) es)) ∙ go e is
    where
      go : (x : Element) → is_shape x ≡ true
          → told_on layer (shown_below (structure_items before s) es)
          ≡ told_on layer (shown_below (structure_items before s) (x ∷ es))
      go (elements.Boundary b) q = refl
      go (elements.Path p) q = refl
      go (elements.Reference r) q = absurd cc
  children_on (empty {r = r} {es = es} {cs = cs} shows rest) front at split =
      let e = elements.Reference r in
      let below = structure_items before s in
      let more = children_on rest (front ++ e ∷ [])
      (omega (arith, at, one_longer front e)) (split ∙ sym (append_assoc front (e ∷ []) es)) in
      let nothing : layer_items layer (placed_items r (below r.name)) ≡ 0 =
      array_on layer r (below r.name)
      ∙ rw (shows, none_on layer) (omega arith) in
      let sum : layer_items layer (shown_below below (e ∷ es))
      ≡ layer_items layer (placed_items r (below r.name))
      + layer_items layer (shown_below below es) =
      append_on layer (placed_items r (below r.name)) (shown_below below es) in
      let same : layer_items layer (shown_below below es) ≡ layer_items layer
      (shown_below below (e ∷ es)) =
      omega (arith, nothing, sum) in
      more ∙ ap told same
  children_on (child {r = r} {target = target} {es = es} {cs = cs} shows target' rest)
      front at split =
      let e = elements.Reference r in
      let below = structure_items before s in
      let more = children_on rest (front ++ e ∷ [])
      (omega (arith, at, one_longer front e)) (split ∙ sym (append_assoc front (e ∷ []) es)) in
      let n = target_number own outer target in
      let here : child_number all own outer (record { element = length front; target = target })
      ≡ r.columns * r.rows * n =
      ap (λ o. array_number o n) (ap (λ es. slice_get es (length front)) split ∙ get_at front e es)
      in
      let c : Child = record { element = length front; target = target } in
      let one : told (child_number all own outer c)
      ≡ told_on layer (placed_items r (below r.name)) =
      ap told here ∙ sym (told_product (r.columns * r.rows) n)
      ∙ ap (λ k. told (r.columns * r.rows * k)) (number_of r.name target target')
      ∙ told_product (r.columns * r.rows) (layer_items layer (below r.name))
      ∙ ap told (sym (array_on layer r (below r.name))) in
      let sum : layer_items layer (shown_below below (e ∷ es))
      ≡ layer_items layer (placed_items r (below r.name))
      + layer_items layer (shown_below below es) =
      append_on layer (placed_items r (below r.name)) (shown_below below es) in
      subst (λ k. told (sum_by (child_number all own outer) (record { element = k; target = target }
      ∷ cs))
      ≡ told_on layer (shown_below below (e ∷ es))) (sym at)
      (ap told (sum_by-cons (child_number all own outer) c cs)
      ∙ told_both (child_number all own outer c) (sum_by (child_number all own outer) cs)
      (layer_items layer (placed_items r (below r.name))) (layer_items layer (shown_below below es))
      one more
      ∙ ap told (sym sum))

-- the number of a node is the number of its structure's shapes
pub numbers_tell : (layer : Layer) (outer : List ℕ)
    → StepTells 0 (told_on layer) outer (node_number layer outer)
numbers_tell layer outer s before earlier own es cs are numbers children =
    let below = shown_below (structure_items before s) es in
    told_both (sum_by (one_if layer) es) (sum_by (child_number es own outer) cs)
    (layer_items layer (own_items (length before) es)) (layer_items layer below)
    (ap told (sym (own_on layer (length before) es)))
    (children_on layer s before earlier own outer es numbers children [] refl refl)
    ∙ ap told (sym (append_on layer (own_items (length before) es) below))
