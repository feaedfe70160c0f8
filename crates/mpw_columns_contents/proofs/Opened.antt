-- The content of a structure, one level down: its own shapes, and then its children.
use Rattle.std.proofs.Common.{◌≡◌, ℕ, ◌+◌, true, List, [], ◌∷◌, ◌++◌, length, map, Some, refl, sym, ap, subst, ◌∙◌, arith, append_assoc}
use Rattle.std.specs.Prelude.{slice_get}
use Rattle.std.specs.List.{flat_map}
use Rattle.std.proofs.lemmas.List.{length-append}
use Rattle.mpw_geom.specs.declared.placing.Placing.{Placing}
use Rattle.mpw_structures.specs.declared.element.Element.{Element}
use Rattle.mpw_structures.specs.declared.element.Element.TheVariants as elements
use Rattle.mpw_structures.specs.declared.element.Reference.{Reference}
use Rattle.mpw_hier.specs.declared.node.Node.{Node}
use Rattle.mpw_hier.specs.declared.node.Child.{Child}
use Rattle.mpw_hier.specs.declared.submission.Submission.{Submission}
use Rattle.mpw_hier.specs.Structures.{references, is_shape}
use Rattle.mpw_hier.specs.Items.{Item, own_items, placed_item, placed_items, instances}
use Rattle.mpw_hier.specs.Nodes.{shape_places, AreChildren, none, shape, empty, child}
use Rattle.mpw_hier.specs.Values.{structure_items}
use Rattle.mpw_walk.proofs.Placings.{placed_here, here}
use Rattle.mpw_columns_contents.specs.Things.{drawn}
use Rattle.mpw_columns_contents.specs.Internal.Opening.{shapes_shown, child_shown}
use Rattle.mpw_columns_contents.proofs.Lists.{get_at}

one_longer : {X : Type 0} (front : List X) (x : X) → length (front ++ x ∷ []) ≡ length front + 1
one_longer front x = length-append front (x ∷ [])

-- ---- shapes

unplaced : (t : Placing) (e : Element)
    → drawn t (Some e) ≡ placed_item t (record { origin = 0; placing = here; element = e }) ∷ []
unplaced t e = ap (λ u. record { origin = 0; placing = u; element = e } ∷ []) (sym (placed_here t))

pub shapes_all : (t : Placing) (front es : List Element)
    → shapes_shown t (front ++ es) (shape_places (length front) es) ≡ map (placed_item t)
    (own_items 0 es)
unfolding shape_places
shapes_all t front [] = refl
shapes_all t front (e ∷ es) =
    let next = append_assoc front (e ∷ []) es in
    let all = front ++ e ∷ es in
    let more =
    subst (λ m. shapes_shown t all (shape_places m es) ≡ map (placed_item t) (own_items 0 es))
    (one_longer front e) (subst (λ whole. shapes_shown t whole
    (shape_places (length (front ++ e ∷ [])) es) ≡ map (placed_item t) (own_items 0 es)) next
    (shapes_all t (front ++ e ∷ []) es)) in
    go (ap (drawn t) (get_at front e es)) more e refl
  where
    go : drawn t (slice_get (front ++ e ∷ es) (length front)) ≡ drawn t (Some e)
        → shapes_shown t (front ++ e ∷ es) (shape_places (length front + 1) es)
        ≡ map (placed_item t) (own_items 0 es) → (x : Element) → x ≡ e
        → shapes_shown t (front ++ e ∷ es) (shape_places (length front) (x ∷ es))
        ≡ map (placed_item t) (own_items 0 (x ∷ es))
    go at more (elements.Boundary b) is =
        ap (λ items. items ++ shapes_shown t (front ++ e ∷ es) (shape_places (length front + 1) es))
        (at ∙ ap (λ y. drawn t (Some y)) (sym is) ∙ unplaced t (elements.Boundary b))
        ∙ ap (λ items. placed_item t (record
        { origin = 0; placing = here; element = elements.Boundary b }) ∷ items) more
    go at more (elements.Path p) is =
        ap (λ items. items ++ shapes_shown t (front ++ e ∷ es) (shape_places (length front + 1) es))
        (at ∙ ap (λ y. drawn t (Some y)) (sym is) ∙ unplaced t (elements.Path p))
        ∙ ap (λ items. placed_item t (record
        { origin = 0; placing = here; element = elements.Path p }) ∷ items) more
    go at more (elements.Reference r) is = more

-- ---- children

nothing_placed : (r : Reference) → placed_items r [] ≡ []
nothing_placed r = go (instances r)
  where
    go : (ts : List Placing) → flat_map (λ t. map (placed_item t) []) ts ≡ []
    go [] = refl
    go (t ∷ ts) = go ts

module _ (s : Submission) (before : List (List Item)) (earlier : List Node)
    (all : List Element) where
  abbrev below : List ℕ → List Item
  below = structure_items before s

  pub children_all : {i : ℕ} {es : List Element} {cs : List Child}
      → AreChildren s before earlier i es cs
      → (front : List Element) → i ≡ length front → all ≡ front ++ es
      → flat_map (λ (c : Child). child_shown below (slice_get all c.element)) cs
      ≡ flat_map (λ (r : Reference). placed_items r (below r.name)) (references es)
  children_all none front at split = refl
  children_all (shape {e = e} {es = es} {cs = cs} is rest) front at split =
      children_all rest (front ++ e ∷ []) (omega (arith, at, one_longer front e))
      (split ∙ sym (append_assoc front (e ∷ []) es)) ∙ go e is
    where
      go : (x : Element) → is_shape x ≡ true
          → flat_map (λ (r : Reference). placed_items r (below r.name)) (references es)
          ≡ flat_map (λ (r : Reference). placed_items r (below r.name)) (references (x ∷ es))
      go (elements.Boundary b) q = refl
      go (elements.Path p) q = refl
      go (elements.Reference r) q = absurd cc
  children_all (empty {r = r} {es = es} {cs = cs} shows rest) front at split =
      let e = elements.Reference r in
      let more = children_all rest (front ++ e ∷ []) (omega (arith, at, one_longer front e))
      (split ∙ sym (append_assoc front (e ∷ []) es)) in
      more ∙ ap (λ items. items ++ flat_map (λ (r : Reference). placed_items r (below r.name))
      (references es)) (sym (ap (placed_items r) shows ∙ nothing_placed r))
  children_all (child {r = r} {target = target} {es = es} {cs = cs} shows target' rest) front at
      split =
      let e = elements.Reference r in
      let more = children_all rest (front ++ e ∷ []) (omega (arith, at, one_longer front e))
      (split ∙ sym (append_assoc front (e ∷ []) es)) in
      let here' = ap (child_shown below) (ap (λ i. slice_get all i) at
      ∙ ap (λ es. slice_get es (length front)) split ∙ get_at front e es) in
      rw (here', more) refl
