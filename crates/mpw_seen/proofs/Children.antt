-- The numbers of a structure's children are those of its references.
use Rattle.std.proofs.Common.{◌≡◌, ℕ, suc, ◌+◌, ◌*◌, Bool, true, List, [], ◌∷◌, ◌++◌, length, Some, refl, sym, ap, subst, ◌∙◌, arith, append_assoc}
use Rattle.std.specs.Prelude.{slice_get}
use Rattle.std.specs.List.{flat_map, sum_by}
use Rattle.std.proofs.lemmas.List.{length-append}
use Rattle.std.proofs.lemmas.List.Sums.{sum_by-cons}
use Rattle.mpw_structures.specs.declared.element.Element.{Element}
use Rattle.mpw_structures.specs.declared.element.Element.TheVariants as elements
use Rattle.mpw_structures.specs.declared.element.Reference.{Reference}
use Rattle.mpw_hier.specs.declared.node.Child.{Child}
use Rattle.mpw_hier.specs.declared.node.Node.{Node}
use Rattle.mpw_hier.specs.declared.node.Target.{Target}
use Rattle.mpw_hier.specs.declared.submission.Submission.{Submission}
use Rattle.mpw_hier.specs.Structures.{references, shapes, is_shape}
use Rattle.mpw_hier.specs.Items.{Item, placed_items}
use Rattle.mpw_hier.specs.Nodes.{shape_places, AreChildren, none, shape, empty, child, IsTarget}
use Rattle.mpw_hier.specs.Values.{structure_items}
use Rattle.mpw_seen.specs.Seen.{seen_items}
use Rattle.mpw_seen.specs.Internal.Counts.{told, target_number, array_number, child_number}
use Rattle.mpw_seen.proofs.Sums.{told_sum, told_product}
use Rattle.mpw_seen.proofs.Placed.{seen_none, seen_append, seen_array}

-- a number for each shape
pub places_many : (i : ℕ) (es : List Element) → length (shape_places i es) ≡ length (shapes es)
unfolding shape_places
places_many i [] = refl
places_many i (elements.Boundary b ∷ es) = ap suc (places_many (i + 1) es)
places_many i (elements.Path p ∷ es) = ap suc (places_many (i + 1) es)
places_many i (elements.Reference r ∷ es) = places_many (i + 1) es

get_at : {X : Type 0} (front : List X) (x : X) (xs : List X)
    → slice_get (front ++ x ∷ xs) (length front) ≡ Some x
get_at [] x xs = refl
get_at (y ∷ front) x xs = get_at front x xs

one_longer : {X : Type 0} (front : List X) (x : X) → length (front ++ x ∷ []) ≡ length front + 1
one_longer front x = length-append front (x ∷ [])

pub told_both : (a b x y : ℕ) → told a ≡ told x → told b ≡ told y → told (a + b) ≡ told (x + y)
told_both a b x y p q = sym (told_sum a b) ∙ rw (p, q) (told_sum x y)

-- the content of elements' references
abbrev pub shown_below : (List ℕ → List Item) → List Element → List Item
shown_below below es = flat_map (λ (r : Reference). placed_items r (below r.name)) (references es)

module _ (s : Submission) (before : List (List Item)) (earlier : List Node) (seen : List Bool)
    (own outer : List ℕ) (all : List Element) where
  -- the number of each target is that of its name's content
  abbrev pub AreOfTargets : Type 0
  AreOfTargets = (name : List ℕ) (target : Target) → IsTarget s (length before) earlier name target
      → told (target_number own outer target)
      ≡ told (seen_items seen (structure_items before s name))

  pub children_told : AreOfTargets → {i : ℕ} {es : List Element} {cs : List Child}
      → AreChildren s before earlier i es cs → (front : List Element) → i ≡ length front
      → all ≡ front ++ es → told (sum_by (child_number all own outer) cs)
      ≡ told (seen_items seen (shown_below (structure_items before s) es))
  children_told numbers none front at split = ap told (sym (seen_none seen))
  children_told numbers (shape {e = e} {es = es} {cs = cs} is rest) front at split =
      children_told numbers rest (front ++ e ∷ []) (omega (arith, at, one_longer front e))
      (split ∙ sym (append_assoc front (e ∷ []) es)) ∙ go e is
    where
      go : (x : Element) → is_shape x ≡ true
          → told (seen_items seen (shown_below (structure_items before s) es))
          ≡ told (seen_items seen (shown_below (structure_items before s) (x ∷ es)))
      go (elements.Boundary b) q = refl
      go (elements.Path p) q = refl
      go (elements.Reference r) q = absurd cc
  children_told numbers (empty {r = r} {es = es} {cs = cs} shows rest) front at split =
      let e = elements.Reference r in
      let below = structure_items before s in
      let more = children_told numbers rest (front ++ e ∷ [])
      (omega (arith, at, one_longer front e)) (split ∙ sym (append_assoc front (e ∷ []) es)) in
      let nothing : seen_items seen (placed_items r (below r.name)) ≡ 0 =
      seen_array seen r (below r.name)
      ∙ rw (shows, seen_none seen) (omega arith) in
      let sum : seen_items seen (shown_below below (e ∷ es))
      ≡ seen_items seen (placed_items r (below r.name)) + seen_items seen (shown_below below es) =
      seen_append seen (placed_items r (below r.name)) (shown_below below es) in
      let same : seen_items seen (shown_below below es) ≡ seen_items seen
      (shown_below below (e ∷ es)) =
      omega (arith, nothing, sum) in
      more ∙ ap told same
  children_told numbers (child {r = r} {target = target} {es = es} {cs = cs} shows target' rest)
      front at split =
      let e = elements.Reference r in
      let below = structure_items before s in
      let more = children_told numbers rest (front ++ e ∷ [])
      (omega (arith, at, one_longer front e)) (split ∙ sym (append_assoc front (e ∷ []) es)) in
      let n = target_number own outer target in
      let here : child_number all own outer (record { element = length front; target = target })
      ≡ r.columns * r.rows * n =
      ap (λ o. array_number o n) (ap (λ es. slice_get es (length front)) split ∙ get_at front e es)
      in
      let c : Child = record { element = length front; target = target } in
      let one : told (child_number all own outer c)
      ≡ told (seen_items seen (placed_items r (below r.name))) =
      ap told here ∙ sym (told_product (r.columns * r.rows) n)
      ∙ ap (λ k. told (r.columns * r.rows * k)) (numbers r.name target target')
      ∙ told_product (r.columns * r.rows) (seen_items seen (below r.name))
      ∙ ap told (sym (seen_array seen r (below r.name))) in
      let sum : seen_items seen (shown_below below (e ∷ es))
      ≡ seen_items seen (placed_items r (below r.name)) + seen_items seen (shown_below below es) =
      seen_append seen (placed_items r (below r.name)) (shown_below below es) in
      subst (λ k. told (sum_by (child_number all own outer) (record { element = k; target = target }
      ∷ cs))
      ≡ told (seen_items seen (shown_below below (e ∷ es)))) (sym at)
      (ap told (sum_by-cons (child_number all own outer) c cs)
      ∙ told_both (child_number all own outer c) (sum_by (child_number all own outer) cs)
      (seen_items seen (placed_items r (below r.name))) (seen_items seen (shown_below below es)) one
      more
      ∙ ap told (sym sum))
