-- The totals of a structure's elements are those of its flat list and of its height.
use Rattle.std.proofs.Common.{◌≡◌, ℕ, suc, ◌+◌, ◌*◌, ◌<◌, max, List, [], ◌∷◌, ◌++◌, length, get_or, drop, map, fold, refl, ap, sym, subst, ◌∙◌, length-append, arith}
use Rattle.std.specs.List.{AllZip, flat_map, range_with_len}
use Rattle.std.proofs.lemmas.List.{length-map}
use Rattle.std.proofs.lemmas.List.FromFn.{length-range_with_len}
use Rattle.mpw_structures.specs.declared.element.Element.{Element}
use Rattle.mpw_structures.specs.declared.element.Element.TheVariants as elements
use Rattle.mpw_structures.specs.declared.element.Reference.{Reference}
use Rattle.mpw_structures.specs.declared.structures.Structure.{Structure}
use Rattle.mpw_hier.specs.declared.size.Size.{Size}
use Rattle.mpw_hier.specs.Structures.{references, referenced_names}
use Rattle.mpw_hier.specs.Items.{Item, row_of, instances, own_items, placed_item, placed_items, shown_items}
use Rattle.mpw_hier.specs.Values.{greatest, shown_height}
use Rattle.mpw_hier.specs.Boxes.{hull, item_box, extent_of}
use Rattle.mpw_hier.specs.Sizes.{Total, IsToldBy, total_of}
use Rattle.mpw_hier.specs.Internal.Sizes.{IsExtentFar, AreToldBy}
use Rattle.mpw_hier.specs.Internal.SizeParts.{nothing, together, part_total, behind}
use Rattle.mpw_hier.proofs.Hulls.{hull_swap}
use Rattle.mpw_hier.proofs.Nearness.{far_hull}
use Rattle.mpw_hier.proofs.Placings.{unmoved}
use Rattle.mpw_hier.proofs.Extents.{AreOrdered, extent_append, extent_array, own_box, element_ordered, array_ordered}
use Rattle.mpw_hier.proofs.Sizing.{all_total, same_total, total_on, IsSumTo}

-- ---- how many instances

length_flat : {A B : Type 0} (f : A → List B) (n : ℕ) → ((a : A) → length (f a) ≡ n) → (xs : List A)
    → length (flat_map f xs) ≡ length xs * n
length_flat f n each [] = omega arith
length_flat f n each (x ∷ xs) =
    let p = length-append (f x) (flat_map f xs) in
    let q = each x in
    let r = length_flat f n each xs in
    omega (arith, p, q, r)

instance_count : (r : Reference) → length (instances r) ≡ r.columns * r.rows
unfolding instances
instance_count r =
    let p = length_flat (row_of r) r.columns (λ row. length-map (range_with_len 0 r.columns) _
    ∙ length-range_with_len 0 r.columns) (range_with_len 0 r.rows) in
    let q = length-range_with_len 0 r.rows in
    p ∙ rw q (omega arith)

placed_count : (r : Reference) (xs : List Item)
    → length (placed_items r xs) ≡ r.columns * r.rows * length xs
placed_count r xs =
    length_flat (λ t. map (placed_item t) xs) (length xs) (λ t. length-map xs (placed_item t))
    (instances r) ∙ ap (λ k. k * length xs) (instance_count r)

-- ---- heights

fold_greatest : (a : ℕ) (ns : List ℕ) → fold max a ns ≡ max a (greatest ns)
fold_greatest a [] = omega arith
fold_greatest a (n ∷ ns) =
    let p = fold_greatest (max a n) ns in
    let q = fold_greatest (max 0 n) ns in
    omega (arith, p, q)

greatest_more : (n : ℕ) (ns : List ℕ) → greatest (n ∷ ns) ≡ max n (greatest ns)
greatest_more n ns = let p = fold_greatest (max 0 n) ns in omega (arith, p)

-- ---- beyond the limit

part_ordered : (e : Element) (ts : List Total) → AreOrdered (part_total e ts).extent
part_ordered (elements.Boundary b) ts = element_ordered (elements.Boundary b)
part_ordered (elements.Path p) ts = element_ordered (elements.Path p)
part_ordered (elements.Reference r) [] = tt
part_ordered (elements.Reference r) (t ∷ ts) = array_ordered r t.extent

-- what is out of bounds stays so with more
pub far_total : (es : List Element) (ts : List Total) (i : ℕ) (left : List Size) (size : Size)
    (e : Element) → i < length es → e ≡ get_or es i e → (s : IsSumTo es ts i left size)
    → IsExtentFar (part_total e s.rest).extent
    → IsExtentFar (together nothing (all_total es ts)).extent
far_total es ts i left size e h is s f =
    let part = part_total e s.rest in
    let more = all_total (drop (i + 1) es) (behind e s.rest) in
    let whole = sym (ap (λ (t : Total). t.extent) s.whole)
    ∙ ap (λ (t : Total). hull s.total.extent t.extent) (total_on es i e s.rest h is)
    ∙ hull_swap s.total.extent part.extent more.extent
    ∙ ap (λ o. hull o (hull s.total.extent more.extent)) f.is in
    subst IsExtentFar (sym whole) (far_hull f.box (hull s.total.extent more.extent)
    (subst AreOrdered f.is (part_ordered e s.rest)) f.far)

module _ (number : ℕ) (items : List ℕ → List Item) (heights : List ℕ → ℕ) where
  abbrev pub told : List ℕ → Total
  told name = total_of (items name) (heights name)

  abbrev pub targets : List Element → List Total
  targets es = map told (referenced_names es)

  total_count : (es : List Element) → (all_total es (targets es)).count
      ≡ length (own_items number es ++ flat_map (λ r. placed_items r (items r.name))
      (references es))
  unfolding all_total
  total_count [] = refl
  total_count (elements.Boundary b ∷ es) = let h = total_count es in omega (arith, h)
  total_count (elements.Path p ∷ es) = let h = total_count es in omega (arith, h)
  total_count (elements.Reference r ∷ es) =
      let h = total_count es in
      let own = own_items number es in
      let here = placed_items r (items r.name) in
      let more = flat_map (λ (q : Reference). placed_items q (items q.name)) (references es) in
      let a = length-append own (here ++ more) in
      let b = length-append here more in
      let d = length-append own more in
      let n = placed_count r (items r.name) in
      omega (arith, h, a, b, d, n)

  total_levels : (es : List Element) → max 1 (all_total es (targets es)).levels
      ≡ suc (greatest (map heights (referenced_names es)))
  unfolding all_total
  total_levels [] = refl
  total_levels (elements.Boundary b ∷ es) = let h = total_levels es in omega (arith, h)
  total_levels (elements.Path p ∷ es) = let h = total_levels es in omega (arith, h)
  total_levels (elements.Reference r ∷ es) =
      let h = total_levels es in
      let g = greatest_more (heights r.name) (map heights (referenced_names es)) in
      omega (arith, h, g)

  total_extent : (es : List Element) → (all_total es (targets es)).extent
      ≡ extent_of (own_items number es ++ flat_map (λ r. placed_items r (items r.name))
      (references es))
  unfolding all_total extent_of
  total_extent [] = refl
  total_extent (elements.Boundary b ∷ es) =
      let e = elements.Boundary b in
      ap (λ o. hull o (all_total es (targets es)).extent) (sym (own_box number e))
      ∙ ap (hull (item_box (record { origin = number; placing = unmoved; element = e })))
      (total_extent es)
  total_extent (elements.Path p ∷ es) =
      let e = elements.Path p in
      ap (λ o. hull o (all_total es (targets es)).extent) (sym (own_box number e))
      ∙ ap (hull (item_box (record { origin = number; placing = unmoved; element = e })))
      (total_extent es)
  total_extent (elements.Reference r ∷ es) =
      let own = own_items number es in
      let here = placed_items r (items r.name) in
      let more = flat_map (λ (q : Reference). placed_items q (items q.name)) (references es) in
      ap (λ o. hull o (all_total es (targets es)).extent) (sym (extent_array r (items r.name)))
      ∙ ap (hull (extent_of here)) (total_extent es ∙ extent_append own more)
      ∙ hull_swap (extent_of here) (extent_of own) (extent_of more)
      ∙ ap (hull (extent_of own)) (sym (extent_append here more))
      ∙ sym (extent_append own (here ++ more))

  pub total_shown : (s : Structure) → together nothing (all_total s.elements (targets s.elements))
      ≡ total_of (shown_items number s items) (shown_height s heights)
  total_shown s = let n = total_count s.elements in same_total _ _ (omega (arith, n))
      (total_levels s.elements) (total_extent s.elements)

  pub told_targets : (names : List (List ℕ)) (below : List Size)
      → AreToldBy items heights names below → AllZip IsToldBy (map told names) below
  told_targets [] [] h = tt
  told_targets [] (s ∷ ss) h = absurd h
  told_targets (n ∷ ns) [] h = absurd h
  told_targets (n ∷ ns) (s ∷ ss) h = (h.0, told_targets ns ss h.1)
