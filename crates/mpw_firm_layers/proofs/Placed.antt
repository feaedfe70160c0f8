-- How many of the placed shapes are on a layer.
use Rattle.std.proofs.Common.{◌≡◌, ℕ, ◌+◌, ◌*◌, List, [], ◌∷◌, ◌++◌, length, map, refl, ap, sym, ◌∙◌, arith, length-append}
use Rattle.std.specs.List.{flat_map, range_with_len, sum_by}
use Rattle.std.proofs.lemmas.List.{length-map}
use Rattle.std.proofs.lemmas.List.FromFn.{length-range_with_len}
use Rattle.std.proofs.lemmas.List.Sums.{sum_by-append, sum_by-cons}
use Rattle.mpw_geom.specs.declared.plane.Layer.{Layer}
use Rattle.mpw_geom.specs.declared.placing.Placing.{Placing}
use Rattle.mpw_structures.specs.declared.element.Element.{Element}
use Rattle.mpw_structures.specs.declared.element.Element.TheVariants as elements
use Rattle.mpw_structures.specs.declared.element.Reference.{Reference}
use Rattle.mpw_hier.specs.Items.{Item, own_items, row_of, instances, placed_item, placed_items}
use Rattle.mpw_firm_layers.specs.Layers.{layer_items}
use Rattle.mpw_firm_layers.specs.Internal.Counts.{one_if}

abbrev one_of : Layer → Item → ℕ
one_of layer i = one_if layer i.element

pub none_on : (layer : Layer) → layer_items layer [] ≡ 0
unfolding layer_items
none_on layer = refl

pub first_on : (layer : Layer) (x : Item) (xs : List Item)
    → layer_items layer (x ∷ xs) ≡ one_if layer x.element + layer_items layer xs
unfolding layer_items
first_on layer x xs = sum_by-cons (one_of layer) x xs

pub append_on : (layer : Layer) (xs ys : List Item)
    → layer_items layer (xs ++ ys) ≡ layer_items layer xs + layer_items layer ys
unfolding layer_items
append_on layer xs ys = sum_by-append (one_of layer) xs ys

-- ---- placing doesn't change the layer of shapes

pub placed_on : (layer : Layer) (t : Placing) (xs : List Item)
    → layer_items layer (map (placed_item t) xs) ≡ layer_items layer xs
placed_on layer t [] = refl
placed_on layer t (x ∷ xs) = first_on layer (placed_item t x) (map (placed_item t) xs)
    ∙ ap (λ n. one_if layer x.element + n) (placed_on layer t xs) ∙ sym (first_on layer x xs)

each_on : (layer : Layer) (xs : List Item) (ts : List Placing)
    → layer_items layer (flat_map (λ t. map (placed_item t) xs) ts)
    ≡ length ts * layer_items layer xs
each_on layer xs [] = none_on layer ∙ omega arith
each_on layer xs (t ∷ ts) =
    let p = append_on layer (map (placed_item t) xs) (flat_map (λ t. map (placed_item t) xs) ts) in
    let q = placed_on layer t xs in
    let r = each_on layer xs ts in
    omega (arith, p, q, r)

length_rows : {A B : Type 0} (f : A → List B) (n : ℕ) → ((a : A) → length (f a) ≡ n) → (xs : List A)
    → length (flat_map f xs) ≡ length xs * n
length_rows f n each [] = omega arith
length_rows f n each (x ∷ xs) =
    omega (arith, length-append (f x) (flat_map f xs), each x, length_rows f n each xs)

pub how_many : (r : Reference) → length (instances r) ≡ r.columns * r.rows
unfolding instances
how_many r =
    let p = length_rows (row_of r) r.columns (λ row. length-map (range_with_len 0 r.columns) _
    ∙ length-range_with_len 0 r.columns) (range_with_len 0 r.rows) in
    let q = length-range_with_len 0 r.rows in
    p ∙ rw q (omega arith)

pub array_on : (layer : Layer) (r : Reference) (xs : List Item)
    → layer_items layer (placed_items r xs) ≡ r.columns * r.rows * layer_items layer xs
array_on layer r xs = each_on layer xs (instances r)
    ∙ ap (λ n. n * layer_items layer xs) (how_many r)

-- ---- a structure's own shapes

pub own_on : (layer : Layer) (number : ℕ) (es : List Element)
    → layer_items layer (own_items number es) ≡ sum_by (one_if layer) es
own_on layer number [] = none_on layer
own_on layer number (elements.Boundary b ∷ es) =
    first_on layer _ (own_items number es)
    ∙ ap (λ n. one_if layer (elements.Boundary b) + n) (own_on layer number es)
    ∙ sym (sum_by-cons (one_if layer) (elements.Boundary b) es)
own_on layer number (elements.Path p ∷ es) =
    first_on layer _ (own_items number es)
    ∙ ap (λ n. one_if layer (elements.Path p) + n) (own_on layer number es)
    ∙ sym (sum_by-cons (one_if layer) (elements.Path p) es)
own_on layer number (elements.Reference r ∷ es) =
    let p : layer_items layer (own_items number es) ≡ sum_by (one_if layer) es =
    own_on layer number es in
    let q : sum_by (one_if layer) (elements.Reference r ∷ es) ≡ 0 + sum_by (one_if layer) es =
    sum_by-cons (one_if layer) (elements.Reference r) es in
    p ∙ omega (arith, q)
