-- How many of the placed shapes are seen.
use Rattle.std.proofs.Common.{◌≡◌, ℕ, ◌+◌, ◌*◌, ◌≤◌, Bool, true, false, cond, pos, List, [], ◌∷◌, ◌++◌, length, map, refl, ap, sym, ◌∙◌, arith, length-append}
use Rattle.std.specs.Prelude.{slice_get}
use Rattle.std.specs.List.{flat_map, range_with_len}
use Rattle.std.proofs.lemmas.List.{length-map}
use Rattle.std.proofs.lemmas.List.FromFn.{length-range_with_len}
use Rattle.std.proofs.lemmas.List.Sums.{sum_by-append, sum_by-cons, count_by-le-length}
use Rattle.mpw_geom.specs.declared.plane.Orient.TheVariants.{R0}
use Rattle.mpw_geom.specs.declared.placing.Placing.{Placing}
use Rattle.mpw_structures.specs.declared.element.Element.{Element}
use Rattle.mpw_structures.specs.declared.element.Reference.{Reference}
use Rattle.mpw_hier.specs.Structures.{shapes}
use Rattle.mpw_hier.specs.Items.{Item, own_items, row_of, instances, placed_item, placed_items}
use Rattle.mpw_seen.specs.Seen.{is_seen, seen_items}

-- a shape that is seen counts one
abbrev pub one_if : List Bool → Item → ℕ
one_if seen i = cond (is_seen (slice_get seen i.origin)) 1 0

pub seen_none : (seen : List Bool) → seen_items seen [] ≡ 0
unfolding seen_items
seen_none seen = refl

pub seen_first : (seen : List Bool) (x : Item) (xs : List Item)
    → seen_items seen (x ∷ xs) ≡ one_if seen x + seen_items seen xs
unfolding seen_items
seen_first seen x xs = sum_by-cons (one_if seen) x xs

pub seen_append : (seen : List Bool) (xs ys : List Item)
    → seen_items seen (xs ++ ys) ≡ seen_items seen xs + seen_items seen ys
unfolding seen_items
seen_append seen xs ys = sum_by-append (one_if seen) xs ys

pub seen_few : (seen : List Bool) (xs : List Item) → seen_items seen xs ≤ length xs
unfolding seen_items
seen_few seen xs = count_by-le-length (λ (i : Item). is_seen (slice_get seen i.origin)) xs

-- ---- placing doesn't change the origin of shapes

seen_placed : (seen : List Bool) (t : Placing) (xs : List Item)
    → seen_items seen (map (placed_item t) xs) ≡ seen_items seen xs
seen_placed seen t [] = refl
seen_placed seen t (x ∷ xs) = seen_first seen (placed_item t x) (map (placed_item t) xs)
    ∙ ap (λ n. one_if seen x + n) (seen_placed seen t xs) ∙ sym (seen_first seen x xs)

seen_each : (seen : List Bool) (xs : List Item) (ts : List Placing)
    → seen_items seen (flat_map (λ t. map (placed_item t) xs) ts) ≡ length ts * seen_items seen xs
seen_each seen xs [] = seen_none seen ∙ omega arith
seen_each seen xs (t ∷ ts) =
    let p = seen_append seen (map (placed_item t) xs) (flat_map (λ t. map (placed_item t) xs) ts) in
    let q = seen_placed seen t xs in
    let r = seen_each seen xs ts in
    omega (arith, p, q, r)

length_rows : {A B : Type 0} (f : A → List B) (n : ℕ) → ((a : A) → length (f a) ≡ n) → (xs : List A)
    → length (flat_map f xs) ≡ length xs * n
length_rows f n each [] = omega arith
length_rows f n each (x ∷ xs) =
    omega (arith, length-append (f x) (flat_map f xs), each x, length_rows f n each xs)

how_many : (r : Reference) → length (instances r) ≡ r.columns * r.rows
unfolding instances
how_many r =
    let p = length_rows (row_of r) r.columns (λ row. length-map (range_with_len 0 r.columns) _
    ∙ length-range_with_len 0 r.columns) (range_with_len 0 r.rows) in
    let q = length-range_with_len 0 r.rows in
    p ∙ rw q (omega arith)

pub seen_array : (seen : List Bool) (r : Reference) (xs : List Item)
    → seen_items seen (placed_items r xs) ≡ r.columns * r.rows * seen_items seen xs
seen_array seen r xs = seen_each seen xs (instances r)
    ∙ ap (λ n. n * seen_items seen xs) (how_many r)

-- ---- a structure's own shapes come from its submission

abbrev unplaced : ℕ → Element → Item
unplaced number e = record {
  origin = number;
  placing = record { orient = R0; by = record { x = pos 0; y = pos 0 } };
  element = e;
}

seen_unplaced : (seen : List Bool) (number : ℕ) (es : List Element)
    → seen_items seen (map (unplaced number) es)
    ≡ length es * cond (is_seen (slice_get seen number)) 1 0
seen_unplaced seen number [] = seen_none seen ∙ omega arith
seen_unplaced seen number (e ∷ es) =
    let p = seen_first seen (unplaced number e) (map (unplaced number) es) in
    let q = seen_unplaced seen number es in
    omega (arith, p, q)

all_or_none : (seen : Bool) (n : ℕ) → n * cond seen 1 0 ≡ cond seen n 0
all_or_none true n = omega arith
all_or_none false n = omega arith

pub seen_own : (seen : List Bool) (number : ℕ) (es : List Element)
    → seen_items seen (own_items number es)
    ≡ cond (is_seen (slice_get seen number)) (length (shapes es)) 0
seen_own seen number es = seen_unplaced seen number (shapes es)
    ∙ all_or_none (is_seen (slice_get seen number)) (length (shapes es))
