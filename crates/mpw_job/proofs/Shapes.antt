-- The squares of placed shapes, by tests.
use Rattle.std.proofs.Common.{◌≡◌, ℕ, Bool, true, ◌&&◌, List, Option, Some, None, refl, sym, subst, ap, ◌∙◌, arith}
use Rattle.std.specs.Prelude.{ℤ, ◌==◌}
use Rattle.std.specs.List.{list_any}
use Rattle.std.proofs.lemmas.Bool.{false≢true, and_parts, and_from, eqb-true, eq-eqb}
use Rattle.std.proofs.lemmas.Int.{ints}
use Rattle.mpw_geom.specs.declared.plane.Layer.{Layer}
use Rattle.mpw_geom.specs.declared.placing.Placing.{Placing}
use Rattle.mpw_geom.specs.Plane.{Square, has_square}
use Rattle.mpw_geom.specs.Placing.{oriented_square, moved_square, placed_square, undoing}
use Rattle.mpw_geom.proofs.Undone.{square_undone, undone_square}
use Rattle.mpw_structures.specs.declared.element.Element.{Element}
use Rattle.mpw_structures.specs.declared.element.Element.TheVariants as elements
use Rattle.mpw_shapes.specs.Element.{element_has}
use Rattle.mpw_hier.specs.Items.{Item}
use Rattle.mpw_tiles.specs.declared.listing.Rectangle.{Rectangle}
use Rattle.mpw_tiles.specs.Laws.{AreListedOn}
use Rattle.mpw_tiles.specs.Shown.{layer_of, ShowsSquare, HasShown}
use Rattle.mpw_geom.specs.Layers.{same_layer}
use Rattle.mpw_job.specs.Answers.{listed_on}
use Rattle.mpw_job.specs.Computed.{square_before, item_has, is_layer}
use Rattle.mpw_job.specs.Laws.{TestsTellShown}
use Rattle.mpw_job.proofs.Tests.{same_from, same_as, some_passes, passes_some}

-- ---- placing, back and forth

same_square : (s t : Square) → s.column ≡ t.column → s.row ≡ t.row → s ≡ t
same_square s t e f =
    let first : ℤ → Square = λ n. record { column = n; row = s.row } in
    let second : ℤ → Square = λ n. record { column = t.column; row = n } in
    ap first e ∙ ap second f

pub placed_before : (t : Placing) (s : Square) → placed_square t (square_before t s) ≡ s
unfolding placed_square square_before
placed_before t s = ap (moved_square t.by) (square_undone t.orient _)
    ∙ same_square _ s (omega (arith, ints)) (omega (arith, ints))

pub before_placed : (t : Placing) (s : Square) → square_before t (placed_square t s) ≡ s
unfolding placed_square square_before
before_placed t s = ap (oriented_square (undoing t.orient))
    (same_square _ (oriented_square t.orient s) (omega (arith, ints)) (omega (arith, ints)))
    ∙ undone_square t.orient s

-- ---- layers of shapes

layer_from : (o : Option Layer) (layer : Layer) → is_layer o layer ≡ true → o ≡ Some layer
layer_from None layer e = absurd (false≢true e)
layer_from (Some own) layer e = ap Some (same_from own layer e)

layer_as : (o : Option Layer) (layer : Layer) → o ≡ Some layer → is_layer o layer ≡ true
layer_as o layer e =
    subst (λ (x : Option Layer). is_layer x layer ≡ true) (sym e) (same_as layer layer refl)

has_layer : (e : Element) (s : Square) → element_has e s ≡ true
    → (layer : Layer) × (layer_of e ≡ Some layer)
has_layer (elements.Boundary b) s h = (b.layer, refl)
has_layer (elements.Path p) s h = (p.layer, refl)
has_layer (elements.Reference r) s h = absurd (false≢true h)

shows_from : (item : Item) (layer : Layer) (s : Square) → layer_of item.element ≡ Some layer
    → item_has item s ≡ true → ShowsSquare item layer item.origin s
shows_from item layer s e h = record {
  on_layer = e;
  of_origin = refl;
  square = square_before item.placing s;
  has = h;
  placed = placed_before item.placing s;
}

has_from : (item : Item) (layer : Layer) (origin : ℕ) (s : Square) → ShowsSquare item layer origin s
    → item_has item s ≡ true
has_from item layer origin s h = subst (λ (q : Square). element_has item.element q ≡ true)
    (sym (before_placed item.placing h.square) ∙ ap (square_before item.placing) h.placed) h.has

-- ---- squares of layers

pub tests_tell : TestsTellShown
tests_tell items layer = record {
  shown = λ i j e.
      let p = some_passes (λ (item : Item). is_layer (layer_of item.element) layer
      && item_has item (record { column = i; row = j })) items e in
      let h = and_parts _ _ p.2 in (
        p.0.origin,
        (
          p.0,
          p.1,
          shows_from p.0 layer (record { column = i; row = j })
              (layer_from (layer_of p.0.element) layer h.0) h.1,
        ),
      );
  all = λ i j origin h.
      passes_some (λ (item : Item). is_layer (layer_of item.element) layer
      && item_has item (record { column = i; row = j })) items h.0 h.1
      (and_from _ _ (layer_as (layer_of h.0.element) layer h.2.on_layer)
      (has_from h.0 layer origin (record { column = i; row = j }) h.2));
}

pub tests_tell_listed : (listed : List Rectangle) (layer : Layer)
    → AreListedOn listed layer (listed_on listed layer)
tests_tell_listed listed layer = record {
  listed_at = λ i j e.
      let p = some_passes (λ (r : Rectangle). same_layer r.layer layer
      && has_square r.area (record { column = i; row = j })) listed e in
      let h = and_parts _ _ p.2 in (
        p.0.origin,
        (
          p.0,
          p.1,
          record {
            on_layer = same_from p.0.layer layer h.0;
            of_origin = refl;
            has = h.1;
          },
        ),
      );
  all = λ i j origin h.
      passes_some (λ (r : Rectangle). same_layer r.layer layer
      && has_square r.area (record { column = i; row = j })) listed h.0 h.1
      (and_from _ _ (same_as h.0.layer layer h.2.on_layer) h.2.has);
}

-- ---- squares of origins

-- a shape of the origin has the square
abbrev pub shown_by : List Item → ℕ → Square → Bool
shown_by items origin s =
    list_any (λ (item : Item). (item.origin == origin) && item_has item s) items

pub by_from : (items : List Item) (origin : ℕ) (s : Square) → shown_by items origin s ≡ true
    → HasShown items origin s
by_from items origin s e =
    let p = some_passes (λ (item : Item). (item.origin == origin) && item_has item s) items e in
    let h = and_parts _ _ p.2 in
    let l = has_layer p.0.element (square_before p.0.placing s) h.1 in (
      l.0,
      (
        p.0,
        p.1,
        record {
          on_layer = l.1;
          of_origin = eqb-true p.0.origin origin h.0;
          square = square_before p.0.placing s;
          has = h.1;
          placed = placed_before p.0.placing s;
        },
      ),
    )

pub by_as : (items : List Item) (origin : ℕ) (s : Square) → HasShown items origin s
    → shown_by items origin s ≡ true
by_as items origin s h =
    passes_some (λ (item : Item). (item.origin == origin) && item_has item s) items h.1.0 h.1.1
    (and_from _ _ (eq-eqb h.1.0.origin origin h.1.2.of_origin) (has_from h.1.0 h.0 origin s h.1.2))
