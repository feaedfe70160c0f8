-- The parts of rectangles in a window have the rectangles' squares there.
use Rattle.std.proofs.Common.{◌≡◌, ℕ, ◌+◌, ◌<◌, ◌≤◌, ℤ, ◌≤ℤ◌, ◌<ℤ◌, Bool, true, false, ◌&&◌, ◌||◌, List, [], ◌∷◌, ◌++◌, length, get_or, take, refl, sym, ap, ◌∙◌, arith}
use Rattle.std.proofs.lemmas.Int.{ints, clamps}
use Rattle.std.proofs.lemmas.List.{take_all}
use Rattle.std.proofs.lemmas.List.Folds.{list_any-append, list_any_more}
use Rattle.mpw_geom.specs.declared.plane.Box2.{Box2}
use Rattle.mpw_geom.specs.declared.plane.Layer.{Layer}
use Rattle.mpw_geom.specs.Plane.{Square, has_square, HasArea, intersection}
use Rattle.mpw_geom.proofs.Tests.{SquareIn-from_test, same_squares}
use Rattle.mpw_edges.specs.Laws.{AreSameIn}
use Rattle.mpw_tiles.specs.declared.listing.Rectangle.{Rectangle}
use Rattle.mpw_geom.specs.Layers.{same_layer}
use Rattle.mpw_job.specs.Answers.{listed_on}
use Rattle.mpw_job.proofs.Tests.{is_false}

-- the parts have the squares of the first n rectangles in the window
abbrev pub HaveParts : Box2 → List Rectangle → ℕ → List Rectangle → Type 0
HaveParts window listed n parts =
    (layer : Layer) → AreSameIn window (listed_on (take n listed) layer) (listed_on parts layer)

abbrev at : ℤ → ℤ → Square
at i j = record { column = i; row = j }

abbrev on_layer : Layer → Square → Rectangle → Bool
on_layer layer s r = same_layer r.layer layer && has_square r.area s

or_none : (b : Bool) → (b || false) ≡ b
or_none true = refl
or_none false = refl

and_none : (t : Bool) → (t && false) ≡ false
and_none true = refl
and_none false = refl

-- a square of the window is in the part if it is in the rectangle
part_squares : (b window part : Box2) (i j : ℤ) → part ≡ intersection b window
    → window.x0 ≤ℤ i → i <ℤ window.x1 → window.y0 ≤ℤ j → j <ℤ window.y1
    → has_square b (at i j) ≡ has_square part (at i j)
part_squares b window part i j e l u low high =
    refl
    ∙ same_squares b (intersection b window) (at i j) (at i j)
    (λ h. let a = h.left in let c = h.right in let d = h.bottom in let f = h.top in record {
      left = omega (arith, ints, clamps, a, l);
      right = omega (arith, ints, clamps, c, u);
      bottom = omega (arith, ints, clamps, d, low);
      top = omega (arith, ints, clamps, f, high);
    })
    (λ h. let a = h.left in let c = h.right in let d = h.bottom in let f = h.top in record {
      left = omega (arith, ints, clamps, a);
      right = omega (arith, ints, clamps, c);
      bottom = omega (arith, ints, clamps, d);
      top = omega (arith, ints, clamps, f);
    })
    ∙ ap (λ (x : Box2). has_square x (at i j)) (sym e)

pub none_parted : (window : Box2) (listed : List Rectangle) → HaveParts window listed 0 []
none_parted window listed layer i j l u low high = refl

with_one : (a b t x y : Bool) → a ≡ b → x ≡ y → (a || (t && x)) ≡ (b || ((t && y) || false))
with_one a b t x y e f = ap (λ (p : Bool). p || (t && x)) e
    ∙ ap (λ (p : Bool). b || (t && p)) f ∙ ap (λ (p : Bool). b || p) (sym (or_none (t && y)))

pub one_parted : (window : Box2) (listed : List Rectangle) (n : ℕ) (d r : Rectangle)
    (parts : List Rectangle) → n < length listed → HaveParts window listed n parts
    → r.layer ≡ (get_or listed n d).layer → r.area ≡ intersection (get_or listed n d).area window
    → HaveParts window listed (n + 1) (parts ++ r ∷ [])
one_parted window listed n d r parts lt h same part layer i j l u low high =
    let x = get_or listed n d in
    list_any_more (on_layer layer (at i j)) listed n d lt
    ∙ with_one _ _ (same_layer x.layer layer) (has_square x.area (at i j))
    (has_square r.area (at i j)) (h layer i j l u low high)
    (part_squares x.area window r.area i j part l u low high)
    ∙ ap (λ (y : Layer). listed_on parts layer i j
    || ((same_layer y layer && has_square r.area (at i j)) || false)) (sym same)
    ∙ sym (list_any-append (on_layer layer (at i j)) parts (r ∷ []))

without : (a b t x : Bool) → a ≡ b → x ≡ false → (a || (t && x)) ≡ b
without a b t x e f = ap (λ (p : Bool). a || (t && p)) f ∙ ap (λ (p : Bool). a || p) (and_none t)
    ∙ or_none a ∙ e

pub none_left : (window : Box2) (listed : List Rectangle) (n : ℕ) (d : Rectangle) (part : Box2)
    (parts : List Rectangle) → n < length listed → HaveParts window listed n parts
    → part ≡ intersection (get_or listed n d).area window → (HasArea part → ⊥)
    → HaveParts window listed (n + 1) parts
none_left window listed n d part parts lt h is none layer i j l u low high =
    let x = get_or listed n d in
    let empty : has_square part (at i j) ≡ false = is_false _ (λ e.
    let s = SquareIn-from_test part (at i j) e in
    let a = s.left in let b = s.right in let c = s.bottom in let f = s.top in
    none (record { width = omega (arith, ints, a, b); height = omega (arith, ints, c, f) })) in
    list_any_more (on_layer layer (at i j)) listed n d lt
    ∙ without _ _ (same_layer x.layer layer) (has_square x.area (at i j))
    (h layer i j l u low high)
    (part_squares x.area window part i j is l u low high ∙ empty)

pub all_parted : (window : Box2) (listed : List Rectangle) (n : ℕ) (parts : List Rectangle)
    → length listed ≤ n → HaveParts window listed n parts → (layer : Layer)
    → AreSameIn window (listed_on listed layer) (listed_on parts layer)
all_parted window listed n parts le h layer i j l u low high =
    ap (λ (xs : List Rectangle). listed_on xs layer i j) (sym (take_all n listed le))
    ∙ h layer i j l u low high
