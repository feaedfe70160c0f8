-- The areas of a layer's rectangles.
use Rattle.std.proofs.Common.{◌≡◌, ℕ, ◌<◌, ◌≤◌, ◌+◌, Bool, true, false, ◌&&◌, ◌||◌, List, [], ◌∷◌, ◌++◌, length, get_or, take, refl, sym, ap, ◌∙◌}
use Rattle.std.specs.Prelude.{ℤ}
use Rattle.std.proofs.lemmas.List.{take_all}
use Rattle.std.proofs.lemmas.List.Folds.{list_any-append, list_any_more}
use Rattle.mpw_geom.specs.declared.plane.Box2.{Box2}
use Rattle.mpw_geom.specs.declared.plane.Layer.{Layer}
use Rattle.mpw_geom.specs.Plane.{Square, has_square, any_has_square}
use Rattle.mpw_region.specs.Squares.{covers}
use Rattle.mpw_tiles.specs.declared.listing.Rectangle.{Rectangle}
use Rattle.mpw_geom.specs.Layers.{same_layer}
use Rattle.mpw_job.specs.Answers.{listed_on}

-- the areas have the squares of the first n rectangles on the layer
abbrev pub HaveSquares : List Rectangle → Layer → ℕ → List Box2 → Type 0
HaveSquares listed layer n areas =
    (i j : ℤ) → covers areas i j ≡ listed_on (take n listed) layer i j

or_none : (b : Bool) → (b || false) ≡ b
or_none true = refl
or_none false = refl

with_one : (a b t x : Bool) → a ≡ b → t ≡ true → (a || (x || false)) ≡ (b || (t && x))
with_one a b t x e f = rw (e, f) (ap (λ y. b || y) (or_none x))

without : (a b t x : Bool) → a ≡ b → t ≡ false → a ≡ (b || (t && x))
without a b t x e f = rw (e, f) (sym (or_none b))

pub none_yet : (listed : List Rectangle) (layer : Layer) → HaveSquares listed layer 0 []
unfolding any_has_square
none_yet listed layer i j = refl

abbrev on_layer : Layer → Square → Rectangle → Bool
on_layer layer s r = same_layer r.layer layer && has_square r.area s

pub one_more : (listed : List Rectangle) (layer : Layer) (n : ℕ) (d : Rectangle) (areas : List Box2)
    → n < length listed → HaveSquares listed layer n areas
    → same_layer (get_or listed n d).layer layer ≡ true
    → HaveSquares listed layer (n + 1) (areas ++ (get_or listed n d).area ∷ [])
unfolding any_has_square
one_more listed layer n d areas lt h same i j =
    let s : Square = record { column = i; row = j } in
    list_any-append (λ b. has_square b s) areas ((get_or listed n d).area ∷ [])
    ∙ with_one _ _ _ _ (h i j) same
    ∙ sym (list_any_more (on_layer layer s) listed n d lt)

pub passed_over : (listed : List Rectangle) (layer : Layer) (n : ℕ) (d : Rectangle)
    (areas : List Box2) → n < length listed → HaveSquares listed layer n areas
    → same_layer (get_or listed n d).layer layer ≡ false → HaveSquares listed layer (n + 1) areas
passed_over listed layer n d areas lt h other i j =
    let s : Square = record { column = i; row = j } in
    without _ _ _ (has_square (get_or listed n d).area s) (h i j) other
    ∙ sym (list_any_more (on_layer layer s) listed n d lt)

pub all_of : (listed : List Rectangle) (layer : Layer) (n : ℕ) (areas : List Box2)
    → length listed ≤ n → HaveSquares listed layer n areas → (i j : ℤ)
    → covers areas i j ≡ listed_on listed layer i j
all_of listed layer n areas le h i j =
    h i j ∙ ap (λ (xs : List Rectangle). listed_on xs layer i j) (take_all n listed le)
