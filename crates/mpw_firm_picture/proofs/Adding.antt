-- The squares of placed boxes and shapes, as they are added to the rectangles of a window.
use Rattle.std.proofs.Common.{◌≡◌, ℕ, true, List, [], ◌∷◌, ◌++◌, ◌⊎◌, inl, inr, sym, subst, ap, ◌∙◌, arith}
use Rattle.std.specs.Prelude.{Contains, ◌↔◌, ◌≤ℤ◌}
use Rattle.std.specs.Int.{int_min, int_max}
use Rattle.std.proofs.lemmas.Bool.{and_from}
use Rattle.std.proofs.lemmas.Int.{ints, clamps}
use Rattle.std.proofs.lemmas.List.Elements.{Contains-push_cases, All-weaker, All-contains_itself}
use Rattle.mpw_region.proofs.Active.{kept_from, kept}
use Rattle.mpw_region.proofs.Held.{Held-nil, Held-push_left, Held-push_new, Held-push_cases}
use Rattle.mpw_geom.specs.declared.plane.Box2.{Box2}
use Rattle.mpw_geom.specs.declared.plane.Layer.{Layer}
use Rattle.mpw_geom.specs.Plane.{Square, has_square, HasArea, IsBoxInPlane, intersection}
use Rattle.mpw_geom.proofs.Tests.{SquareIn, SquareIn-from_test, test_from_SquareIn, test_from_le}
use Rattle.mpw_hier.specs.Items.{Item}
use Rattle.mpw_tiles.specs.declared.listing.Rectangle.{Rectangle}
use Rattle.mpw_tiles.specs.Listing.{IsListed, HasSquareOf}
use Rattle.mpw_tiles.specs.Shown.{ShowsSquare, IsShown}
use Rattle.mpw_tiles.specs.Laws.{SquaresLieInBoxes}
use Rattle.mpw_tiles.specs.Snapshots.{Snapshot, shown}
use Rattle.mpw_hier.specs.Boxes.{item_box}
use Rattle.mpw_walk.specs.Window.{do_meet, is_met, items_met}
use Rattle.mpw_firm_picture.specs.Drawn.{LiesIn, ShowShapes}
use Rattle.mpw_firm_picture.specs.Internal.Adding.{AddsIn}
use Rattle.mpw_tiles.specs.Placed.{IsSquareInPlane}
use Rattle.mpw_tiles.proofs.Added.{either, none_more, next_more, same_more}

abbrev pub rectangle_of : Box2 → Layer → ℕ → Rectangle
rectangle_of area own number = record { area = area; layer = own; origin = number }

-- the same in the window
abbrev pub AgreeIn : Box2 → (Layer → ℕ → Square → Type 0) → (Layer → ℕ → Square → Type 0) → Type 0
AgreeIn w P Q = (s : Square) (layer : Layer) (origin : ℕ) → has_square w s ≡ true
    → P layer origin s ↔ Q layer origin s

-- ---- adding

pub adds_none : (w : Box2) (old : List Rectangle) (P : Layer → ℕ → Square → Type 0)
    → ((s : Square) (layer : Layer) (origin : ℕ) → has_square w s ≡ true → P layer origin s → ⊥)
    → AddsIn w old old P
adds_none w old P none = record {
  squares = λ s layer origin u. none_more (none s layer origin u);
  inside = λ r c. inl c;
}

pub adds_next : (w : Box2) (a b c : List Rectangle) (P Q R : Layer → ℕ → Square → Type 0)
    → AgreeIn w (either P Q) R → AddsIn w a b P → AddsIn w b c Q → AddsIn w a c R
adds_next w a b c P Q R agree f g = record {
  squares = λ s layer origin u.
      next_more (agree s layer origin u) (f.squares s layer origin u) (g.squares s layer origin u);
  inside = λ r l. elim (g.inside r l) [ inl m ↦ f.inside r m | inr q ↦ inr q ];
}

pub adds_same : (w : Box2) (a b : List Rectangle) (P R : Layer → ℕ → Square → Type 0)
    → AgreeIn w P R → AddsIn w a b P → AddsIn w a b R
adds_same w a b P R agree f = record {
  squares = λ s layer origin u. same_more (agree s layer origin u) (f.squares s layer origin u);
  inside = f.inside;
}

-- ---- the part of a rectangle in the window

pub in_plane : (w : Box2) (s : Square) → IsBoxInPlane w → has_square w s ≡ true → IsSquareInPlane s
in_plane w s plane u =
    let h = SquareIn-from_test w s u in
    record {
      left = omega (arith, ints);
      right = omega (arith, ints);
      bottom = omega (arith, ints);
      top = omega (arith, ints);
    }

intersection_in : (w b : Box2) (s : Square) → SquareIn w s → SquareIn b s → SquareIn (intersection w b) s
intersection_in w b s h k = record {
  left = omega (arith, ints, clamps);
  right = omega (arith, ints, clamps);
  bottom = omega (arith, ints, clamps);
  top = omega (arith, ints, clamps);
}

intersection_out : (w b : Box2) (s : Square) → SquareIn (intersection w b) s → SquareIn b s
intersection_out w b s h = record {
  left = omega (arith, ints, clamps);
  right = omega (arith, ints, clamps);
  bottom = omega (arith, ints, clamps);
  top = omega (arith, ints, clamps);
}

some_area : (b : Box2) (s : Square) → SquareIn b s → HasArea b
some_area b s h = record { width = omega (arith, ints); height = omega (arith, ints) }

-- a rectangle without area there adds nothing
pub adds_missed : (w : Box2) (r : Rectangle) (area : Box2) (old : List Rectangle)
    → area ≡ intersection w r.area → (HasArea area → ⊥) → AddsIn w old old (HasSquareOf r)
adds_missed w r area old e none =
    adds_none w old (HasSquareOf r) (λ s layer origin u p.
    none (subst HasArea (sym e) (some_area (intersection w r.area) s
    (intersection_in w r.area s (SquareIn-from_test w s u) (SquareIn-from_test r.area s p.has)))))

intersection_lies : (w b : Box2) (own : Layer) (number : ℕ) → HasArea (intersection w b)
    → LiesIn w (rectangle_of (intersection w b) own number)
intersection_lies w b own number h = record {
  some = h;
  left = omega (arith, ints, clamps);
  bottom = omega (arith, ints, clamps);
  right = omega (arith, ints, clamps);
  top = omega (arith, ints, clamps);
}

adds_intersection : (w : Box2) (r : Rectangle) (old : List Rectangle) → HasArea (intersection w r.area)
    → AddsIn w old (old ++ rectangle_of (intersection w r.area) r.layer r.origin ∷ []) (HasSquareOf r)
adds_intersection w r old some = record {
  squares = λ s layer origin u. (to s layer origin u, from s layer origin u);
  inside = λ x c. elim (Contains-push_cases old piece x c) [
    | inl k ↦ inl k
    | inr e ↦ inr (subst (LiesIn w) e (intersection_lies w r.area r.layer r.origin some))
  ];
}
  where
    piece : Rectangle
    piece = rectangle_of (intersection w r.area) r.layer r.origin

    to : (s : Square) (layer : Layer) (origin : ℕ) → has_square w s ≡ true
        → IsListed (old ++ piece ∷ []) layer origin s
        → IsListed old layer origin s ⊎ HasSquareOf r layer origin s
    to s layer origin u l =
        elim (Held-push_cases (λ (x : Rectangle). HasSquareOf x layer origin s) old piece l) [
          | inl k ↦ inl k
          | inr p ↦ inr (record {
            on_layer = p.on_layer;
            of_origin = p.of_origin;
            has = test_from_SquareIn r.area s
                (intersection_out w r.area s (SquareIn-from_test (intersection w r.area) s p.has));
          })
        ]

    from : (s : Square) (layer : Layer) (origin : ℕ) → has_square w s ≡ true
        → IsListed old layer origin s ⊎ HasSquareOf r layer origin s
        → IsListed (old ++ piece ∷ []) layer origin s
    from s layer origin u (inl k) =
        Held-push_left (λ (x : Rectangle). HasSquareOf x layer origin s) old piece k
    from s layer origin u (inr p) =
        Held-push_new (λ (x : Rectangle). HasSquareOf x layer origin s) old piece (record {
          on_layer = p.on_layer;
          of_origin = p.of_origin;
          has = test_from_SquareIn (intersection w r.area) s
              (intersection_in w r.area s (SquareIn-from_test w s u)
              (SquareIn-from_test r.area s p.has));
        })

pub adds_pushed : (w : Box2) (r : Rectangle) (area : Box2) (old new : List Rectangle)
    → area ≡ intersection w r.area → HasArea area
    → new ≡ old ++ rectangle_of area r.layer r.origin ∷ [] → AddsIn w old new (HasSquareOf r)
adds_pushed w r area old new e some is =
    subst (λ xs. AddsIn w old xs (HasSquareOf r))
    (sym (is ∙ ap (λ b. old ++ rectangle_of b r.layer r.origin ∷ []) e))
    (adds_intersection w r old (subst HasArea e some))

-- ---- what a walk within the window leaves out

meets : (b w : Box2) (s : Square) → SquareIn b s → SquareIn w s → do_meet b w ≡ true
unfolding do_meet
meets b w s h k =
    let columns : int_max b.x0 w.x0 ≤ℤ int_min b.x1 w.x1 = omega (arith, ints, clamps) in
    let rows : int_max b.y0 w.y0 ≤ℤ int_min b.y1 w.y1 = omega (arith, ints, clamps) in
    and_from _ _ (test_from_le _ _ columns) (test_from_le _ _ rows)

-- a shape that has a square of the window is one that the walk finds
shown_is_met : (w : Box2) (item : Item) (layer : Layer) (origin : ℕ) (s : Square)
    → SquaresLieInBoxes → has_square w s ≡ true → ShowsSquare item layer origin s
    → is_met w (item_box item) ≡ true
shown_is_met w item layer origin s law u h =
    let b = law item layer origin s h in
    subst (λ box. is_met w box ≡ true) (sym b.is)
    (meets b.corners w s (SquareIn-from_test b.corners s b.has) (SquareIn-from_test w s u))

pub shown_met : (w : Box2) (items : List Item) → SquaresLieInBoxes
    → AgreeIn w (IsShown (items_met w items)) (IsShown items)
shown_met w items law s layer origin u = (
  λ h. (h.0, (kept_from (λ (i : Item). is_met w (item_box i)) items h.0 h.1).0, h.2),
  λ h. (
    h.0,
    kept (λ (i : Item). is_met w (item_box i)) items h.0 h.1
        (shown_is_met w h.0 layer origin s law u h.2),
    h.2,
  ),
)

-- what is added to no rectangles
pub shows : (s : Snapshot) (w : Box2) (rectangles : List Rectangle)
    → AddsIn w [] rectangles (IsShown (shown s)) → ShowShapes s w rectangles
shows s w rectangles f = record {
  squares = λ q layer origin u. (
    λ l. elim ((f.squares q layer origin u).0 l) [
      | inl k ↦ absurd (Held-nil (λ (r : Rectangle). HasSquareOf r layer origin q) k)
      | inr p ↦ p
    ],
    λ p. (f.squares q layer origin u).1 (inr p),
  );
  inside = All-weaker (Contains rectangles) (LiesIn w) (λ r c. elim (f.inside r c) [
    | inl k ↦ absurd (omega (arith, k.1))
    | inr l ↦ l
  ]) rectangles (All-contains_itself rectangles);
}
