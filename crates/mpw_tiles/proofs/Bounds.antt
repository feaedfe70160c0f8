-- The squares of a shape lie in its box, and so in the extent of a list that has it.
use Rattle.std.proofs.Common.{◌≡◌, ℕ, Bool, ◌&&◌, true, false, cond, List, [], ◌∷◌, take, Option, Some, None, ◌⊎◌, inl, inr, refl, sym, subst, ap, ◌∙◌, arith}
use Rattle.std.specs.Prelude.{ℤ, pos, ◌-ℤ◌, ◌≤ℤ◌, ◌<ℤ◌, int_le, int_lt, int_div, Contains, All, IfSome, option_map, filter}
use Rattle.std.specs.Ordering.{int_eq}
use Rattle.std.proofs.lemmas.Bool.{false≢true, cases_eq, and_parts, and_from}
use Rattle.std.proofs.lemmas.Bool.Decides.{Decides-int_eq}
use Rattle.std.proofs.lemmas.Int.{ints}
use Rattle.std.proofs.lemmas.List.Elements.{All-nil, All-cons, All-weaker, All-head, All-tail, All-append, All-take, All-contains, Contains-append_right}
use Rattle.mpw_geom.specs.declared.plane.Box2.{Box2}
use Rattle.mpw_geom.specs.declared.plane.Layer.{Layer}
use Rattle.mpw_geom.specs.declared.plane.Point.{Point}
use Rattle.mpw_geom.specs.declared.placing.Placing.{Placing}
use Rattle.mpw_geom.specs.Plane.{box_at, Square, has_square}
use Rattle.mpw_geom.specs.Placing.{placed_square}
use Rattle.mpw_geom.proofs.Squares.{Decides-any_has_square}
use Rattle.mpw_geom.proofs.Tests.{SquareIn, SquareIn-from_test, test_from_SquareIn, le_from_test, lt_from_test, test_from_lt}
use Rattle.mpw_geom.proofs.Turns.{placed_squares}
use Rattle.mpw_structures.specs.declared.element.Element.{Element}
use Rattle.mpw_structures.specs.declared.element.Element.TheVariants.{Boundary, Path, Reference}
use Rattle.mpw_structures.specs.Element.{closed}
use Rattle.mpw_shapes.specs.Boundary.{rises_across, count_steps, upward, downward, winding, boundary_has}
use Rattle.mpw_shapes.specs.Path.{wire_boxes, path_has}
use Rattle.mpw_shapes.specs.Element.{element_has}
use Rattle.mpw_shapes.proofs.Whole.{right_of_all}
use Rattle.mpw_hier.specs.Items.{Item}
use Rattle.mpw_hier.specs.Boxes.{hull, hull_of, hull_of_points, has_area, element_box, placed_box, item_box, extent_of, is_box_near}
use Rattle.mpw_hier.specs.Holding.{IsInside, IsHeld, ExtentsHoldItems}
use Rattle.mpw_hier.proofs.Nearness.{close_box, near_hull}
use Rattle.mpw_hier.proofs.Holding.{inside_itself, inside_joined, first_inside}
use Rattle.mpw_hier.specs.declared.submission.Submission.{Submission}
use Rattle.mpw_hier.specs.Values.{extent}
use Rattle.mpw_walk.specs.declared.root.Root.{Root}
use Rattle.mpw_walk.specs.Roots.{root_extent, roots_extent}
use Rattle.mpw_walk.specs.Turns.{flat_roots}
use Rattle.mpw_walk.specs.Walk.{IsRoot}
use Rattle.mpw_tiles.specs.Laws.{IsInBox, SquaresLieInBoxes, SquaresLieInExtents, LayersLieInExtents, SquaresLieInPlane}
use Rattle.mpw_tiles.specs.Placed.{IsSquareInPlane}
use Rattle.mpw_tiles.specs.Shown.{ShowsSquare, IsShown}

-- ---- least boxes

held_first : (a : Box2) (b : Option Box2) → IsHeld (Some a) (hull (Some a) b)
held_first a None = inside_itself a
held_first a (Some b) = first_inside a b

held_behind : (a b : Option Box2) (c : Box2) → IsHeld (Some c) b → IsHeld (Some c) (hull a b)
held_behind None b c h = h
held_behind (Some a) None c h = absurd h
held_behind (Some a) (Some b) c h = inside_joined a b c h

points_held : (ps : List Point) → All (λ p. IsHeld (Some (box_at p)) (hull_of_points ps)) ps
unfolding hull_of_points
points_held [] = All-nil (λ p. IsHeld (Some (box_at p)) None)
points_held (q ∷ ps) =
    let whole = hull (Some (box_at q)) (hull_of_points ps) in
    All-cons (λ p. IsHeld (Some (box_at p)) whole) q ps
    (held_first (box_at q) (hull_of_points ps))
    (All-weaker (λ p. IsHeld (Some (box_at p)) (hull_of_points ps))
    (λ p. IsHeld (Some (box_at p)) whole)
    (λ p h. held_behind (Some (box_at q)) (hull_of_points ps) (box_at p) h) ps
    (points_held ps))

grown : (t : Bool) (b : Box2) (rest : List Box2) (c : Box2) → IsHeld (Some c) (hull_of rest)
    → IsHeld (Some c) (hull_of (cond t (b ∷ rest) rest))
unfolding hull_of
grown true b rest c h = held_behind (Some b) (hull_of rest) c h
grown false b rest c h = h

kept_first : (t : Bool) (b : Box2) (rest : List Box2) → t ≡ true
    → IsHeld (Some b) (hull_of (cond t (b ∷ rest) rest))
unfolding hull_of
kept_first true b rest e = held_first b (hull_of rest)
kept_first false b rest e = absurd (false≢true e)

-- each box with area lies in the least box of those with area
abbrev HoldsArea : List Box2 → Box2 → Type 0
HoldsArea kept b = has_area b ≡ true → IsHeld (Some b) (hull_of kept)

areas_held : (bs : List Box2) → All (HoldsArea (filter has_area bs)) bs
areas_held [] = All-nil (HoldsArea [])
areas_held (b ∷ bs) =
    let kept = filter has_area bs in
    let more = cond (has_area b) (b ∷ kept) kept in
    All-cons (HoldsArea more) b bs (kept_first (has_area b) b kept)
    (All-weaker (HoldsArea kept) (HoldsArea more) (λ c h t. grown (has_area b) b kept c (h t))
    bs (areas_held bs))

-- ---- boundaries

pub record Step (test : Point → Point → Bool) (ps : List Point) : Type 0 where
  from : Point
  to : Point
  has_from : Contains ps from
  has_to : Contains ps to
  passes : test from to ≡ true

step_later : (test : Point → Point → Bool) (p : Point) (ps : List Point) → Step test ps
    → Step test (p ∷ ps)
step_later test p ps s = record {
  from = s.from;
  to = s.to;
  has_from = Contains-append_right
      (p ∷ []) ps s.from s.has_from;
  has_to = Contains-append_right (p ∷ []) ps s.to s.has_to;
  passes = s.passes;
}

step_here : (test : Point → Point → Bool) (p q : Point) (ps : List Point) (t : Bool) → test p q ≡ t
    → ((count_steps test (q ∷ ps) ≡ 0 → ⊥) → Step test (q ∷ ps))
    → (count_steps test (p ∷ q ∷ ps) ≡ 0 → ⊥) → Step test (p ∷ q ∷ ps)
unfolding count_steps
step_here test p q ps true e later some =
    record {
      from = p;
      to = q;
      has_from = (0, omega arith, refl);
      has_to = (1, omega arith, refl);
      passes = e;
    }
step_here test p q ps false e later some =
    step_later test p (q ∷ ps) (later (λ none. some (rw (e, none))))

some_step : (test : Point → Point → Bool) (ps : List Point) → (count_steps test ps ≡ 0 → ⊥)
    → Step test ps
unfolding count_steps
some_step test [] some = absurd (some refl)
some_step test (p ∷ []) some = absurd (some refl)
some_step test (p ∷ q ∷ ps) some =
    step_here test p q ps (test p q) refl (some_step test (q ∷ ps)) some

uneven : (corners : List Point) (s : Square) → boundary_has corners s ≡ true
    → upward corners s ≡ downward corners s → ⊥
unfolding boundary_has winding
uneven corners s h e =
    let same : int_eq (pos (upward corners s) -ℤ pos (downward corners s)) (pos 0) ≡ true =
    (Decides-int_eq (pos (upward corners s) -ℤ pos (downward corners s)) (pos 0)).1
    (omega (arith, ints)) in
    false≢true (rw same at h)

-- three sides of the square are those of a step that goes up across its row, left of it
record IsBeside (b : Box2) (s : Square) : Type 0 where
  left : b.x0 ≤ℤ s.column
  bottom : b.y0 ≤ℤ s.row
  top : s.row <ℤ b.y1

beside : (b : Box2) (s : Square) (p q : Point) → IsInside (box_at p) b → IsInside (box_at q) b
    → rises_across s p q ≡ true → IsBeside b s
unfolding rises_across
beside b s p q h k t =
    let u = and_parts (int_le p.x s.column) (int_le p.y s.row && int_lt s.row q.y) t in
    let v = and_parts (int_le p.y s.row) (int_lt s.row q.y) u.1 in
    let l = le_from_test p.x s.column u.0 in
    let m = le_from_test p.y s.row v.0 in
    let n = lt_from_test s.row q.y v.1 in
    record { left = omega (arith, ints); bottom = omega (arith, ints); top = omega (arith, ints) }

closed_inside : (b : Box2) (corners : List Point) → hull_of_points corners ≡ Some b
    → All (λ p. IsInside (box_at p) b) (closed corners)
closed_inside b corners e =
    let P : Point → Type 0 = λ p. IsInside (box_at p) b in
    let all : All P corners = All-weaker (λ p. IsHeld (Some (box_at p)) (hull_of_points corners))
    P (λ p h. subst (λ (o : Option Box2). IsHeld (Some (box_at p)) o) e h) corners
    (points_held corners) in
    All-append P corners (take 1 corners) all (All-take P 1 corners all)

crossed : (b : Box2) (corners : List Point) (s : Square) → hull_of_points corners ≡ Some b
    → boundary_has corners s ≡ true → IsBeside b s
unfolding upward downward
crossed b corners s e h = elim (cases_eq (upward corners s) 0) [
  | inl none ↦ elim (cases_eq (downward corners s) 0) [
    | inl neither ↦ absurd (uneven corners s h (none ∙ sym neither))
    | inr some ↦
        let step = some_step (λ p q. rises_across s q p) (closed corners) some in
        beside b s step.to step.from (All-contains (λ p. IsInside (box_at p) b) (closed corners)
        step.to all step.has_to) (All-contains (λ p. IsInside (box_at p) b) (closed corners)
        step.from all step.has_from) step.passes
  ]
  | inr some ↦
      let step = some_step (λ p q. rises_across s p q) (closed corners) some in
      beside b s step.from step.to (All-contains (λ p. IsInside (box_at p) b) (closed corners)
      step.from all step.has_from) (All-contains (λ p. IsInside (box_at p) b)
      (closed corners) step.to all step.has_to) step.passes
]
  where
    all : All (λ p. IsInside (box_at p) b) (closed corners)
    all = closed_inside b corners e

cases_lt_z : (a b : ℤ) → (a <ℤ b) ⊎ (b ≤ℤ a)
cases_lt_z a b = grind (arith, ints)

boundary_in_box : (b : Box2) (corners : List Point) (s : Square) → hull_of_points corners ≡ Some b
    → boundary_has corners s ≡ true → SquareIn b s
boundary_in_box b corners s e h =
    let beside = crossed b corners s e h in
    elim (cases_lt_z s.column b.x1) [
      | inl right ↦ record {
        left = beside.left;
        right = right;
        bottom = beside.bottom;
        top = beside.top;
      }
      | inr past ↦
          let P : Point → Type 0 = λ p. IsHeld (Some (box_at p)) (hull_of_points corners) in
          let left : All (λ (p : Point). p.x ≤ℤ s.column) corners =
          All-weaker P (λ (p : Point). p.x ≤ℤ s.column)
          (λ p k. let i : IsInside (box_at p)
          b = subst (λ (o : Option Box2). IsHeld (Some (box_at p)) o) e k in
          let r = i.right in omega (arith, ints)) corners (points_held corners) in
          absurd (uneven corners s h (right_of_all corners s left))
    ]

-- ---- elements

-- a box that contains the square
pub record IsBoxed (o : Option Box2) (s : Square) : Type 0 where
  pub box : Box2
  pub is : o ≡ Some box
  pub has : SquareIn box s

boxed_inside : (o : Option Box2) (b : Box2) (s : Square) → IsHeld (Some b) o → SquareIn b s
    → IsBoxed o s
boxed_inside None b s h i = absurd h
boxed_inside (Some c) b s h i = record {
  box = c;
  is = refl;
  has = record {
    left = omega (arith, ints);
    right = omega (arith, ints);
    bottom = omega (arith, ints);
    top = omega (arith, ints);
  };
}

boundary_boxed : (corners : List Point) (s : Square) (o : Option Box2) → hull_of_points corners ≡ o
    → boundary_has corners s ≡ true → IsBoxed o s
boundary_boxed corners s None e h =
    let left : All (λ (p : Point). p.x ≤ℤ s.column) corners =
    All-weaker (λ p. IsHeld (Some (box_at p)) (hull_of_points corners))
    (λ (p : Point). p.x ≤ℤ s.column) (λ p k. absurd (subst
    (λ (o : Option Box2). IsHeld (Some (box_at p)) o) e k)) corners (points_held corners) in
    absurd (uneven corners s h (right_of_all corners s left))
boundary_boxed corners s (Some b) e h =
    record { box = b; is = refl; has = boundary_in_box b corners s e h }

area_test : (b : Box2) (s : Square) → SquareIn b s → has_area b ≡ true
area_test b s i =
    and_from _ _ (test_from_lt b.x0 b.x1 (omega (arith, ints)))
    (test_from_lt b.y0 b.y1 (omega (arith, ints)))

element_boxed : (e : Element) (s : Square) → element_has e s ≡ true → IsBoxed (element_box e) s
unfolding element_box path_has
element_boxed (Boundary b) s h = boundary_boxed b.points s (hull_of_points b.points) refl h
element_boxed (Path p) s h =
    let wires = wire_boxes (int_div p.width (pos 2)) p.begin p.end p.points in
    let some = (Decides-any_has_square wires s).0 h in
    let held = All-contains (HoldsArea (filter has_area wires)) wires some.0 (areas_held wires)
    some.1 (area_test some.0 s some.2) in
    boxed_inside (hull (hull_of_points p.points) (hull_of (filter has_area wires))) some.0 s
    (held_behind (hull_of_points p.points) (hull_of (filter has_area wires)) some.0 held) some.2
element_boxed (Reference r) s h = absurd (false≢true h)

-- ---- items

placed_boxed : (t : Placing) (b : Box2) (q : Square) → SquareIn b q
    → SquareIn (placed_box t b) (placed_square t q)
unfolding placed_box
placed_boxed t b q i =
    let same = placed_squares t b q (omega (arith, ints)) (omega (arith, ints)) in
    SquareIn-from_test _ (placed_square t q) (same ∙ test_from_SquareIn b q i)

pub item_boxed : (item : Item) (layer : Layer) (origin : ℕ) (s : Square)
    → ShowsSquare item layer origin s → IsBoxed (item_box item) s
item_boxed item layer origin s h =
    let e = element_boxed item.element h.square h.has in
    record {
      box = placed_box item.placing e.box;
      is = ap (option_map (placed_box item.placing)) e.is;
      has = subst (SquareIn (placed_box item.placing e.box)) h.placed
          (placed_boxed item.placing e.box h.square e.has);
    }

-- the extent of a list contains each square of its shapes
pub shown_boxed : ExtentsHoldItems → (items : List Item) (layer : Layer) (origin : ℕ) (s : Square)
    → IsShown items layer origin s → IsBoxed (extent_of items) s
shown_boxed holds items layer origin s h =
    let e = item_boxed h.0 layer origin s h.2 in
    let held =
    All-contains (λ i. IsHeld (item_box i) (extent_of items)) items h.0 (holds items) h.1 in
    boxed_inside (extent_of items) e.box s
    (subst (λ (o : Option Box2). IsHeld o (extent_of items)) e.is held) e.has

-- ---- the laws

in_box : (o : Option Box2) (s : Square) → IsBoxed o s → IsInBox o s
in_box o s h = record { corners = h.box; is = h.is; has = test_from_SquareIn h.box s h.has }

pub in_boxes : SquaresLieInBoxes
in_boxes item layer origin s h = in_box (item_box item) s (item_boxed item layer origin s h)

pub in_extents : ExtentsHoldItems → SquaresLieInExtents
in_extents holds items layer origin s h =
    in_box (extent_of items) s (shown_boxed holds items layer origin s h)

same_some : (a b : Box2) → (let o : Option Box2 = Some a in o) ≡ Some b → a ≡ b
same_some a b e = cc

pub layers_in_extents : ExtentsHoldItems → LayersLieInExtents
layers_in_extents holds items extent layer a e h i j t =
    let p = h.shown i j t in
    let b = in_extents holds items layer p.0 (record { column = i; row = j }) p.1 in
    subst (λ (x : Box2). has_square x (record { column = i; row = j }) ≡ true)
    (same_some b.corners extent (sym b.is ∙ e)) b.has

near_mapped : (t : Placing) (o : Option Box2) → IfSome o (λ b. is_box_near (placed_box t b) ≡ true)
    → IfSome (option_map (placed_box t) o) (λ b. is_box_near b ≡ true)
near_mapped t None h = tt
near_mapped t (Some b) h = h

pub near_roots : (ss : List Submission) (roots : List Root) → All (IsRoot ss) roots
    → IfSome (roots_extent ss roots) (λ b. is_box_near b ≡ true)
unfolding roots_extent
near_roots ss [] h = tt
near_roots ss (root ∷ roots) h =
    near_hull (root_extent ss root) (roots_extent ss roots)
    (near_mapped root.placing (extent ss root.submission)
    (All-head (IsRoot ss) root roots h).near)
    (near_roots ss roots (All-tail (IsRoot ss) root roots h))

near_square : (b : Box2) (s : Square) → is_box_near b ≡ true → SquareIn b s → IsSquareInPlane s
near_square b s n i =
    let h = close_box b n in record {
      left = omega (arith, ints);
      right = omega (arith, ints);
      bottom = omega (arith, ints);
      top = omega (arith, ints);
    }

pub in_plane : ExtentsHoldItems → ((ss : List Submission) (roots : List Root)
    → extent_of (flat_roots ss roots) ≡ roots_extent ss roots) → SquaresLieInPlane
in_plane holds reach ss roots layer origin s fit h =
    let b = shown_boxed holds (flat_roots ss roots) layer origin s h in
    near_square b.box s (subst (λ (o : Option Box2). IfSome o (λ b. is_box_near b ≡ true))
    (sym (reach ss roots) ∙ b.is) (near_roots ss roots fit)) b.has
