-- The squares of a tile's window decide what the tile's core finds, and what it touches.
use Rattle.std.proofs.Common.{◌≡◌, ℕ, ◌+◌, ◌≤◌, true, List, Some, refl, sym, subst, ap, ◌∙◌, arith}
use Rattle.std.specs.Prelude.{ℤ, pos, ◌-ℤ◌, ◌≤ℤ◌, Contains, slice_get}
use Rattle.std.proofs.lemmas.Int.{ints}
use Rattle.std.proofs.lemmas.Cmp.{then_total, on_total, nat_cmp_total, int_cmp_total}
use Rattle.std.specs.Cmp.{IsTotalOrder}
use Rattle.std.specs.Ordering.{ordering_reverse}
use Rattle.std.specs.declared.cmp.Ordering.TheVariants.{Less, Equal}
use Rattle.mpw_geom.specs.declared.plane.Layer.{Layer}
use Rattle.mpw_geom.specs.declared.plane.Box2.{Box2}
use Rattle.mpw_geom.specs.Plane.{Square, has_square, closed_square, widened}
use Rattle.mpw_geom.proofs.Tests.{PointIn-from_test, SquareIn, test_from_SquareIn, same_tests}
use Rattle.mpw_region.specs.Exchange.{exchanged_box}
use Rattle.mpw_region.proofs.Orderings.{before_itself}
use Rattle.mpw_deck.specs.declared.rule.Rule.{Rule}
use Rattle.mpw_deck.specs.Decks.{Deck}
use Rattle.mpw_edges.specs.declared.run.Axis.{Axis}
use Rattle.mpw_edges.specs.declared.run.Axis.TheVariants.{V, H}
use Rattle.mpw_edges.specs.Edges.{Squares, exchanged}
use Rattle.mpw_edges.specs.Laws.{AreSameIn}
use Rattle.mpw_edges.specs.Pieces.{HasStep, axis_cmp, box_of}
use Rattle.mpw_tiles.specs.declared.listing.Rectangle.{Rectangle}
use Rattle.mpw_geom.specs.Meeting.{Meet, IsMet}
use Rattle.mpw_tiles.specs.Laws.{EachWindowDecides, EachWindowDecidesRows, MetSquaresLieInWindows}
use Rattle.mpw_tiles.specs.Plan.{greatest_distance, plan_of, tile_core, tile_window}
use Rattle.mpw_tiles.proofs.Tiles.{no_greater}
use Rattle.mpw_markers.specs.declared.marker.Marker.{Marker}
use Rattle.mpw_markers.specs.declared.marker.Key.{Key}
use Rattle.mpw_markers.specs.Markers as marks
use Rattle.mpw_markers.proofs.Marked.{same_marker}
use Rattle.mpw_markers.proofs.Unique.{same_in_order, same_numbers}
use Rattle.mpw_tiles.specs.Listing.{IsListed, HasListed}
use Rattle.mpw_job.specs.Answers.{TileJob, listed_on, IsFoundIn, marker_cmp, ComesBefore, Answers}
use Rattle.mpw_job.specs.Layers.{first_squares, second_squares}
use Rattle.mpw_job.proofs.Tests.{same_first, same_second, get_contains}
use Rattle.mpw_job.proofs.Shapes.{tests_tell_listed}
use Rattle.mpw_run_laws.specs.Windows.{HaveSameSquares, HasListedStep, row_box, SquaresDecideRows, IsOfTile, SquaresDecideAnswers}

-- ---- squares

same_coverage : (window : Box2) (first second : List Rectangle)
    → HaveSameSquares window first second → (layer : Layer)
    → AreSameIn window (listed_on first layer) (listed_on second layer)
same_coverage window first second same layer i j l r d t =
    let q : Square = record { column = i; row = j } in
    let w = test_from_SquareIn window q (record { left = l; right = r; bottom = d; top = t }) in
    let f = tests_tell_listed first layer in
    let g = tests_tell_listed second layer in
    same_tests (listed_on first layer i j) (listed_on second layer i j)
    (λ k. let p = f.listed_at i j k in g.all i j p.0 ((same.squares q layer p.0 w).0 p.1))
    (λ k. let p = g.listed_at i j k in f.all i j p.0 ((same.squares q layer p.0 w).1 p.1))

-- origins with a square at a box, if such squares are in the window
met_alike : (window : Box2) (first second : List Rectangle) (box : Box2) (origin : ℕ)
    → HaveSameSquares window first second
    → ((s : Square) → Meet (closed_square s) box → has_square window s ≡ true)
    → IsMet (HasListed first) box origin → IsMet (HasListed second) box origin
met_alike window first second box origin same within h =
    let r = h.1.0 in
    let listed : IsListed first r.layer origin h.0 =
    (r, h.1.1, record { on_layer = refl; of_origin = h.1.2; has = h.1.3 }) in
    let l = (same.squares h.0 r.layer origin (within h.0 h.2)).0 listed in
    (h.0, (l.0, l.1, l.2.of_origin, l.2.has), h.2)

turned : (window : Box2) (first second : List Rectangle) → HaveSameSquares window first second
    → HaveSameSquares window second first
turned window first second same = record {
  squares = λ s layer origin w. let both = same.squares s layer origin w in (both.1, both.0);
}

-- ---- squares that touch a row

-- the square is at most 1 nm from the box
record IsNext (b : Box2) (s : Square) : Type 0 where
  left : (b.x0 -ℤ pos 1) ≤ℤ s.column
  right : s.column ≤ℤ b.x1
  bottom : (b.y0 -ℤ pos 1) ≤ℤ s.row
  top : s.row ≤ℤ b.y1

next_to : (b : Box2) (s : Square) → Meet (closed_square s) b → IsNext b s
unfolding closed_square
next_to b s m =
    let i = PointIn-from_test (closed_square s) m.0 m.1 in
    let k = PointIn-from_test b m.0 m.2 in
    record {
      left = omega (arith, ints);
      right = omega (arith, ints);
      bottom = omega (arith, ints);
      top = omega (arith, ints);
    }

near_vertical : (rule : Rule) (a b : Squares) (core : Box2) (greatest side : ℕ) (x1 x2 j : ℤ)
    (s : Square) → rule.distance ≤ greatest → HasStep rule a b core V side x1 x2 j
    → IsNext (row_box V x1 x2 j) s → SquareIn (widened core (greatest + 1)) s
near_vertical rule a b core greatest side x1 x2 j s h step n = record {
  left = omega (arith, ints);
  right = omega (arith, ints);
  bottom = omega (arith, ints);
  top = omega (arith, ints);
}

near_row : (rule : Rule) (a b : Squares) (core : Box2) (greatest : ℕ) (axis : Axis) (side : ℕ)
    (x1 x2 j : ℤ) (s : Square) → rule.distance ≤ greatest
    → HasStep rule a b core axis side x1 x2 j → IsNext (row_box axis x1 x2 j) s
    → SquareIn (widened core (greatest + 1)) s
near_row rule a b core greatest V side x1 x2 j s h step n =
    near_vertical rule a b core greatest side x1 x2 j s h step n
near_row rule a b core greatest H side x1 x2 j s h step n =
    let i = near_vertical rule (exchanged a) (exchanged b) (exchanged_box core) greatest side x1 x2
    j (record { column = s.row; row = s.column }) h step
    (record { left = n.bottom; right = n.top; bottom = n.left; top = n.right }) in
    record { left = i.bottom; right = i.top; bottom = i.left; top = i.right }

-- ---- rows

pub rows_decided : EachWindowDecidesRows → SquaresDecideRows
rows_decided rows extent deck rule tile first second c same = record {
  steps = λ axis side x1 x2 j.
      rows extent deck rule tile (first_of first) (second_of first) (first_of second)
      (second_of second) c
      (same_first rule.check window (listed_on first) (listed_on second) layers)
      (same_second rule.check window (listed_on first) (listed_on second) layers)
      axis side x1 x2 j;
  met = λ axis side x1 x2 j origin step. (
    met_alike window first second (row_box axis x1 x2 j) origin same
        (within axis side x1 x2 j step),
    met_alike window second first (row_box axis x1 x2 j) origin
        (turned window first second same) (within axis side x1 x2 j step),
  );
}
  where
    window : Box2
    window = tile_window (plan_of extent deck) tile

    first_of : List Rectangle → Squares
    first_of listed = first_squares rule.check (listed_on listed)

    second_of : List Rectangle → Squares
    second_of listed = second_squares rule.check (listed_on listed)

    layers : (layer : Layer) → AreSameIn window (listed_on first layer) (listed_on second layer)
    layers = same_coverage window first second same

    within : (axis : Axis) (side : ℕ) (x1 x2 j : ℤ)
        → HasListedStep rule (tile_core (plan_of extent deck) tile) first axis side x1 x2 j
        → (s : Square) → Meet (closed_square s) (row_box axis x1 x2 j)
        → has_square window s ≡ true
    within axis side x1 x2 j step s m =
        test_from_SquareIn window s
        (near_row rule (first_of first) (second_of first) (tile_core (plan_of extent deck) tile)
        (greatest_distance deck.rules) axis side x1 x2 j s (no_greater deck.rules rule c) step
        (next_to (row_box axis x1 x2 j) s m))

-- ---- answers

axis_total : IsTotalOrder axis_cmp
axis_total = record { antisymm = back; trans = chain; congr = alike }
  where
    back : (a b : Axis) → axis_cmp a b ≡ ordering_reverse (axis_cmp b a)
    back V V = refl
    back V H = refl
    back H V = refl
    back H H = refl

    chain : (a b c : Axis) → axis_cmp a b ≡ Less → axis_cmp b c ≡ Less → axis_cmp a c ≡ Less
    chain V V c e f = cc
    chain V H V e f = cc
    chain V H H e f = cc
    chain H V c e f = cc
    chain H H c e f = cc

    alike : (a b c : Axis) → axis_cmp a b ≡ Equal → axis_cmp a c ≡ axis_cmp b c
    alike V V c e = refl
    alike V H c e = cc
    alike H V c e = cc
    alike H H c e = refl

marker_total : IsTotalOrder marker_cmp
marker_total =
    then_total (on_total (λ m. m.key.rule) nat_cmp_total)
    (then_total (on_total (λ m. m.key.piece.axis) axis_total)
    (then_total (on_total (λ m. m.key.piece.side) nat_cmp_total)
    (then_total (on_total (λ m. m.key.piece.x1) int_cmp_total)
    (then_total (on_total (λ m. m.key.piece.x2) int_cmp_total)
    (on_total (λ m. m.key.piece.y0) int_cmp_total)))))

never_both : (m n : Marker) → ComesBefore m n → ComesBefore n m → ⊥
never_both m n e f =
    before_itself marker_cmp marker_total m m (marker_total.trans m n m e f) refl

-- the marker of one answer is one of the other
in_both : EachWindowDecides → MetSquaresLieInWindows → (extent : Box2) (deck : Deck) (tile : ℕ)
    (first second : TileJob) (found others : List Marker) (m : Marker)
    → IsOfTile extent deck tile first → IsOfTile extent deck tile second
    → HaveSameSquares (tile_window (plan_of extent deck) tile) first.window second.window
    → Answers first found → Answers second others → Contains found m → Contains others m
in_both runs met extent deck tile first second found others m is other same f g c =
    let window : Box2 = tile_window (plan_of extent deck) tile in
    let core : Box2 = tile_core (plan_of extent deck) tile in
    let own = f.sound m c in
    let rule : Rule = own.rule in
    let in_deck : Contains deck.rules rule = subst (λ (rules : List Rule). Contains rules rule)
    is.rules (get_contains first.rules m.key.rule rule own.at) in
    let layers = same_coverage window first.window second.window same in
    let here : IsFoundIn core (listed_on first.window) rule m.key.piece =
    subst (λ (b : Box2). IsFoundIn b (listed_on first.window) rule m.key.piece) is.core own.run in
    let there : IsFoundIn core (listed_on second.window) rule m.key.piece =
    (runs extent deck rule tile (first_squares rule.check (listed_on first.window))
    (second_squares rule.check (listed_on first.window))
    (first_squares rule.check (listed_on second.window))
    (second_squares rule.check (listed_on second.window)) in_deck
    (same_first rule.check window (listed_on first.window) (listed_on second.window) layers)
    (same_second rule.check window (listed_on first.window) (listed_on second.window) layers)
    m.key.piece).0 here in
    let at : slice_get second.rules m.key.rule ≡ Some rule =
    ap (λ (rules : List Rule). slice_get rules m.key.rule) (other.rules ∙ sym is.rules) ∙ own.at in
    let held = g.complete m.key.rule rule m.key.piece at
    (subst (λ (b : Box2). IsFoundIn b (listed_on second.window) rule m.key.piece) (sym other.core)
    there) in
    let n : Marker = held.0 in
    let keys : n.key ≡ m.key = held.2 in
    let boxes : box_of n.key.piece ≡ box_of m.key.piece =
    ap (λ (k : Key). box_of k.piece) keys in
    let told = g.sound n held.1 in
    let within : (s : Square) → Meet (closed_square s) (box_of m.key.piece)
    → has_square window s ≡ true = λ s k.
    met extent deck rule tile (first_squares rule.check (listed_on first.window))
    (second_squares rule.check (listed_on first.window)) m.key.piece s in_deck here k in
    let numbers : n.met ≡ m.met =
    same_numbers n.met m.met told.met.ascending own.met.ascending (λ origin. (
      λ k. (own.met.exact origin).1 (met_alike window second.window first.window
          (box_of m.key.piece)
          origin (turned window first.window second.window same) within
          (subst (λ (b : Box2). IsMet (HasListed second.window) b origin) boxes
          ((told.met.exact origin).0 k))),
      λ k. (told.met.exact origin).1 (subst (λ (b : Box2).
          IsMet (HasListed second.window) b origin) (sym boxes)
          (met_alike window first.window second.window (box_of m.key.piece) origin same within
          ((own.met.exact origin).0 k))),
    )) in
    subst (Contains others) (same_marker n m (ap marks.line_of_key keys)
    (ap (λ (k : Key). k.piece.y0) keys) (ap (λ (k : Key). k.piece.y1) keys) numbers) held.1

pub answers_decided : EachWindowDecides → MetSquaresLieInWindows → SquaresDecideAnswers
answers_decided runs met extent deck tile first second found others is other same f g =
    same_in_order ComesBefore never_both found others f.ordered g.ordered (λ m. (
      in_both runs met extent deck tile first second found others m is other same f g,
      in_both runs met extent deck tile second first others found m other is
          (turned (tile_window (plan_of extent deck) tile) first.window second.window same) g f,
    ))
