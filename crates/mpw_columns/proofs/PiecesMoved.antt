-- Pieces of what is displaced, across the edges and along them.
use Rattle.std.proofs.Common.{◌≡◌, ◌∙◌, ℕ, ℤ, ◌+ℤ◌, ◌-ℤ◌, ◌≤ℤ◌, ◌<ℤ◌, List, map, get_or, refl, sym, subst, ap, arith}
use Rattle.std.specs.Prelude.{All, ◌↔◌}
use Rattle.std.proofs.lemmas.Int.{ints}
use Rattle.std.proofs.lemmas.List.Elements.{All-contains, Contains-get_or}
use Rattle.mpw_geom.specs.declared.plane.Box2.{Box2}
use Rattle.mpw_geom.specs.declared.plane.Layer.{Layer}
use Rattle.mpw_geom.specs.declared.plane.Point.{Point}
use Rattle.mpw_deck.specs.declared.rule.Check.{Check}
use Rattle.mpw_deck.specs.declared.rule.Check.TheVariants.{Width, Space, Separation, Enclosing}
use Rattle.mpw_deck.specs.declared.rule.Rule.{Rule}
use Rattle.mpw_edges.specs.declared.run.Axis.{Axis}
use Rattle.mpw_edges.specs.Edges.{Squares}
use Rattle.mpw_edges.specs.Steps.{IsPair}
use Rattle.mpw_edges.specs.Pieces.{HasVerticalStep}
use Rattle.mpw_markers.specs.declared.marker.Key.{Key}
use Rattle.mpw_markers.specs.declared.marker.Line.{Line}
use Rattle.mpw_markers.specs.Markers.{line_of_key}
use Rattle.mpw_job.specs.Layers.{Coverage, first_squares, second_squares}
use Rattle.mpw_columns_keys.specs.Pieces.{IsRowOf}
use Rattle.mpw_columns.specs.Displaced.{displaced}
use Rattle.mpw_columns.specs.Internal.Found.{IsLook}
use Rattle.mpw_columns.specs.Internal.Pieces.{IsStepIn, ArePieces, moved_box, moved_key}
use Rattle.mpw_columns.proofs.Displacing.{shifted, step_on}
use Rattle.mpw_columns.proofs.Pieced.{pieces_agree}
use Rattle.mpw_columns.proofs.Telling.{of_map, to_map}

-- ---- along the edges

-- the squares, displaced by -`by` along the edges: each is the one that lies `by` higher
abbrev lowered : ℤ → Squares → Squares
lowered by a i j = a i (j +ℤ by)

raised : ℤ → Box2 → Box2
raised by b = record { x0 = b.x0; y0 = b.y0 +ℤ by; x1 = b.x1; y1 = b.y1 +ℤ by }

pair_along : (check : Check) (by : ℤ) (a b : Squares) (side : ℕ) (x1 x2 j : ℤ)
    → IsPair check (lowered by a) (lowered by b) side x1 x2 j
    ↔ IsPair check a b side x1 x2 (j +ℤ by)
pair_along (Width l) by a b side x1 x2 j = (λ h. h, λ h. h)
pair_along (Space l) by a b side x1 x2 j = (λ h. h, λ h. h)
pair_along (Separation l m) by a b side x1 x2 j = (λ h. h, λ h. h)
pair_along (Enclosing l m) by a b side x1 x2 j = (λ h. h, λ h. h)

most_along : (by x y : ℤ) → (x ≤ℤ y) ↔ ((x +ℤ by) ≤ℤ (y +ℤ by))
most_along by x y = (λ h. omega (arith, ints, h), λ h. omega (arith, ints, h))

less_along : (by x y : ℤ) → (x <ℤ y) ↔ ((x +ℤ by) <ℤ (y +ℤ by))
less_along by x y = (λ h. omega (arith, ints, h), λ h. omega (arith, ints, h))

step_along : (rule : Rule) (by : ℤ) (a b : Squares) (core : Box2) (side : ℕ) (x1 x2 j : ℤ)
    → HasVerticalStep rule (lowered by a) (lowered by b) core side x1 x2 j
    ↔ HasVerticalStep rule a b (raised by core) side x1 x2 (j +ℤ by)
unfolding raised
step_along rule by a b core side x1 x2 j =
    let p = pair_along rule.check by a b side x1 x2 j in
    let l = most_along by core.y0 j in
    let u = less_along by j core.y1 in (
      λ s. ((p.0 s.0.0, s.0.1), (s.1.0, s.1.1, l.0 s.1.2, u.0 s.1.3)),
      λ s. ((p.1 s.0.0, s.0.1), (s.1.0, s.1.1, l.1 s.1.2, u.1 s.1.3)),
    )

-- ---- both

abbrev lowered_both : Point → Squares → Squares
lowered_both d a = shifted d.x (lowered d.y a)

step_both : (rule : Rule) (d : Point) (a b : Squares) (core : Box2) (side : ℕ) (x1 x2 j : ℤ)
    → HasVerticalStep rule (lowered_both d a) (lowered_both d b) core side x1 x2 j
    ↔ HasVerticalStep rule a b (moved_box d core) side (x1 +ℤ d.x) (x2 +ℤ d.x) (j +ℤ d.y)
unfolding raised
step_both rule d a b core side x1 x2 j =
    let f = step_on rule d.x (lowered d.y a) (lowered d.y b) core side x1 x2 j in
    let g = step_along rule d.y a b (displaced d.x core) side (x1 +ℤ d.x) (x2 +ℤ d.x) j in
    (λ s. g.0 (f.0 s), λ s. f.1 (g.1 s))

-- ---- layers

abbrev lowered_on : Point → Coverage → Coverage
lowered_on d on layer = lowered_both d (on layer)

first_lowered : (check : Check) (d : Point) (on : Coverage)
    → first_squares check (lowered_on d on) ≡ lowered_both d (first_squares check on)
first_lowered (Width l) d on = refl
first_lowered (Space l) d on = refl
first_lowered (Separation l m) d on = refl
first_lowered (Enclosing l m) d on = refl

second_lowered : (check : Check) (d : Point) (on : Coverage)
    → second_squares check (lowered_on d on) ≡ lowered_both d (second_squares check on)
second_lowered (Width l) d on = refl
second_lowered (Space l) d on = refl
second_lowered (Separation l m) d on = refl
second_lowered (Enclosing l m) d on = refl

abbrev moved_line : Point → Line → Line
moved_line d l = record l { x1 = l.x1 +ℤ d.x; x2 = l.x2 +ℤ d.x }

abbrev line_back : Point → Line → Line
line_back d l = record l { x1 = l.x1 -ℤ d.x; x2 = l.x2 -ℤ d.x }

there : (by i : ℤ) → ((i -ℤ by) +ℤ by) ≡ i
there by i = omega (arith, ints)

line_there : (d : Point) (l : Line) → moved_line d (line_back d l) ≡ l
line_there d l = λ i. record l { x1 = there d.x l.x1 i; x2 = there d.x l.x2 i }

row_both : (rule : Rule) (d : Point) (on : Coverage) (core : Box2) (l : Line) (j : ℤ)
    → HasVerticalStep rule (first_squares rule.check (lowered_on d on))
    (second_squares rule.check (lowered_on d on)) core l.side l.x1 l.x2 j
    ↔ HasVerticalStep rule (first_squares rule.check on) (second_squares rule.check on)
    (moved_box d core) l.side (l.x1 +ℤ d.x) (l.x2 +ℤ d.x) (j +ℤ d.y)
row_both rule d on core l j =
    let a = first_squares rule.check on in
    let b = second_squares rule.check on in
    let Is : Squares → Squares → Type 0 =
    λ p q. HasVerticalStep rule p q core l.side l.x1 l.x2 j
    ↔ HasVerticalStep rule a b (moved_box d core) l.side (l.x1 +ℤ d.x) (l.x2 +ℤ d.x) (j +ℤ d.y) in
    subst (λ (p : Squares). Is p (second_squares rule.check (lowered_on d on)))
    (sym (first_lowered rule.check d on))
    (subst (λ (q : Squares). Is (lowered_both d a) q) (sym (second_lowered rule.check d on))
    (step_both rule d a b core l.side l.x1 l.x2 j))

step_moved : (rules : List Rule) (axis : Axis) (d : Point) (on : Coverage) (core : Box2) (l : Line)
    (j : ℤ) → IsStepIn rules axis (lowered_on d on) core l j
    ↔ IsStepIn rules axis on (moved_box d core) (moved_line d l) (j +ℤ d.y)
step_moved rules axis d on core l j = (
  λ s. record {
    rule = s.rule;
    at = s.at;
    on_axis = s.on_axis;
    step = (row_both s.rule d on core l j).0 s.step;
  },
  λ s. record {
    rule = s.rule;
    at = s.at;
    on_axis = s.on_axis;
    step = (row_both s.rule d on core l j).1 s.step;
  },
)

-- ---- pieces

map_filled : (d : Point) (keys : List Key) → All (λ (k : Key). k.piece.y0 <ℤ k.piece.y1) keys
    → All (λ (k : Key). k.piece.y0 <ℤ k.piece.y1) (map (moved_key d) keys)
map_filled d keys h = λ n o lt.
    let p = of_map (moved_key d) keys (get_or (map (moved_key d) keys) n o)
    (Contains-get_or (map (moved_key d) keys) n o lt) in
    let f = All-contains (λ (k : Key). k.piece.y0 <ℤ k.piece.y1) keys p.0 h p.1 in
    subst (λ (k : Key). k.piece.y0 <ℤ k.piece.y1) p.2
    ((less_along d.y p.0.piece.y0 p.0.piece.y1).0 f)

moved_pieces : (rules : List Rule) (axis : Axis) (d : Point) (on : Coverage) (core : Box2)
    (keys : List Key) → ArePieces rules axis (lowered_on d on) core keys
    → ArePieces rules axis on (moved_box d core) (map (moved_key d) keys)
moved_pieces rules axis d on core keys p = record {
  filled = map_filled d keys p.filled;
  exact = λ line j. (to line j, from line j);
}
  where
    to : (line : Line) (j : ℤ) → IsRowOf (map (moved_key d) keys) line j
        → IsStepIn rules axis on (moved_box d core) line j
    to line j r =
        let q = of_map (moved_key d) keys r.key r.there in
        let l = r.from in let u = r.to in
        let low : (q.0.piece.y0 +ℤ d.y) ≤ℤ j = subst (λ (k : Key). k.piece.y0 ≤ℤ j) (sym q.2) l in
        let high : j <ℤ (q.0.piece.y1 +ℤ d.y) = subst (λ (k : Key). j <ℤ k.piece.y1) (sym q.2) u in
        let s = (p.exact (line_of_key q.0) (j -ℤ d.y)).0 (record {
          key = q.0;
          there = q.1;
          on_line = refl;
          from = omega (arith, ints, low);
          to = omega (arith, ints, high);
        }) in
        let m = (step_moved rules axis d on core (line_of_key q.0) (j -ℤ d.y)).0 s in
        subst (λ (l : Line). IsStepIn rules axis on (moved_box d core) l j)
        (ap line_of_key q.2 ∙ r.on_line)
        (subst (λ (i : ℤ). IsStepIn rules axis on (moved_box d core)
        (moved_line d (line_of_key q.0)) i)
        (there d.y j) m)

    from : (line : Line) (j : ℤ) → IsStepIn rules axis on (moved_box d core) line j
        → IsRowOf (map (moved_key d) keys) line j
    from line j s =
        let m =
        subst (λ (l : Line). IsStepIn rules axis on (moved_box d core) l ((j -ℤ d.y) +ℤ d.y))
        (sym (line_there d line))
        (subst (λ (i : ℤ). IsStepIn rules axis on (moved_box d core) line i) (sym (there d.y j)) s)
        in
        let r = (p.exact (line_back d line) (j -ℤ d.y)).1
        ((step_moved rules axis d on core (line_back d line) (j -ℤ d.y)).1 m) in
        let l = r.from in let u = r.to in record {
          key = moved_key d r.key;
          there = to_map (moved_key d) keys r.key r.there;
          on_line = ap (moved_line d) r.on_line ∙ line_there d line;
          from = omega (arith, ints, l);
          to = omega (arith, ints, u);
        }

-- each square is included, displaced, and nothing else
abbrev pub AreSquaresMoved : Point → Coverage → Coverage → Type 0
AreSquaresMoved d on other =
    (layer : Layer) (i j : ℤ) → other layer (i +ℤ d.x) (j +ℤ d.y) ≡ on layer i j

pub pieces_moved : (rules : List Rule) (layers : List Layer) (distance : ℕ) (axis : Axis)
    (d : Point)
    (on other : Coverage) (core : Box2) (keys : List Key) → IsLook rules layers distance
    → AreSquaresMoved d on other → ArePieces rules axis on core keys
    → ArePieces rules axis other (moved_box d core) (map (moved_key d) keys)
pieces_moved rules layers distance axis d on other core keys look moved p =
    moved_pieces rules axis d other core keys
    (pieces_agree rules layers distance axis on (lowered_on d other) core keys look
    (λ layer c i j l r low high. sym (moved layer i j)) p)
