-- The edges of a region's squares are the ends of its boxes.
use Rattle.std.proofs.Common.{◌≡◌, ℤ, pos, ◌-ℤ◌, ◌≤ℤ◌, ◌<ℤ◌, true, false, List, map, ◌⊎◌, inl, inr, subst, sym, refl, ap, arith}
use Rattle.std.specs.Prelude.{Contains}
use Rattle.std.proofs.lemmas.Int.{ints, by_lt_z}
use Rattle.std.proofs.lemmas.Bool.{false_from_ne_true}
use Rattle.std.proofs.lemmas.Bool.Decides.{not_from_Decides}
use Rattle.std.proofs.lemmas.List.Elements.{All-contains}
use Rattle.mpw_geom.specs.declared.plane.Box2.{Box2}
use Rattle.mpw_geom.specs.Plane.{Square, HasArea}
use Rattle.mpw_geom.proofs.Tests.{SquareIn}
use Rattle.mpw_geom.proofs.Squares.{SquareInSome, Decides-any_has_square, no_box}
use Rattle.mpw_region.specs.Squares.{covers}
use Rattle.mpw_region.specs.Banded.{StandsInBands, AreBands}
use Rattle.mpw_region.proofs.Held.{held_map, map_held, one_or_before}
use Rattle.mpw_edges.specs.declared.pair.Edge.{Edge}
use Rattle.mpw_edges.specs.Edges.{IsRise, IsFall}
use Rattle.mpw_edges.specs.Internal.Pairs.{IsInRow, rise_of, fall_of}

-- ---- the boxes of a region

abbrev pub HasRow : Box2 → ℤ → Type 0
HasRow b j = (b.y0 ≤ℤ j) × (j <ℤ b.y1)

-- the square in column i and row j
abbrev square : ℤ → ℤ → Square
square i j = record { column = i; row = j }

in_columns : (b : Box2) (i j : ℤ) → b.x0 ≤ℤ i → i <ℤ b.x1 → HasRow b j → SquareIn b (square i j)
in_columns b i j l r u = record { left = l; right = r; bottom = u.0; top = u.1 }

row_of : (b : Box2) (i j : ℤ) → SquareIn b (square i j) → HasRow b j
row_of b i j h = (h.bottom, h.top)

pub covered : (boxes : List Box2) (b : Box2) (i j : ℤ) → Contains boxes b → b.x0 ≤ℤ i → i <ℤ b.x1
    → HasRow b j → covers boxes i j ≡ true
covered boxes b i j p l r u =
    (Decides-any_has_square boxes (square i j)).1 (b, p, in_columns b i j l r u)

uncovered : (boxes : List Box2) (i j : ℤ) → (SquareInSome boxes (square i j) → ⊥)
    → covers boxes i j ≡ false
uncovered boxes i j n =
    false_from_ne_true (covers boxes i j) (λ h. n ((Decides-any_has_square boxes (square i j)).0 h))

holds : (boxes : List Box2) (i j : ℤ) → covers boxes i j ≡ true → SquareInSome boxes (square i j)
holds boxes i j e = (Decides-any_has_square boxes (square i j)).0 e

lacks : (boxes : List Box2) (b : Box2) (i j : ℤ) → covers boxes i j ≡ false → Contains boxes b
    → b.x0 ≤ℤ i → i <ℤ b.x1 → HasRow b j → ⊥
lacks boxes b i j e p l r u = not_from_Decides (covers boxes i j)
    (Decides-any_has_square boxes (square i j)) e (b, p, in_columns b i j l r u)

left_of : (b c : Box2) (j : ℤ) → StandsInBands b c → HasRow b j → HasRow c j → b.x1 <ℤ c.x0
left_of b c j (inl below) p q = absurd (omega (arith, ints, below, p.1, q.0))
left_of b c j (inr beside) p q = beside.2

-- two boxes with a row in common are equal, or apart
alike : (boxes : List Box2) (b c : Box2) (j : ℤ) → AreBands boxes → Contains boxes b
    → Contains boxes c → HasRow b j → HasRow c j → (b ≡ c) ⊎ ((b.x1 <ℤ c.x0) ⊎ (c.x1 <ℤ b.x0))
alike boxes b c j h p q u v =
    elim (one_or_before StandsInBands boxes no_box b c h.ordered p q) [
      | inl e ↦ inl e
      | inr (inl before) ↦ inr (inl (left_of b c j before u v))
      | inr (inr behind) ↦ inr (inr (left_of c b j behind v u))
    ]

pub area : (boxes : List Box2) (b : Box2) → AreBands boxes → Contains boxes b → b.x0 <ℤ b.x1
area boxes b h p = let a : HasArea b = All-contains HasArea boxes b h.filled p in a.width

pub rise_of_box : (boxes : List Box2) (b : Box2) (j : ℤ) → AreBands boxes → Contains boxes b
    → HasRow b j → IsRise (covers boxes) b.x0 j
rise_of_box boxes b j h p u =
    let a = area boxes b h p in (
      covered boxes b b.x0 j p (omega (arith, ints)) a u,
      uncovered boxes (b.x0 -ℤ pos 1) j
          (λ s. elim (alike boxes b s.0 j h p s.1 u (row_of s.0 (b.x0 -ℤ pos 1) j s.2)) [
            | inl e ↦ omega (arith, ints, ap (λ (x : Box2). x.x0) e, s.2.left)
            | inr (inl l) ↦ omega (arith, ints, l, a, s.2.left)
            | inr (inr r) ↦ omega (arith, ints, r, s.2.right)
          ]),
    )

pub fall_of_box : (boxes : List Box2) (b : Box2) (j : ℤ) → AreBands boxes → Contains boxes b
    → HasRow b j → IsFall (covers boxes) b.x1 j
fall_of_box boxes b j h p u =
    let a = area boxes b h p in (
      covered boxes b (b.x1 -ℤ pos 1) j p (omega (arith, ints, a)) (omega (arith, ints)) u,
      uncovered boxes b.x1 j (λ s. elim (alike boxes b s.0 j h p s.1 u (row_of s.0 b.x1 j s.2)) [
        | inl e ↦ omega (arith, ints, ap (λ (x : Box2). x.x1) e, s.2.right)
        | inr (inl l) ↦ omega (arith, ints, l, s.2.left)
        | inr (inr r) ↦ omega (arith, ints, r, a, s.2.right)
      ]),
    )

box_of_rise : (boxes : List Box2) (x j : ℤ) → IsRise (covers boxes) x j
    → (b : Box2) × Contains boxes b × (b.x0 ≡ x) × HasRow b j
box_of_rise boxes x j r =
    let s = holds boxes x j r.0 in
    let u = row_of s.0 x j s.2 in
    by_lt_z s.0.x0 x
    (λ less. absurd (lacks boxes s.0 (x -ℤ pos 1) j r.1 s.1 (omega (arith, ints, less))
    (omega (arith, ints, s.2.right)) u))
    (λ more. (s.0, s.1, omega (arith, ints, more, s.2.left), u))

box_of_fall : (boxes : List Box2) (x j : ℤ) → IsFall (covers boxes) x j
    → (b : Box2) × Contains boxes b × (b.x1 ≡ x) × HasRow b j
box_of_fall boxes x j r =
    let s = holds boxes (x -ℤ pos 1) j r.0 in
    let u = row_of s.0 (x -ℤ pos 1) j s.2 in
    by_lt_z x s.0.x1
    (λ less. absurd (lacks boxes s.0 x j r.1 s.1 (omega (arith, ints, s.2.left)) less u))
    (λ more. (s.0, s.1, omega (arith, ints, more, s.2.right), u))

-- the box between a rise and a fall, if everything between is covered
pub box_of_width : (boxes : List Box2) (x1 x2 j : ℤ) → AreBands boxes → IsRise (covers boxes) x1 j
    → IsFall (covers boxes) x2 j → x1 <ℤ x2
    → ((i : ℤ) → x1 ≤ℤ i → i <ℤ x2 → covers boxes i j ≡ true) → (b : Box2) × Contains boxes b
    × (b.x0 ≡ x1) × (b.x1 ≡ x2) × HasRow b j
box_of_width boxes x1 x2 j h r f l between =
    let b = box_of_rise boxes x1 j r in
    let a = area boxes b.0 h b.1 in
    by_lt_z b.0.x1 x2
    (λ less.
    let s = holds boxes b.0.x1 j (between b.0.x1 (omega (arith, ints, a, b.2)) less) in
    absurd (elim (alike boxes b.0 s.0 j h b.1 s.1 b.3 (row_of s.0 b.0.x1 j s.2)) [
      | inl e ↦ omega (arith, ints, ap (λ (x : Box2). x.x1) e, s.2.right)
      | inr (inl left) ↦ omega (arith, ints, left, s.2.left)
      | inr (inr right) ↦ omega (arith, ints, right, a, s.2.right)
    ]))
    (λ more. by_lt_z x2 b.0.x1
    (λ less. absurd (lacks boxes b.0 x2 j f.1 b.1 (omega (arith, ints, b.2, l)) less b.3))
    (λ no_more. (b.0, b.1, b.2, omega (arith, ints, more, no_more), b.3)))

-- ---- lists of edges

-- the default edge of an index past the end
abbrev pub no_edge : Edge
no_edge = record { x = pos 0; y0 = pos 0; y1 = pos 0 }

-- the list has exactly the edges of E
pub record EdgesAre (edges : List Edge) (E : ℤ → ℤ → Type 0) : Type 0 where
  pub there : (e : Edge) (j : ℤ) → Contains edges e → IsInRow e j → E e.x j
  pub back : (x j : ℤ) → E x j → (e : Edge) × Contains edges e × ((e.x ≡ x) × IsInRow e j)

-- edges at one end of boxes
edges_are : (edge : Box2 → Edge) (E : ℤ → ℤ → Type 0) (boxes : List Box2)
    → ((b : Box2) (j : ℤ) → Contains boxes b → IsInRow (edge b) j → E (edge b).x j)
    → ((x j : ℤ) → E x j
    → (b : Box2) × Contains boxes b × (((edge b).x ≡ x) × IsInRow (edge b) j))
    → EdgesAre (map edge boxes) E
edges_are edge E boxes to from = record {
  there = λ e j c r. let m = held_map edge boxes no_box (λ x. x ≡ e) (e, c, refl) in
      subst (λ (x : ℤ). E x j) (ap (λ (x : Edge). x.x) m.2)
      (to m.0 j m.1 (subst (λ (x : Edge). IsInRow x j) (sym m.2) r));
  back = λ x j r. let b = from x j r in
      map_held edge boxes (λ e. (e.x ≡ x) × IsInRow e j) b.0 b.1 b.2;
}

pub rises_are : (boxes : List Box2) → AreBands boxes
    → EdgesAre (map rise_of boxes) (IsRise (covers boxes))
rises_are boxes h = edges_are rise_of (IsRise (covers boxes)) boxes
    (λ b j c r. rise_of_box boxes b j h c r)
    (λ x j r. let b = box_of_rise boxes x j r in (b.0, b.1, (b.2, b.3)))

pub falls_are : (boxes : List Box2) → AreBands boxes
    → EdgesAre (map fall_of boxes) (IsFall (covers boxes))
falls_are boxes h = edges_are fall_of (IsFall (covers boxes)) boxes
    (λ b j c r. fall_of_box boxes b j h c r)
    (λ x j r. let b = box_of_fall boxes x j r in (b.0, b.1, (b.2, b.3)))
