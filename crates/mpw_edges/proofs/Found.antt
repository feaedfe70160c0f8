-- The runs that each check finds have exactly the rows of its pair steps.
use Rattle.std.proofs.Common.{◌≡◌, ℕ, ℤ, pos, ◌-ℤ◌, ◌≤ℤ◌, ◌<ℤ◌, true, false, List, [], map, ◌⊎◌, inl, inr, subst, sym, ap, arith}
use Rattle.std.proofs.lemmas.Int.{ints}
use Rattle.mpw_geom.specs.declared.plane.Box2.{Box2}
use Rattle.mpw_region.specs.declared.runs.Line.{Line}
use Rattle.mpw_region.specs.declared.runs.Run.{Run}
use Rattle.mpw_region.specs.Internal.Runs.{Adds, Finds}
use Rattle.mpw_region.specs.Squares.{covers}
use Rattle.mpw_region.specs.Banded.{AreBands}
use Rattle.mpw_region.proofs.Order.{same_line}
use Rattle.mpw_region.proofs.Adding.{Adds-both, Adds-same, Finds-from_adds}
use Rattle.mpw_edges.specs.declared.edges.End.{End}
use Rattle.mpw_edges.specs.declared.edges.End.TheVariants.{Rise, Fall}
use Rattle.mpw_edges.specs.declared.edges.Ends.{Ends}
use Rattle.mpw_edges.specs.declared.pair.Edge.{Edge}
use Rattle.mpw_edges.specs.declared.pair.Limits.{Limits}
use Rattle.mpw_edges.specs.Edges.{IsRise, IsFall}
use Rattle.mpw_edges.specs.Steps.{IsWidth, IsSpace}
use Rattle.mpw_edges.specs.Pieces.{IsInCore}
use Rattle.mpw_edges.specs.Internal.Pairs.{IsNear, IsPairOf, IsWidthOf, IsBetween, IsEdgeAt, rise_of, fall_of, edge_of}
use Rattle.mpw_edges.proofs.Region.{EdgesAre, rises_are, falls_are, box_of_width, rise_of_box, fall_of_box, covered}

-- the runs that were added find the positions, described in another way
found : (runs : List Run) (P Q : Line → ℤ → Type 0) → Adds [] runs P
    → ((line : Line) (j : ℤ) → P line j → Q line j) → ((line : Line) (j : ℤ) → Q line j → P line j)
    → Finds runs Q
found runs P Q h f g = Finds-from_adds runs Q (Adds-same [] runs P Q h f g)

-- the two edges of a line, near each other, in a row, if the first lies in the core
abbrev pub IsFoundPair : ℕ → Limits → (ℤ → ℤ → Type 0) → (ℤ → ℤ → Type 0) → Line → ℤ → Type 0
IsFoundPair side limits E F line j = (line.side ≡ side) × E line.first j × F line.second j
    × IsNear limits line.first line.second × IsInCore limits.core line.first j

pub found_pair : (side : ℕ) (limits : Limits) (froms tos : List Edge) (E F : ℤ → ℤ → Type 0)
    → EdgesAre froms E → EdgesAre tos F → (line : Line) (j : ℤ)
    → IsPairOf side limits froms tos line j → IsFoundPair side limits E F line j
found_pair side limits froms tos E F h g line j s =
    let place = s.2.2 in
    let first : line.first ≡ s.0.x = ap (λ (l : Line). l.first) s.2.2.0 in
    let second : line.second ≡ s.2.0.x = ap (λ (l : Line). l.second) s.2.2.0 in (
      ap (λ (l : Line). l.side) s.2.2.0,
      subst (λ (x : ℤ). E x j) (sym first) (h.there s.0 j s.1 s.2.2.4.0),
      subst (λ (x : ℤ). F x j) (sym second) (g.there s.2.0 j s.2.1 s.2.2.4.1),
      subst (λ (x : ℤ). IsNear limits x line.second) (sym first)
          (subst (λ (x : ℤ). IsNear limits s.0.x x) (sym second) s.2.2.1),
      (
        omega (arith, ints, first, s.2.2.2),
        omega (arith, ints, first, s.2.2.3),
        s.2.2.4.2,
        s.2.2.4.3,
      ),
    )

pub pair_found : (side : ℕ) (limits : Limits) (froms tos : List Edge) (E F : ℤ → ℤ → Type 0)
    → EdgesAre froms E → EdgesAre tos F → (line : Line) (j : ℤ) → IsFoundPair side limits E F line j
    → IsPairOf side limits froms tos line j
pair_found side limits froms tos E F h g line j s =
    let from = h.back line.first j s.1 in
    let to = g.back line.second j s.2 in
    let near = subst (λ (x : ℤ). IsNear limits x to.0.x) (sym from.2.0)
    (subst (λ (x : ℤ). IsNear limits line.first x) (sym to.2.0) s.3) in (
      from.0,
      from.1,
      (
        to.0,
        to.1,
        (
          same_line line (record { side = side; first = from.0.x; second = to.0.x }) s.0
              (sym from.2.0) (sym to.2.0),
          near,
          omega (arith, ints, from.2.0, s.4.0),
          omega (arith, ints, from.2.0, s.4.1),
          (from.2.1, to.2.1, s.4.2, s.4.3),
        ),
      ),
    )

-- ---- width

abbrev pub width_limits : ℕ → Box2 → Limits
width_limits distance core = record { touching = false; distance = distance; core = core }

abbrev pub pair_limits : ℕ → Box2 → Limits
pair_limits distance core = record { touching = true; distance = distance; core = core }

pub finds_widths : (runs : List Run) (boxes : List Box2) (distance : ℕ) (core : Box2)
    → AreBands boxes → Adds [] runs (IsWidthOf (width_limits distance core) boxes)
    → Finds runs (λ line j. (IsWidth (covers boxes) line.side line.first line.second j
    × ((line.second -ℤ line.first) <ℤ pos distance)) × IsInCore core line.first j)
finds_widths runs boxes distance core h added =
    found runs (IsWidthOf (width_limits distance core) boxes)
    (λ line j. (IsWidth (covers boxes) line.side line.first line.second j
    × ((line.second -ℤ line.first) <ℤ pos distance)) × IsInCore core line.first j) added to from
  where
    to : (line : Line) (j : ℤ) → IsWidthOf (width_limits distance core) boxes line j
        → (IsWidth (covers boxes) line.side line.first line.second j
        × ((line.second -ℤ line.first) <ℤ pos distance)) × IsInCore core line.first j
    to line j s =
        let first : line.first ≡ s.0.x0 = ap (λ (l : Line). l.first) s.2.0 in
        let second : line.second ≡ s.0.x1 = ap (λ (l : Line). l.second) s.2.0 in (
          (
            (
              ap (λ (l : Line). l.side) s.2.0,
              subst (λ (x : ℤ). IsRise (covers boxes) x j) (sym first)
                  (rise_of_box boxes s.0 j h s.1 s.2.4.0),
              subst (λ (x : ℤ). IsFall (covers boxes) x j) (sym second)
                  (fall_of_box boxes s.0 j h s.1 s.2.4.0),
              omega (arith, ints, first, second, s.2.1.0),
              λ i l r. covered boxes s.0 i j s.1 (omega (arith, ints, first, l))
                  (omega (arith, ints, second, r)) s.2.4.0,
            ),
            omega (arith, ints, first, second, s.2.1.1),
          ),
          (omega (arith, ints, first, s.2.2), omega (arith, ints, first, s.2.3), s.2.4.2, s.2.4.3),
        )

    from : (line : Line) (j : ℤ) → (IsWidth (covers boxes) line.side line.first line.second j
        × ((line.second -ℤ line.first) <ℤ pos distance)) × IsInCore core line.first j
        → IsWidthOf (width_limits distance core) boxes line j
    from line j w =
        let b = box_of_width boxes line.first line.second j h w.0.0.1 w.0.0.2 w.0.0.3 w.0.0.4 in (
          b.0,
          b.1,
          (
            same_line line (record { side = 0; first = b.0.x0; second = b.0.x1 }) w.0.0.0 (sym b.2)
                (sym b.3),
            (omega (arith, ints, b.2, b.3, w.0.0.3), omega (arith, ints, b.2, b.3, w.0.1)),
            omega (arith, ints, b.2, w.1.0),
            omega (arith, ints, b.2, w.1.1),
            (b.4, b.4, w.1.2, w.1.3),
          ),
        )

-- ---- space

pub finds_spaces : (runs : List Run) (boxes : List Box2) (distance : ℕ) (core : Box2)
    → AreBands boxes → Adds [] runs (IsPairOf 0 (width_limits distance core) (map fall_of boxes)
    (map rise_of boxes))
    → Finds runs (λ line j. (IsSpace (covers boxes) line.side line.first line.second j
    × ((line.second -ℤ line.first) <ℤ pos distance)) × IsInCore core line.first j)
finds_spaces runs boxes distance core h added =
    found runs (IsPairOf 0 (width_limits distance core) (map fall_of boxes) (map rise_of boxes))
    (λ line j. (IsSpace (covers boxes) line.side line.first line.second j
    × ((line.second -ℤ line.first) <ℤ pos distance)) × IsInCore core line.first j) added
    (λ line j s. let p = found_pair 0 (width_limits distance core) (map fall_of boxes)
    (map rise_of boxes) (IsFall (covers boxes)) (IsRise (covers boxes)) (falls_are boxes h)
    (rises_are boxes h) line j s in
    (((p.0, p.1, p.2, p.3.0), p.3.1), p.4))
    (λ line j w. pair_found 0 (width_limits distance core) (map fall_of boxes) (map rise_of boxes)
    (IsFall (covers boxes)) (IsRise (covers boxes)) (falls_are boxes h) (rises_are boxes h) line
    j
    (w.0.0.0, w.0.0.1, w.0.0.2, (w.0.0.3, w.0.1), w.1))

-- ---- two layers: a pair on each side

abbrev IsEither : ℕ → Box2 → (ℤ → ℤ → Type 0) → (ℤ → ℤ → Type 0) → (ℤ → ℤ → Type 0)
    → (ℤ → ℤ → Type 0) → Line → ℤ → Type 0
IsEither distance core E F G K line j =
    (((line.first ≤ℤ line.second) × (((line.side ≡ 0) × E line.first j × F line.second j)
    ⊎ ((line.side ≡ 1) × G line.first j × K line.second j)))
    × ((line.second -ℤ line.first) <ℤ pos distance)) × IsInCore core line.first j

finds_either : (mid runs : List Run) (distance : ℕ) (core : Box2) (a b c d : List Edge)
    (E F G K : ℤ → ℤ → Type 0) → EdgesAre a E → EdgesAre b F → EdgesAre c G → EdgesAre d K
    → Adds [] mid (IsPairOf 0 (pair_limits distance core) a b)
    → Adds mid runs (IsPairOf 1 (pair_limits distance core) c d)
    → Finds runs (IsEither distance core E F G K)
finds_either mid runs distance core a b c d E F G K ea eb ec ed one two =
    found runs (λ line j. IsPairOf 0 (pair_limits distance core) a b line j
    ⊎ IsPairOf 1 (pair_limits distance core) c d line j) (IsEither distance core E F G K)
    (Adds-both [] mid runs (IsPairOf 0 (pair_limits distance core) a b)
    (IsPairOf 1 (pair_limits distance core) c d) one two) to from
  where
    to : (line : Line) (j : ℤ) → IsPairOf 0 (pair_limits distance core) a b line j
        ⊎ IsPairOf 1 (pair_limits distance core) c d line j → IsEither distance core E F G K line j
    to line j (inl s) = let p = found_pair 0 (pair_limits distance core) a b E F ea eb line j s in
        (((p.3.0, inl (p.0, p.1, p.2)), p.3.1), p.4)
    to line j (inr s) = let p = found_pair 1 (pair_limits distance core) c d G K ec ed line j s in
        (((p.3.0, inr (p.0, p.1, p.2)), p.3.1), p.4)

    from : (line : Line) (j : ℤ) → IsEither distance core E F G K line j
        → IsPairOf 0 (pair_limits distance core) a b line j ⊎ IsPairOf 1 (pair_limits distance core)
        c d line j
    from line j w = elim w.0.0.1 [
      | inl p ↦ inl (pair_found 0 (pair_limits distance core) a b E F ea eb line j
          (p.0, p.1, p.2, (w.0.0.0, w.0.1), w.1))
      | inr p ↦ inr (pair_found 1 (pair_limits distance core) c d G K ec ed line j
          (p.0, p.1, p.2, (w.0.0.0, w.0.1), w.1))
    ]

edges_are : (end : End) (boxes : List Box2) → AreBands boxes
    → EdgesAre (map (edge_of end) boxes) (IsEdgeAt end (covers boxes))
edges_are Rise boxes h = rises_are boxes h
edges_are Fall boxes h = falls_are boxes h

-- the pairs on one side
abbrev IsPairOn : ℕ → ℕ → Box2 → List Box2 → End → List Box2 → End → Line → ℤ → Type 0
IsPairOn side distance core first from second to =
    IsPairOf side (pair_limits distance core) (map (edge_of from) first) (map (edge_of to) second)

pub finds_between : (mid runs : List Run) (distance : ℕ) (core : Box2) (ends : Ends)
    (first second : List Box2) → AreBands first → AreBands second
    → Adds [] mid (IsPairOn 0 distance core first ends.forth_from second ends.forth_to)
    → Adds mid runs (IsPairOn 1 distance core second ends.back_from first ends.back_to)
    → Finds runs (IsBetween ends (covers first) (covers second) distance core)
finds_between mid runs distance core ends first second h g one two =
    finds_either mid runs distance core (map (edge_of ends.forth_from) first)
    (map (edge_of ends.forth_to) second) (map (edge_of ends.back_from) second)
    (map (edge_of ends.back_to) first) (IsEdgeAt ends.forth_from (covers first))
    (IsEdgeAt ends.forth_to (covers second)) (IsEdgeAt ends.back_from (covers second))
    (IsEdgeAt ends.back_to (covers first)) (edges_are ends.forth_from first h)
    (edges_are ends.forth_to second g) (edges_are ends.back_from second g)
    (edges_are ends.back_to first h) one two

-- what was added to no runs
pub adds_to_none : (old new : List Run) (P : Line → ℤ → Type 0) → old ≡ [] → Adds old new P
    → Adds [] new P
adds_to_none old new P e h = subst (λ (rs : List Run). Adds rs new P) e h
