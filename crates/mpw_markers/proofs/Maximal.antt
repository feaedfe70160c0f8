-- The stitched book of a whole layout.
use Rattle.std.proofs.Common.{◌≡◌, ℕ, ℤ, pos, ◌-ℤ◌, ◌+ℤ◌, ◌≤ℤ◌, ◌<ℤ◌, Bool, true, List, [], get_or, refl, sym, subst, ap, arith}
use Rattle.std.specs.Prelude.{Contains, ◌↔◌}
use Rattle.std.proofs.lemmas.Int.{ints, by_lt_z}
use Rattle.std.proofs.lemmas.Bool.{and_parts, and_from, both_ways, false_from_ne_true}
use Rattle.std.proofs.lemmas.List.Elements.{All-contains, Contains-get_or}
use Rattle.mpw_geom.specs.Plane.{Square, has_point}
use Rattle.mpw_geom.specs.declared.plane.Point.{Point}
use Rattle.mpw_geom.proofs.Tests.{PointIn-from_test, test_from_PointIn}
use Rattle.mpw_region.proofs.Held.{place_of as held_at}
use Rattle.mpw_edges.specs.declared.run.Axis.{Axis}
use Rattle.mpw_edges.specs.declared.run.Axis.TheVariants.{V, H}
use Rattle.mpw_markers.specs.declared.marker.Line.{Line}
use Rattle.mpw_markers.specs.declared.marker.Key.{Key}
use Rattle.mpw_markers.specs.declared.marker.Marker.{Marker}
use Rattle.mpw_markers.specs.Met.{IsAscending}
use Rattle.mpw_edges.specs.Pieces.{box_on, box_of}
use Rattle.mpw_markers.specs.Markers.{line_of, line_of_key, IsFilled, HasRow, CoversRow, LiesIn}
use Rattle.mpw_markers.specs.Stitched.{IsJoined, IsListed, IsStitched}
use Rattle.mpw_geom.specs.Meeting.{IsMet}
use Rattle.mpw_markers.specs.Whole.{IsMaximal, IsMarkerOf, AreMarkersOf}
use Rattle.mpw_markers.specs.Laws.{steps_in, AreListedByCores}
use Rattle.mpw_markers.proofs.Marked.{key_on, same_key, none_below, none_above, lies_in}
use Rattle.mpw_markers.proofs.RunThrough.{run_at}

-- ---- a box and its parts

-- the box's coordinate across the rows, and that along them
abbrev InBox : Axis → (x1 x2 y0 y1 : ℤ) → Point → Type 0
InBox V x1 x2 y0 y1 p = ((x1 ≤ℤ p.x) × (p.x ≤ℤ x2)) × ((y0 ≤ℤ p.y) × (p.y ≤ℤ y1))
InBox H x1 x2 y0 y1 p = ((x1 ≤ℤ p.y) × (p.y ≤ℤ x2)) × ((y0 ≤ℤ p.x) × (p.x ≤ℤ y1))

in_box : (axis : Axis) (x1 x2 y0 y1 : ℤ) (p : Point) → has_point (box_on axis x1 x2 y0 y1) p ≡ true
    → InBox axis x1 x2 y0 y1 p
in_box V x1 x2 y0 y1 p t =
    let i = PointIn-from_test (box_on V x1 x2 y0 y1) p t in ((i.left, i.right), (i.bottom, i.top))
in_box H x1 x2 y0 y1 p t =
    let i = PointIn-from_test (box_on H x1 x2 y0 y1) p t in ((i.bottom, i.top), (i.left, i.right))

from_box : (axis : Axis) (x1 x2 y0 y1 : ℤ) (p : Point) → InBox axis x1 x2 y0 y1 p
    → has_point (box_on axis x1 x2 y0 y1) p ≡ true
from_box V x1 x2 y0 y1 p i = test_from_PointIn (box_on V x1 x2 y0 y1) p
    (record { left = i.0.0; right = i.0.1; bottom = i.1.0; top = i.1.1 })
from_box H x1 x2 y0 y1 p i = test_from_PointIn (box_on H x1 x2 y0 y1) p
    (record { left = i.1.0; right = i.1.1; bottom = i.0.0; top = i.0.1 })

-- a point of a closed box is one of a wider box
wider : (axis : Axis) (x1 x2 y0 y1 z0 z1 : ℤ) (p : Point) → z0 ≤ℤ y0 → y1 ≤ℤ z1
    → InBox axis x1 x2 y0 y1 p → InBox axis x1 x2 z0 z1 p
wider V x1 x2 y0 y1 z0 z1 p f g i =
    (i.0, (omega (arith, ints, f, i.1.0), omega (arith, ints, g, i.1.1)))
wider H x1 x2 y0 y1 z0 z1 p f g i =
    (i.0, (omega (arith, ints, f, i.1.0), omega (arith, ints, g, i.1.1)))

-- a point of a closed box lies in the closed box of one of its rows
in_a_row : (axis : Axis) (x1 x2 y0 y1 : ℤ) (p : Point) → y0 <ℤ y1 → InBox axis x1 x2 y0 y1 p
    → (j : ℤ) × (y0 ≤ℤ j) × (j <ℤ y1) × InBox axis x1 x2 j (j +ℤ pos 1) p
in_a_row V x1 x2 y0 y1 p f i = by_lt_z p.y y1
    (λ less. (p.y, i.1.0, less, (i.0, (omega (arith, ints), omega (arith, ints)))))
    (λ more. (
      y1 -ℤ pos 1,
      omega (arith, ints, f),
      omega (arith, ints),
      (i.0, (omega (arith, ints, more), omega (arith, ints, i.1.1))),
    ))
in_a_row H x1 x2 y0 y1 p f i = by_lt_z p.x y1
    (λ less. (p.x, i.1.0, less, (i.0, (omega (arith, ints), omega (arith, ints)))))
    (λ more. (
      y1 -ℤ pos 1,
      omega (arith, ints, f),
      omega (arith, ints),
      (i.0, (omega (arith, ints, more), omega (arith, ints, i.1.1))),
    ))

-- what touches the box of a marker touches that of one in which it lies
pub met_wider : (has : ℕ → Square → Type 0) (m n : Marker) (origin : ℕ) → LiesIn m n
    → IsMet has (box_of m.key.piece) origin → IsMet has (box_of n.key.piece) origin
met_wider has m n origin l t = (
  t.0,
  t.1,
  (
    t.2.0,
    t.2.1,
    let a = m.key.piece in
        let b = n.key.piece in
        let i : InBox a.axis a.x1 a.x2 a.y0 a.y1 t.2.0 = in_box a.axis a.x1 a.x2 a.y0 a.y1 t.2.0
        t.2.2 in
        let w : InBox a.axis a.x1 a.x2 b.y0 b.y1 t.2.0 = wider a.axis a.x1 a.x2 a.y0 a.y1 b.y0 b.y1
        t.2.0 l.1 l.2 i in
        from_box b.axis b.x1 b.x2 b.y0 b.y1 t.2.0
        (subst (λ (x : Line). InBox x.axis x.x1 x.x2 b.y0 b.y1 t.2.0) l.0 w),
  ),
)

-- ---- the book

-- if the parts have exactly the rows that pass, the markers of the book are the maximal runs
whole : (part : Marker → Type 0) (steps : Line → ℤ → Bool) (has : ℕ → Square → Type 0)
    (book : List Marker)
    → ((line : Line) (j : ℤ) → ((m : Marker) × part m × HasRow m line j) ↔ (steps line j ≡ true))
    → ((m : Marker) (origin : ℕ) → part m → Contains m.met origin
    ↔ IsMet has (box_of m.key.piece) origin)
    → IsJoined part book → AreMarkersOf steps has book
whole part steps has book rows met h = record { sound = sound; complete = complete }
  where
    over : (line : Line) (j : ℤ) → CoversRow book line j → steps line j ≡ true
    over line j c = (rows line j).0 ((h.rows line j).0 c)

    back : (line : Line) (j : ℤ) → steps line j ≡ true → CoversRow book line j
    back line j e = (h.rows line j).1 ((rows line j).1 e)

    met_by : (n : Marker) (origin : ℕ) → Contains book n → IsMet has (box_of n.key.piece) origin
        → Contains n.met origin
    met_by n origin c t =
        let a = n.key.piece in
        let i : InBox a.axis a.x1 a.x2 a.y0 a.y1 t.2.0 = in_box a.axis a.x1 a.x2 a.y0 a.y1 t.2.0
        t.2.2 in
        let r = in_a_row a.axis a.x1 a.x2 a.y0 a.y1 t.2.0
        (All-contains IsFilled book n h.markers.filled c) i in
        let p = (h.rows (line_of n) r.0).0 (n, c, (refl, r.1, r.2)) in
        let b = p.0.key.piece in
        let l = lies_in part book p.0 n (line_of n) r.0 h c p.1 p.2 (refl, r.1, r.2) in
        let w : InBox a.axis a.x1 a.x2 b.y0 b.y1 t.2.0 = wider a.axis a.x1 a.x2 r.0
        (r.0 +ℤ pos 1) b.y0 b.y1 t.2.0 p.2.1 (omega (arith, ints, p.2.2)) r.3 in
        let x : IsMet has (box_of p.0.key.piece) origin = (
          t.0,
          t.1,
          (
            t.2.0,
            t.2.1,
            from_box b.axis b.x1 b.x2 b.y0 b.y1 t.2.0
                (subst (λ (x : Line). InBox x.axis x.x1 x.x2 b.y0 b.y1 t.2.0) (sym l.0) w),
          ),
        ) in
        (h.met n origin c).1 (p.0, p.1, l, (met p.0 origin p.1).1 x)

    sound : (n : Marker) → Contains book n → IsMarkerOf steps has n
    sound n c = record {
      run = record {
        filled = All-contains IsFilled book n h.markers.filled c;
        rows = λ j g k. over (line_of n) j (n, c, (refl, g, k));
        below = false_from_ne_true _ (λ e. none_below book n h.markers c
            (back (line_of n) (n.key.piece.y0 -ℤ pos 1) e));
        above =
            false_from_ne_true _ (λ e. none_above book n h.markers c
            (back (line_of n) n.key.piece.y1 e));
      };
      ascending = All-contains (λ (x : Marker). IsAscending x.met) book n h.markers.ascending c;
      met = λ origin. (
        λ x. let p = (h.met n origin c).0 x in met_wider has p.0 n origin p.2
            ((met p.0 origin p.1).0 p.3),
        met_by n origin c,
      );
    }

    complete : (m : Key) → IsMaximal steps m → (n : Marker) × Contains book n × (n.key ≡ m)
    complete m k =
        let s =
        back (line_of_key m) m.piece.y0 (k.rows m.piece.y0 (omega (arith, ints)) k.filled) in
        let n : Marker = s.0 in
        let w = (sound n s.1).run in
        let first : n.key.piece.y0 ≡ m.piece.y0 = by_lt_z n.key.piece.y0 m.piece.y0
        (λ less. absurd (both_ways _ k.below
        (over (line_of_key m) (m.piece.y0 -ℤ pos 1)
        (n, s.1, (s.2.0, omega (arith, ints, less), omega (arith, ints, s.2.2))))))
        (λ more. omega (arith, ints, more, s.2.1)) in
        let last : n.key.piece.y1 ≡ m.piece.y1 = by_lt_z n.key.piece.y1 m.piece.y1
        (λ less. absurd (both_ways _ w.above
        (subst (λ (l : Line). steps l n.key.piece.y1 ≡ true) (sym s.2.0)
        (k.rows n.key.piece.y1 (omega (arith, ints, s.2.2)) less))))
        (λ more. by_lt_z m.piece.y1 n.key.piece.y1
        (λ less. absurd (both_ways _ k.above
        (over (line_of_key m) m.piece.y1 (
          n,
          s.1,
          (s.2.0, omega (arith, ints, s.2.1, k.filled), less),
        ))))
        (λ no_more. omega (arith, ints, more, no_more))) in
        (n, s.1, same_key n.key m s.2.0 first last)

-- ---- the lists of the cores

abbrev listed_at : List (List Marker) → ℕ → List Marker
listed_at lists k = get_or lists k []

pub stitched : (steps : Line → ℤ → Bool) (cores : ℕ → Line → ℤ → Bool) (has : ℕ → Square → Type 0)
    (lists : List (List Marker)) (book : List Marker)
    → AreListedByCores steps cores has lists → IsStitched lists book → AreMarkersOf steps has book
stitched steps cores has lists book a h =
    whole (IsListed lists) steps has book (λ line j. (to line j, from line j)) met h
  where
    -- the core in whose list a marker is
    at : (m : Marker) → IsListed lists m → (k : ℕ) × IsMarkerOf (steps_in steps (cores k)) has m
    at m p =
        let q = held_at lists [] p.0 p.1 in (
          q.0,
          (a.listed q.0 q.1).sound m (subst (λ (ms : List Marker). Contains ms m) (sym q.2)
              p.2),
        )

    to : (line : Line) (j : ℤ) → (m : Marker) × IsListed lists m × HasRow m line j
        → steps line j ≡ true
    to line j p =
        let q = at p.0 p.1 in
        (and_parts (steps line j) (cores q.0 line j)
        (subst (λ (l : Line). steps_in steps (cores q.0) l j ≡ true) p.2.0
        (q.1.run.rows j p.2.1 p.2.2))).0

    from : (line : Line) (j : ℤ) → steps line j ≡ true → (m : Marker) × IsListed lists m
        × HasRow m line j
    from line j e =
        let k = a.covered line j e in
        let b = a.bounded k.0 k.1 in
        let r = run_at (steps_in steps (cores k.0) line) b.0 b.1 j
        (λ i f. b.2 line i (and_parts (steps line i) (cores k.0 line i) f).1)
        (and_from (steps line j) (cores k.0 line j) e k.2) in
        let key = key_on line r.0 r.1 in
        let run = r.2 in
        let m = (a.listed k.0 k.1).complete key
        (record {
          filled = omega (arith, ints, run.low, run.high);
          rows = run.rows;
          below = run.below;
          above = run.above;
        }) in
        let low : m.0.key.piece.y0 ≡ r.0 = ap (λ (x : Key). x.piece.y0) m.2 in
        let high : m.0.key.piece.y1 ≡ r.1 = ap (λ (x : Key). x.piece.y1) m.2 in (
          m.0,
          (listed_at lists k.0, Contains-get_or lists k.0 [] k.1, m.1),
          (
            ap line_of_key m.2,
            omega (arith, ints, low, run.low),
            omega (arith, ints, high, run.high),
          ),
        )

    met : (m : Marker) (origin : ℕ) → IsListed lists m → Contains m.met origin
        ↔ IsMet has (box_of m.key.piece) origin
    met m origin p = (at m p).1.met origin
