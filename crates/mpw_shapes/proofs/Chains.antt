-- Counts along a chain of points.
use Rattle.std.proofs.Common.{◌≡◌, refl, ◌∙◌, ℕ, suc, ◌+◌, ◌-◌, ◌<◌, ◌≤ℤ◌, ℤ, pos, Bool, true, false, ◌&&◌, cond, arith, List, [], ◌∷◌, ◌++◌, length, get_or, take, All, Contains, count_by, map}
use Rattle.std.specs.Prelude.{int_le, int_lt}
use Rattle.std.proofs.lemmas.Int.{ints}
use Rattle.std.proofs.lemmas.Bool.{and_parts, false_from_ne_true}
use Rattle.std.proofs.Math.Numerals.{sub-one}
use Rattle.std.proofs.lemmas.List.Elements.{All-nil, All-push}
use Rattle.std.proofs.lemmas.List.{take_all, take_more, length-map, get_or-map}
use Rattle.std.proofs.lemmas.List.Sums.{sum_by_push}
use Rattle.mpw_geom.proofs.Tests.{le_from_test, lt_from_test}
use Rattle.mpw_geom.specs.declared.plane.Point.{Point}
use Rattle.mpw_geom.specs.Plane.{Square}
use Rattle.mpw_structures.specs.Element.{closed}
use Rattle.mpw_shapes.specs.declared.edge.Edge.{Edge}
use Rattle.mpw_shapes.specs.Boundary.{count_steps, rises_across, upward, downward}
use Rattle.mpw_shapes.specs.Internal.Edges.{HasEndsAmong, rises_in, falls_in, rises_left, falls_left}

-- the last point of a chain
abbrev pub last_of : Point → List Point → Point
last_of p [] = p
last_of p (q ∷ ps) = last_of q ps

pub last_of_push : (p : Point) (ps : List Point) (q : Point) → last_of p (ps ++ q ∷ []) ≡ q
last_of_push p [] q = refl
last_of_push p (r ∷ ps) q = last_of_push r ps q

-- a chain with one more point
pub count_steps_push : (test : Point → Point → Bool) (p : Point) (ps : List Point) (q : Point)
    → count_steps test (p ∷ (ps ++ q ∷ [])) ≡ count_steps test (p ∷ ps) + cond
    (test (last_of p ps) q) 1 0
unfolding count_steps
count_steps_push test p [] q = omega arith
count_steps_push test p (r ∷ ps) q = omega (arith, count_steps_push test r ps q)

-- the closed chain, begun at its closing step
pub count_steps_closed : (test : Point → Point → Bool) (p : Point) (ps : List Point)
    → count_steps test (last_of p ps ∷ (p ∷ ps)) ≡ count_steps test (closed (p ∷ ps))
unfolding count_steps
count_steps_closed test p ps = omega (arith, count_steps_push test p ps p)

pub read_last : (p : Point) (ps : List Point) (d : Point)
    → get_or (p ∷ ps) (length ps) d ≡ last_of p ps
read_last p [] d = refl
read_last p (q ∷ ps) d = read_last q ps d

abbrev pub no_point : Point
no_point = record { x = pos 0; y = pos 0 }

abbrev pub last_corner : List Point → Point
last_corner corners = get_or corners (length corners - 1) no_point

abbrev pub heights_of : List Point → List ℤ
heights_of corners = map (λ p. p.y) corners

pub height_at : (corners : List Point) (k : ℕ) → k < length corners
    → Contains (heights_of corners) (get_or corners k no_point).y
height_at corners k h =
    let m : k < length (heights_of corners) =
    omega (arith, length-map corners (λ (p : Point). p.y)) in
    (k, m, get_or-map (λ (p : Point). p.y) corners k no_point (get_or corners k no_point).y h)

-- k corners were taken after the last one
pub record Taken (corners : List Point) (k : ℕ) (from : Point) (edges : List Edge) : Type 0 where
  pub from_is : from ≡ last_of (last_corner corners) (take k corners)
  pub up : (s : Square) → count_by (rises_left s) edges ≡ count_steps (λ p q. rises_across s p q)
      (last_corner corners ∷ take k corners)
  pub down : (s : Square) → count_by (falls_left s) edges ≡ count_steps (λ p q. rises_across s q p)
      (last_corner corners ∷ take k corners)
  pub ends : All (HasEndsAmong (heights_of corners)) edges
  pub within : Contains (heights_of corners) from.y

pub taken_none : (corners : List Point) → 0 < length corners
    → Taken corners 0 (last_corner corners) []
unfolding count_steps
taken_none corners h = record {
  from_is = refl;
  up = λ s. refl;
  down = λ s. refl;
  ends = All-nil (HasEndsAmong (heights_of corners));
  within = height_at corners (length corners - 1) (omega arith);
}

pub taken_more : (corners : List Point) (k : ℕ) (from to : Point) (edges new : List Edge)
    → Taken corners k from edges → k < length corners → to ≡ get_or corners k no_point
    → ((s : Square)
    → count_by (rises_left s) new
    ≡ count_by (rises_left s) edges + cond (rises_across s from to) 1 0)
    → ((s : Square)
    → count_by (falls_left s) new
    ≡ count_by (falls_left s) edges + cond (rises_across s to from) 1 0)
    → ((heights : List ℤ) → Contains heights from.y → Contains heights to.y
    → All (HasEndsAmong heights) edges → All (HasEndsAmong heights) new)
    → Taken corners (k + 1) to new
taken_more corners k from to edges new t h e up down ends =
    let more : take (k + 1) corners ≡ take k corners ++ to
    ∷ [] = rw e (take_more corners k no_point h) in
    let here : Contains (heights_of corners) to.y = rw e (height_at corners k h) in
    record {
      from_is = rw (more, last_of_push (last_corner corners) (take k corners) to);
      up = λ s. up s ∙ rw (
        t.up s,
        more,
        count_steps_push (λ p q. rises_across s p q)
            (last_corner corners) (take k corners) to,
        ← t.from_is,
      );
      down = λ s. down s ∙ rw (
        t.down s,
        more,
        count_steps_push (λ p q. rises_across s q p)
            (last_corner corners) (take k corners) to,
        ← t.from_is,
      );
      ends = ends (heights_of corners) t.within here t.ends;
      within = here;
    }

steps_all : (test : Point → Point → Bool) (corners : List Point) → 0 < length corners
    → count_steps test (last_corner corners ∷ corners) ≡ count_steps test (closed corners)
steps_all test [] h = absurd (omega arith)
steps_all test (p ∷ ps) h =
    let e : last_corner (p ∷ ps) ≡ last_of p ps = rw (sub-one (suc (length ps)))
    (read_last p ps no_point) in
    rw e (count_steps_closed test p ps)

pub taken_up : (corners : List Point) (from : Point) (edges : List Edge)
    → Taken corners (length corners) from edges → 0 < length corners → (s : Square)
    → count_by (rises_left s) edges ≡ upward corners s
unfolding upward
taken_up corners from edges t h s =
    t.up s ∙ rw (take_all (length corners) corners (omega arith))
    (steps_all (λ p q. rises_across s p q) corners h)

pub taken_down : (corners : List Point) (from : Point) (edges : List Edge)
    → Taken corners (length corners) from edges → 0 < length corners → (s : Square)
    → count_by (falls_left s) edges ≡ downward corners s
unfolding downward
taken_down corners from edges t h s =
    t.down s ∙ rw (take_all (length corners) corners (omega arith))
    (steps_all (λ p q. rises_across s q p) corners h)

-- the edge upwards from p to q
abbrev pub edge_up : Point → Point → Edge
edge_up p q = record { x = p.x; low = p.y; high = q.y; is_up = true }

abbrev pub edge_down : Point → Point → Edge
edge_down q p = record { x = q.x; low = q.y; high = p.y; is_up = false }

pub not_rising : (s : Square) (p q : Point) → q.y ≤ℤ p.y → rises_across s p q ≡ false
unfolding rises_across
not_rising s p q h =
    false_from_ne_true (int_le p.x s.column && (int_le p.y s.row && int_lt s.row q.y)) (λ t.
    let a = and_parts (int_le p.x s.column) (int_le p.y s.row && int_lt s.row q.y) t in
    let b = and_parts (int_le p.y s.row) (int_lt s.row q.y) a.1 in
    let u = le_from_test p.y s.row b.0 in
    let v = lt_from_test s.row q.y b.1 in
    omega (arith, ints))

and_nothing : (b : Bool) → (b && false) ≡ false
and_nothing true = refl
and_nothing false = refl

count_push : (f : Edge → Bool) (edges : List Edge) (e : Edge) (b : Bool) → f e ≡ b
    → count_by f (edges ++ e ∷ []) ≡ count_by f edges + cond b 1 0
count_push f edges e b h = sum_by_push (λ x. cond (f x) 1 0) edges e ∙ rw h

pub up_pushed_up : (edges new : List Edge) (p q : Point) (e : Edge) (s : Square) → e ≡ edge_up p q
    → new ≡ edges ++ e ∷ [] → count_by (rises_left s) new ≡ count_by (rises_left s) edges + cond
    (rises_across s p q) 1 0
unfolding rises_left rises_in rises_across
up_pushed_up edges new p q e s h k =
    rw (k, h) (count_push (rises_left s) edges (edge_up p q) (rises_across s p q) refl)

pub up_pushed_down : (edges new : List Edge) (p q : Point) (e : Edge) (s : Square) → e ≡ edge_up p q
    → new ≡ edges ++ e ∷ [] → p.y ≤ℤ q.y
    → count_by (falls_left s) new ≡ count_by (falls_left s) edges + cond (rises_across s q p) 1 0
unfolding falls_left falls_in
up_pushed_down edges new p q e s h k l =
    rw (k, h, not_rising s q p l) (count_push (falls_left s) edges (edge_up p q) false
    (and_nothing (int_le p.x s.column)))

pub down_pushed_up : (edges new : List Edge) (p q : Point) (e : Edge) (s : Square)
    → e ≡ edge_down q p → new ≡ edges ++ e ∷ [] → q.y ≤ℤ p.y
    → count_by (rises_left s) new ≡ count_by (rises_left s) edges + cond (rises_across s p q) 1 0
unfolding rises_left rises_in
down_pushed_up edges new p q e s h k l =
    rw (k, h, not_rising s p q l) (count_push (rises_left s) edges (edge_down q p) false
    (and_nothing (int_le q.x s.column)))

pub down_pushed_down : (edges new : List Edge) (p q : Point) (e : Edge) (s : Square)
    → e ≡ edge_down q p → new ≡ edges ++ e ∷ []
    → count_by (falls_left s) new ≡ count_by (falls_left s) edges + cond (rises_across s q p) 1 0
unfolding falls_left falls_in rises_across
down_pushed_down edges new p q e s h k =
    rw (k, h) (count_push (falls_left s) edges (edge_down q p) (rises_across s q p) refl)

pub none_pushed : (n : ℕ) (s : Square) (p q : Point) → q.y ≤ℤ p.y
    → n ≡ n + cond (rises_across s p q) 1 0
none_pushed n s p q h = rw (not_rising s p q h) (omega arith)

pub ends_pushed : (heights : List ℤ) (edges new : List Edge) (e : Edge) (low high : ℤ)
    → new ≡ edges ++ e ∷ [] → e.low ≡ low → e.high ≡ high → Contains heights low
    → Contains heights high → All (HasEndsAmong heights) edges → All (HasEndsAmong heights) new
ends_pushed heights edges new e low high k u v l h all =
    rw k (All-push (HasEndsAmong heights) edges e all (rw (u, v) (l, h)))

pub upward_none : (corners : List Point) (s : Square) → length corners ≡ 0 → upward corners s ≡ 0
unfolding upward count_steps
upward_none [] s h = refl
upward_none (p ∷ ps) s h = absurd (omega (arith, h))

pub downward_none : (corners : List Point) (s : Square) → length corners ≡ 0
    → downward corners s ≡ 0
unfolding downward count_steps
downward_none [] s h = refl
downward_none (p ∷ ps) s h = absurd (omega (arith, h))
