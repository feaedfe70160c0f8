-- The rectangles of what touches a window have the squares of the layout there, as they are seen along an axis.
use Rattle.std.proofs.Common.{◌≡◌, ℕ, pos, ◌+ℤ◌, ◌-ℤ◌, ◌≤ℤ◌, Bool, true, false, cond, List, [], ◌∷◌, Option, inl, inr, sym, subst, ap, ◌∙◌, arith}
use Rattle.std.specs.Prelude.{Contains, filter, ◌↔◌}
use Rattle.std.specs.Int.{int_min, int_max}
use Rattle.std.proofs.lemmas.Bool.{and_from}
use Rattle.std.proofs.lemmas.Int.{ints, clamps}
use Rattle.std.proofs.lemmas.List.Elements.{All-contains, All-filter, All-contains_itself, Contains-append_right, Contains-append_cases, Contains-push_cases}
use Rattle.mpw_geom.specs.declared.plane.Box2.{Box2}
use Rattle.mpw_geom.specs.declared.plane.Layer.{Layer}
use Rattle.mpw_geom.specs.Plane.{Square, has_square, joined}
use Rattle.mpw_geom.proofs.Tests.{same_tests, test_from_le, SquareIn-from_test, test_from_SquareIn}
use Rattle.mpw_edges.specs.declared.run.Axis.{Axis}
use Rattle.mpw_edges.specs.declared.run.Axis.TheVariants.{V, H}
use Rattle.mpw_hier.specs.Items.{Item}
use Rattle.mpw_hier.specs.Boxes.{item_box}
use Rattle.mpw_walk.specs.Window.{do_meet, is_met, items_met}
use Rattle.mpw_tiles.specs.declared.listing.Rectangle.{Rectangle}
use Rattle.mpw_tiles.specs.Laws.{SquaresLieInBoxes, IsInBox}
use Rattle.mpw_tiles.specs.Placed.{IsSquareInPlane}
use Rattle.mpw_tiles.specs.Shown.{IsShown}
use Rattle.mpw_job.specs.Answers.{listed_on}
use Rattle.mpw_job.specs.Computed.{shown_on}
use Rattle.mpw_job.proofs.Shapes.{tests_tell, tests_tell_listed}
use Rattle.mpw_columns_keys.specs.Columns.{seen_box}
use Rattle.mpw_columns.specs.Seen.{seen_square, seen_on}
use Rattle.mpw_columns.specs.Internal.Found.{AgreeIn}
use Rattle.mpw_columns.specs.Internal.Listed.{ShowSeen}
use Rattle.mpw_columns.specs.Internal.Pieces.{MeetsSquaresOf, smaller}

-- ---- what a filter selects

kept : {X : Type 0} (p : X → Bool) (xs : List X) (x : X) → Contains xs x → p x ≡ true
    → Contains (filter p xs) x
kept p [] x c e = absurd (omega (arith, c.1))
kept p (y ∷ ys) x c e = elim (Contains-append_cases (y ∷ []) ys x c) [
  | inl here ↦ elim (Contains-push_cases [] y x here) [
    | inl none ↦ absurd (omega (arith, none.1))
    | inr same ↦
        let passes : p y ≡ true = ap p same ∙ e in
        subst (λ (t : Bool). Contains (cond t (y ∷ filter p ys) (filter p ys)) x) (sym passes)
        (0, omega arith, same)
  ]
  | inr there ↦ in_either (p y) (kept p ys x there e)
]
  where
    in_either : (t : Bool) → Contains (filter p ys) x
        → Contains (cond t (y ∷ filter p ys) (filter p ys)) x
    in_either true h = Contains-append_right (y ∷ []) (filter p ys) x h
    in_either false h = h

from_kept : {X : Type 0} (p : X → Bool) (xs : List X) (x : X) → Contains (filter p xs) x
    → Contains xs x
from_kept p xs x c = All-contains (Contains xs) (filter p xs) x
    (All-filter p (Contains xs) xs (All-contains_itself xs)) c

-- ---- boxes that touch

shares : (a b : Box2) (s : Square) → has_square a s ≡ true → has_square b s ≡ true
    → do_meet a b ≡ true
unfolding do_meet
shares a b s h k =
    let p = SquareIn-from_test a s h in
    let q = SquareIn-from_test b s k in
    let a0 = p.left in let a1 = p.right in let a2 = p.bottom in let a3 = p.top in
    let b0 = q.left in let b1 = q.right in let b2 = q.bottom in let b3 = q.top in
    and_from _ _
    (test_from_le (int_max a.x0 b.x0) (int_min a.x1 b.x1) (omega (arith, ints, clamps)))
    (test_from_le (int_max a.y0 b.y0) (int_min a.y1 b.y1) (omega (arith, ints, clamps)))

-- a square of a window lies in a box that is smaller by 1 on each side, or touches it
pub shares_smaller : (a b small : Box2) (s : Square) → small ≡ smaller b → small.x0 ≤ℤ small.x1
    → small.y0 ≤ℤ small.y1 → has_square b s ≡ true → has_square a s ≡ true → do_meet a small ≡ true
unfolding do_meet
shares_smaller a b small s e x y h k =
    let p = SquareIn-from_test b s h in
    let q = SquareIn-from_test a s k in
    let b0 = p.left in let b1 = p.right in let b2 = p.bottom in let b3 = p.top in
    let a0 = q.left in let a1 = q.right in let a2 = q.bottom in let a3 = q.top in
    let l : small.x0 ≡ (b.x0 +ℤ pos 1) = ap (λ (o : Box2). o.x0) e in
    let r : small.x1 ≡ (b.x1 -ℤ pos 1) = ap (λ (o : Box2). o.x1) e in
    let low : small.y0 ≡ (b.y0 +ℤ pos 1) = ap (λ (o : Box2). o.y0) e in
    let high : small.y1 ≡ (b.y1 -ℤ pos 1) = ap (λ (o : Box2). o.y1) e in
    and_from _ _
    (test_from_le (int_max a.x0 small.x0) (int_min a.x1 small.x1) (omega (arith, ints, clamps)))
    (test_from_le (int_max a.y0 small.y0) (int_min a.y1 small.y1) (omega (arith, ints, clamps)))

pub is_met_by : (window met : Box2) (o : Option Box2) (s : Square) → MeetsSquaresOf window met
    → IsInBox o s → has_square window s ≡ true → is_met met o ≡ true
is_met_by window met o s meets h k = subst (λ (x : Option Box2). is_met met x ≡ true) (sym h.is)
    (meets h.corners s k h.has)

-- what has a square of either of two boxes touches the box of both
pub meets_first : (a b : Box2) → MeetsSquaresOf a (joined a b)
meets_first a b o s h k =
    let p = SquareIn-from_test a s h in
    let l = p.left in let r = p.right in let low = p.bottom in let high = p.top in
    shares o (joined a b) s k (test_from_SquareIn (joined a b) s (record {
      left = omega (arith, ints, clamps);
      right = omega (arith, ints, clamps);
      bottom = omega (arith, ints, clamps);
      top = omega (arith, ints, clamps);
    }))

pub meets_second : (a b : Box2) → MeetsSquaresOf b (joined a b)
meets_second a b o s h k =
    let p = SquareIn-from_test b s h in
    let l = p.left in let r = p.right in let low = p.bottom in let high = p.top in
    shares o (joined a b) s k (test_from_SquareIn (joined a b) s (record {
      left = omega (arith, ints, clamps);
      right = omega (arith, ints, clamps);
      bottom = omega (arith, ints, clamps);
      top = omega (arith, ints, clamps);
    }))

pub meets_itself : (window : Box2) → MeetsSquaresOf window window
meets_itself window b s h k = shares b window s k h

pub is_met_at : (window : Box2) (o : Option Box2) (s : Square) → IsInBox o s
    → has_square window s ≡ true → is_met window o ≡ true
is_met_at window o s h k = subst (λ (x : Option Box2). is_met window x ≡ true) (sym h.is)
    (shares h.corners window s h.has k)

-- a square of the window is included if what touches the window includes it
pub shown_met : SquaresLieInBoxes → (window : Box2) (items : List Item) (layer : Layer) (origin : ℕ)
    (s : Square) → has_square window s ≡ true
    → IsShown items layer origin s ↔ IsShown (items_met window items) layer origin s
shown_met law window items layer origin s k = (
  λ h. (
    h.0,
    kept (λ (i : Item). is_met window (item_box i)) items h.0 h.1
        (is_met_at window (item_box h.0) s (law h.0 layer origin s h.2) k),
    h.2,
  ),
  λ h. (h.0, from_kept (λ (i : Item). is_met window (item_box i)) items h.0 h.1, h.2),
)

-- ---- what is listed

agree_at : SquaresLieInBoxes → (layers : List Layer) (axis : Axis) (items : List Item)
    (listed : List Rectangle) (window : Box2)
    → ((s : Square) → has_square window s ≡ true → IsSquareInPlane s)
    → ShowSeen layers axis (items_met window items) listed
    → (layer : Layer) → Contains layers layer → (s : Square) → has_square window s ≡ true
    → shown_on items layer s.column s.row
    ≡ listed_on listed layer (seen_square axis s).column (seen_square axis s).row
agree_at law layers axis items listed window plane show layer c s k = same_tests _ _
    (λ e.
    let p = (tests_tell items layer).shown s.column s.row e in
    let met = (shown_met law window items layer p.0 s k).0 p.1 in
    (tests_tell_listed listed layer).all (seen_square axis s).column (seen_square axis s).row p.0
    ((show layer p.0 s c (plane s k)).1 met))
    (λ e.
    let p = (tests_tell_listed listed layer).listed_at (seen_square axis s).column
    (seen_square axis s).row e in
    let met = (show layer p.0 s c (plane s k)).0 p.1 in
    (tests_tell items layer).all s.column s.row p.0
    ((shown_met law window items layer p.0 s k).1 met))

pub agree_listed : SquaresLieInBoxes → (layers : List Layer) (axis : Axis) (items : List Item)
    (listed : List Rectangle) (window : Box2)
    → ((s : Square) → has_square (seen_box axis window) s ≡ true → IsSquareInPlane s)
    → ShowSeen layers axis (items_met (seen_box axis window) items) listed
    → AgreeIn layers window (seen_on axis (shown_on items)) (listed_on listed)
agree_listed law layers V items listed window plane show layer c i j l u low high =
    let s : Square = record { column = i; row = j } in
    agree_at law layers V items listed window plane show layer c s (test_from_SquareIn window s
    (record { left = l; right = u; bottom = low; top = high }))
agree_listed law layers H items listed window plane show layer c i j l u low high =
    let s : Square = record { column = j; row = i } in
    agree_at law layers H items listed (seen_box H window) plane show layer c s
    (test_from_SquareIn (seen_box H window) s
    (record { left = low; right = high; bottom = l; top = u }))
