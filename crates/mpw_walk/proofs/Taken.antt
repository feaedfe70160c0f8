-- The turns that a walk takes.
use Rattle.std.proofs.Common.{◌≡◌, ◌≤◌, suc, Bool, true, false, cond, List, [], ◌∷◌, ◌++◌, length, map, Option, Some, None, refl, sym, ap, ◌∙◌, arith}
use Rattle.std.specs.Prelude.{All, IsTrue, ◌↔◌, option_map, ◌&&◌}
use Rattle.std.specs.Int.{int_min, int_max}
use Rattle.std.proofs.lemmas.Int.{ints, clamps}
use Rattle.std.proofs.lemmas.Bool.{and_parts}
use Rattle.std.proofs.lemmas.List.Elements.{filter-append, All-head, All-tail}
use Rattle.mpw_geom.specs.declared.plane.Box2.{Box2}
use Rattle.mpw_geom.specs.declared.plane.Point.{Point}
use Rattle.mpw_geom.specs.declared.placing.Placing.{Placing}
use Rattle.mpw_geom.specs.Plane.{has_point}
use Rattle.mpw_geom.proofs.Meets.{common_point, spans_from_point}
use Rattle.mpw_geom.proofs.Tests.{le_from_test, test_from_le}
use Rattle.mpw_hier.specs.Boxes.{placed_box, item_box, extent_of}
use Rattle.mpw_hier.specs.Holding.{IsInside, IsHeld}
use Rattle.mpw_walk.specs.Internal.Extents.{ExtentsAreWalked}
use Rattle.mpw_walk.specs.Turns.{Turn, enter, give, given, placed_turn}
use Rattle.mpw_walk.specs.Window.{do_meet, is_met, turn_box, items_met, turns_met, is_taken, taken}
use Rattle.mpw_walk.proofs.Given.{given_placed}
use Rattle.mpw_walk.proofs.Held.{IsTurnIn, Holds, holds_placed, turns_held}

-- ---- boxes that touch

abbrev Meet : Box2 → Box2 → Type 0
Meet a b = (p : Point) × IsTrue (has_point a p) × IsTrue (has_point b p)

pub both : (a b : Bool) → a ≡ true → b ≡ true → a && b ≡ true
both true true e f = refl
both true false e f = f
both false b e f = e

pub meeting : (a b : Box2) → (do_meet a b ≡ true) ↔ Meet a b
unfolding do_meet
meeting a b = (
  λ h. let f = and_parts _ _ h in common_point a b f.0 f.1,
  λ h. let f = spans_from_point a b h
      in both _ _ f.0 f.1,
)

same_test : (x y : Bool) (P : Type 0) → IsTrue x ↔ P → (y ≡ true) ↔ P → x ≡ y
same_test true true P e f = refl
same_test true false P e f = sym (f.1 (e.0 refl))
same_test false true P e f = e.1 (f.0 refl)
same_test false false P e f = refl

pub told_meeting : (a b : Box2) (x : Bool) → IsTrue x ↔ Meet a b → x ≡ do_meet a b
told_meeting a b x h = same_test x (do_meet a b) (Meet a b) h (meeting a b)

wider : (a b w : Box2) → IsInside a b → do_meet a w ≡ true → do_meet b w ≡ true
unfolding do_meet
wider a b w inside h =
    let f = and_parts _ _ h in
    let x = le_from_test (int_max a.x0 w.x0) (int_min a.x1 w.x1) f.0 in
    let y = le_from_test (int_max a.y0 w.y0) (int_min a.y1 w.y1) f.1 in
    both _ _
    (test_from_le (int_max b.x0 w.x0) (int_min b.x1 w.x1)
    (omega (arith, ints, clamps, x, inside.left, inside.right)))
    (test_from_le (int_max b.y0 w.y0) (int_min b.y1 w.y1)
    (omega (arith, ints, clamps, y, inside.bottom, inside.top)))

-- what lies in a box that misses the window misses it
missed_within : (w : Box2) (inner outer : Option Box2) → IsHeld inner outer
    → is_met w outer ≡ false → is_met w inner ≡ false
missed_within w None outer h missed = refl
missed_within w (Some a) None h missed = absurd h
missed_within w (Some a) (Some b) h missed = go (do_meet a w) refl
  where
    go : (x : Bool) → do_meet a w ≡ x → x ≡ false
    go false e = refl
    go true e = sym (wider a b w h e) ∙ missed

-- ---- lists of turns

pub taken_in : (window : Option Box2) (turn : Turn) (turns : List Turn)
    → is_taken window turn ≡ true → taken window (turn ∷ turns) ≡ turn ∷ taken window turns
taken_in window turn turns e =
    ap (λ b. cond b (turn ∷ taken window turns) (taken window turns)) e

pub taken_out : (window : Option Box2) (turn : Turn) (turns : List Turn)
    → is_taken window turn ≡ false → taken window (turn ∷ turns) ≡ taken window turns
taken_out window turn turns e =
    ap (λ b. cond b (turn ∷ taken window turns) (taken window turns)) e

pub taken_append : (window : Option Box2) (a b : List Turn) → taken window (a ++ b) ≡ taken window a
    ++ taken window b
taken_append window a b = filter-append (is_taken window) a b

pub taken_few : (window : Option Box2) (turns : List Turn)
    → length (taken window turns) ≤ length turns
taken_few window [] = omega arith
taken_few window (turn ∷ turns) = go (is_taken window turn) (taken_few window turns)
  where
    go : (b : Bool) → length (taken window turns) ≤ length turns
        → length (cond b (turn ∷ taken window turns) (taken window turns)) ≤ suc (length turns)
    go true h = omega (arith, h)
    go false h = omega (arith, h)

pub taken_all : (turns : List Turn) → taken None turns ≡ turns
taken_all [] = refl
taken_all (turn ∷ turns) = ap (λ ts. turn ∷ ts) (taken_all turns)

none_taken : (w : Box2) (outer : Option Box2) → is_met w outer ≡ false → (turns : List Turn)
    → All (IsTurnIn outer) turns → taken (Some w) turns ≡ []
none_taken w outer missed [] h = refl
none_taken w outer missed (turn ∷ turns) h =
    let inside = (All-head (IsTurnIn outer) turn turns h).0 in
    taken_out (Some w) turn turns (missed_within w (turn_box turn) outer inside missed)
    ∙ none_taken w outer missed turns (All-tail (IsTurnIn outer) turn turns h)

-- the content of an instance that isn't entered
pub missed_taken : (law : ExtentsAreWalked) (window : Option Box2) (t : Placing)
    (turns : List Turn) → Holds turns
    → is_taken window (enter (option_map (placed_box t) (extent_of (given turns)))) ≡ false
    → taken window (map (placed_turn t) turns) ≡ []
missed_taken law None t turns h missed = absurd (let e : true ≡ false = missed in cc)
missed_taken law (Some w) t turns h missed =
    let there = map (placed_turn t) turns in
    let whole : extent_of (given there) ≡ option_map (placed_box t) (extent_of (given turns)) =
    ap extent_of (given_placed t turns) ∙ law.placed t (given turns) in
    none_taken w (extent_of (given there)) (ap (is_met w) whole ∙ missed) there
    (turns_held law there (holds_placed law.placed t turns h))

-- the turns that touch a window give the shapes that do
pub given_met : (w : Box2) (turns : List Turn)
    → given (turns_met w turns) ≡ items_met w (given turns)
given_met w [] = refl
given_met w (enter e ∷ turns) = go (is_met w e) (given_met w turns)
  where
    go : (b : Bool) → given (turns_met w turns) ≡ items_met w (given turns)
        → given (cond b (enter e ∷ turns_met w turns) (turns_met w turns)) ≡ items_met w
        (given turns)
    go true same = same
    go false same = same
given_met w (give i ∷ turns) = go (is_met w (item_box i)) (given_met w turns)
  where
    go : (b : Bool) → given (turns_met w turns) ≡ items_met w (given turns)
        → given (cond b (give i ∷ turns_met w turns) (turns_met w turns))
        ≡ cond b (i ∷ items_met w (given turns)) (items_met w (given turns))
    go true e = ap (λ is. i ∷ is) e
    go false e = e
