-- Lists of boxes.
use Rattle.std.proofs.Common.{◌≡◌, ◌<ℤ◌, refl, sym, ◌∙◌, ap, subst, ◌⊎◌, inl, inr, ℕ, zero, suc, ◌<◌, length, get_or, set, ◌≤ℤ◌, Bool, true, false, ◌||◌, List, [], ◌∷◌, ◌++◌, arith, All}
use Rattle.std.specs.List.{list_any}
use Rattle.std.proofs.lemmas.Int.{ints, clamps}
use Rattle.std.proofs.lemmas.List.Elements.{All-set}
use Rattle.std.proofs.lemmas.List.Folds.{list_any-append}
use Rattle.std.proofs.lemmas.Bool.{false_from_ne_true, or_cases, or_left, or_right}
use Rattle.mpw_geom.specs.declared.plane.Box2.{Box2}
use Rattle.mpw_geom.specs.Plane.{Square, HasArea, any_has_square, has_square, joined}
use Rattle.mpw_geom.proofs.Boxes.{same_box}
use Rattle.mpw_geom.proofs.Tests.{SquareIn-from_test, test_from_SquareIn, same_tests}
use Rattle.mpw_shapes.proofs.Counts.{cases_lt_z}

or_none : (a b : Bool) → (a || (b || false)) ≡ (a || b)
or_none true b = refl
or_none false true = refl
or_none false false = refl

or_false : (a : Bool) → a ≡ (a || false)
or_false true = refl
or_false false = refl

pub any_push : (boxes : List Box2) (b : Box2) (s : Square)
    → any_has_square (boxes ++ b ∷ []) s ≡ (any_has_square boxes s || has_square b s)
unfolding any_has_square
any_push boxes b s = list_any-append (λ b. has_square b s) boxes (b ∷ [])
    ∙ or_none (list_any (λ b. has_square b s) boxes) (has_square b s)

-- a box without area has no square
pub empty_box : (b : Box2) (s : Square) → ((b.x1 ≤ℤ b.x0) ⊎ (b.y1 ≤ℤ b.y0)) → has_square b s ≡ false
empty_box b s e =
    false_from_ne_true (has_square b s) (λ h.
    let i = SquareIn-from_test b s h in
    elim e [
      | inl x ↦ omega (arith, ints, i.left, i.right)
      | inr y
          ↦ omega (arith, ints, i.bottom, i.top)
    ])

pub any_push_empty : (boxes : List Box2) (b : Box2) (s : Square) → ((b.x1 ≤ℤ b.x0) ⊎ (b.y1 ≤ℤ b.y0))
    → any_has_square boxes s ≡ (any_has_square boxes s || has_square b s)
any_push_empty boxes b s e = or_false (any_has_square boxes s) ∙ rw (empty_box b s e)

-- a box with the rows of the box below it has the squares of both
joined_boxes : (lower upper both : Box2) (s : Square) → HasArea lower → HasArea upper
    → lower.x0 ≡ upper.x0 → lower.x1 ≡ upper.x1 → lower.y1 ≡ upper.y0
    → both ≡ record { x0 = upper.x0; y0 = lower.y0; x1 = upper.x1; y1 = upper.y1 }
    → has_square both s ≡ (has_square lower s || has_square upper s)
joined_boxes lower upper both s a b e f g is =
    let whole : Box2 = record { x0 = upper.x0; y0 = lower.y0; x1 = upper.x1; y1 = upper.y1 } in
    ap (λ (x : Box2). has_square x s) is
    ∙ same_tests (has_square whole s) (has_square lower s || has_square upper s)
    (λ h.
    let i = SquareIn-from_test whole s h in
    elim (cases_lt_z s.row lower.y1) [
      | inl below ↦ or_left (has_square lower s) (has_square upper s)
          (test_from_SquareIn lower s (record {
            left = omega (arith, ints, i.left);
            right = omega (arith, ints, i.right);
            bottom = i.bottom;
            top = below;
          }))
      | inr above ↦ or_right (has_square lower s) (has_square upper s)
          (test_from_SquareIn upper s (record
          { left = i.left; right = i.right; bottom = omega (arith, ints, g); top = i.top }))
    ])
    (λ h.
    elim (or_cases (has_square lower s) (has_square upper s) h) [
      | inl l ↦
          let i = SquareIn-from_test lower s l in
          test_from_SquareIn whole s (record {
            left = omega (arith, ints, i.left);
            right = omega (arith, ints, i.right);
            bottom = i.bottom;
            top = omega (arith, ints, i.top, b.height, g);
          })
      | inr u ↦
          let i = SquareIn-from_test upper s u in
          test_from_SquareIn whole s (record {
            left = i.left;
            right = i.right;
            bottom = omega (arith, ints, i.bottom, a.height, g);
            top = i.top;
          })
    ])

joined_area : (lower upper both : Box2) → HasArea lower → HasArea upper → lower.y1 ≡ upper.y0
    → both ≡ record { x0 = upper.x0; y0 = lower.y0; x1 = upper.x1; y1 = upper.y1 } → HasArea both
joined_area lower upper both a b g is =
    rw is (record { width = b.width; height = omega (arith, ints, a.height, b.height, g) })

or_swap : (a b c : Bool) → ((a || b) || c) ≡ ((a || c) || b)
or_swap true b c = refl
or_swap false true true = refl
or_swap false true false = refl
or_swap false false true = refl
or_swap false false false = refl

any_first : (p : Box2 → Bool) (x : Box2) (xs : List Box2) (y : Box2) (b : Bool) → p y ≡ (p x || b)
    → (p y || list_any p xs) ≡ ((p x || list_any p xs) || b)
any_first p x xs y b h = rw h (or_swap (p x) b (list_any p xs))

or_group : (a b c : Bool) → (a || (b || c)) ≡ ((a || b) || c)
or_group true b c = refl
or_group false b c = refl

-- one box of a list is replaced by one with more squares
list_any-set : (p : Box2 → Bool) (xs : List Box2) (k : ℕ) (y d : Box2) (b : Bool) → k < length xs
    → p y ≡ (p (get_or xs k d) || b) → list_any p (set xs k y) ≡ (list_any p xs || b)
list_any-set p [] k y d b h e = absurd (omega (arith, h))
list_any-set p (x ∷ xs) zero y d b h e = any_first p x xs y b e
list_any-set p (x ∷ xs) (suc k) y d b h e =
    rw (list_any-set p xs k y d b (omega (arith, h)) e) (or_group (p x) (list_any p xs) b)

any-set : (boxes : List Box2) (k : ℕ) (y d : Box2) (b : Bool) (s : Square) → k < length boxes
    → has_square y s ≡ (has_square (get_or boxes k d) s || b)
    → any_has_square (set boxes k y) s ≡ (any_has_square boxes s || b)
unfolding any_has_square
any-set boxes k y d b s h e = list_any-set (λ x. has_square x s) boxes k y d b h e

area_at : (boxes : List Box2) (k : ℕ) (b : Box2) → All HasArea boxes → k < length boxes
    → b ≡ get_or boxes k b → HasArea b
area_at boxes k b all h e = subst HasArea (sym e) (all k b h)

-- the least box that contains both, if one lies on the other and has the same width
stacked_is : (lower upper both : Box2) → HasArea lower → HasArea upper → lower.x0 ≡ upper.x0
    → lower.x1 ≡ upper.x1 → lower.y1 ≡ upper.y0 → both ≡ joined lower upper
    → both ≡ record { x0 = upper.x0; y0 = lower.y0; x1 = upper.x1; y1 = upper.y1 }
stacked_is lower upper both a b e f g is =
    is ∙ same_box _ _ (omega (arith, ints, clamps, e)) (omega (arith, ints, clamps, a.height, g))
    (omega (arith, ints, clamps, f)) (omega (arith, ints, clamps, b.height, g))

-- a box is replaced by one that also has the squares of another
pub record Stacks (boxes : List Box2) (k : ℕ) (upper both : Box2) : Type 0 where
  pub squares : (s : Square)
      → any_has_square (set boxes k both) s ≡ (any_has_square boxes s || has_square upper s)
  pub area : All HasArea (set boxes k both)

pub stacks : (boxes : List Box2) (k : ℕ) (lower upper both : Box2) → k < length boxes
    → All HasArea boxes → lower ≡ get_or boxes k lower → upper.y0 <ℤ upper.y1
    → lower.x0 ≡ upper.x0 → lower.x1 ≡ upper.x1 → lower.y1 ≡ upper.y0
    → both ≡ joined lower upper → Stacks boxes k upper both
stacks boxes k lower upper both h all at high e f g is =
    let a = area_at boxes k lower all h at in
    let b : HasArea upper =
    record { width = omega (arith, ints, a.width, e, f); height = high } in
    let i = stacked_is lower upper both a b e f g is in
    record {
      squares = λ s. any-set boxes k both lower (has_square upper s) s h
          (rw (sym at) (joined_boxes lower upper both s a b e f g i));
      area = All-set HasArea boxes k both (joined_area lower upper both a b g i) all;
    }
