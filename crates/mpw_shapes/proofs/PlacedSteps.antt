-- A step of a boundary that is mirrored, turned or displaced, by tests of order.
use Rattle.std.proofs.Common.{◌≡◌, ◌⊎◌, inl, inr, refl, sym, ap, ◌+◌, ◌≤ℤ◌, ◌<ℤ◌, ℤ, pos, ◌+ℤ◌, ◌-ℤ◌, Bool, true, false, not, ◌&&◌, cond, arith, neg_ℤ, true≢false}
use Rattle.std.specs.Prelude.{int_lt, int_le}
use Rattle.std.specs.Ordering.{int_eq}
use Rattle.std.proofs.lemmas.Int.{ints}
use Rattle.std.proofs.lemmas.Bool.{or_cases}
use Rattle.std.proofs.lemmas.Bool.Decides.{Decides-int_eq}
use Rattle.mpw_geom.specs.declared.plane.Point.{Point}
use Rattle.mpw_geom.specs.Plane.{Square}
use Rattle.mpw_geom.specs.Placing.{mirrored_point, mirrored_square, turned_point, turned_square, moved_point, moved_square}
use Rattle.mpw_geom.proofs.Tests.{le_from_test, test_from_le, lt_from_test, test_from_lt, same_tests}
use Rattle.mpw_structures.specs.Element.{is_manhattan_step}
use Rattle.mpw_shapes.specs.Boundary.{rises_across}

-- ---- tests of order

le_or_gt : (a b : ℤ) → int_lt a b ≡ not (int_le b a)
le_or_gt a b =
    elim (int_le b a) as (λ t. (int_le b a ≡ t) → int_lt a b ≡ not t) [
      | true ↦ λ h. let k = le_from_test b a h in not_lt a b k
      | false ↦ λ h. is_lt' a b h
    ] refl
  where
    not_lt : (a b : ℤ) → b ≤ℤ a → int_lt a b ≡ false
    not_lt a b h = grind (arith, ints)

    is_lt' : (a b : ℤ) → int_le b a ≡ false → int_lt a b ≡ true
    is_lt' a b h = grind (arith, ints)

same_le : (a b c d : ℤ) → (a ≤ℤ b → c ≤ℤ d) → (c ≤ℤ d → a ≤ℤ b) → int_le a b ≡ int_le c d
same_le a b c d f g =
    same_tests (int_le a b) (int_le c d) (λ h. test_from_le c d (f (le_from_test a b h)))
    (λ h. test_from_le a b (g (le_from_test c d h)))

same_lt_le : (a b c d : ℤ) → (a <ℤ b → c ≤ℤ d) → (c ≤ℤ d → a <ℤ b) → int_lt a b ≡ int_le c d
same_lt_le a b c d f g =
    same_tests (int_lt a b) (int_le c d) (λ h. test_from_le c d (f (lt_from_test a b h)))
    (λ h. test_from_lt a b (g (le_from_test c d h)))

same_le_lt : (a b c d : ℤ) → (a ≤ℤ b → c <ℤ d) → (c <ℤ d → a ≤ℤ b) → int_le a b ≡ int_lt c d
same_le_lt a b c d f g =
    same_tests (int_le a b) (int_lt c d) (λ h. test_from_lt c d (f (le_from_test a b h)))
    (λ h. test_from_le a b (g (lt_from_test c d h)))

same_lt : (a b c d : ℤ) → (a <ℤ b → c <ℤ d) → (c <ℤ d → a <ℤ b) → int_lt a b ≡ int_lt c d
same_lt a b c d f g =
    same_tests (int_lt a b) (int_lt c d) (λ h. test_from_lt c d (f (lt_from_test a b h)))
    (λ h. test_from_lt a b (g (lt_from_test c d h)))

-- ---- a step by four tests: its points lie left of the column's end, and above the row

abbrev pub left : Square → Point → Bool
left s p = int_le p.x s.column

abbrev pub above : Square → Point → Bool
above s p = int_lt s.row p.y

pub rises_by_tests : (s : Square) (p q : Point)
    → rises_across s p q ≡ (left s p && (not (above s p) && above s q))
unfolding rises_across
rises_by_tests s p q = rw (le_or_gt s.row p.y)
    (ap (λ (b : Bool). left s p && (b && above s q)) (twice (int_le p.y s.row)))
  where
    twice : (b : Bool) → b ≡ not (not b)
    twice true = refl
    twice false = refl

pub turned_by_tests : (s : Square) (p q : Point)
    → rises_across (turned_square s) (turned_point p) (turned_point q)
    ≡ (above s p && (left s p && not (left s q)))
unfolding rises_across
turned_by_tests s p q =
    rw (
      same_le_lt (neg_ℤ p.y) (neg_ℤ s.row -ℤ pos 1) s.row p.y (λ h. omega (arith, ints))
          (λ h. omega (arith, ints)),
      le_or_gt s.column q.x,
    )

pub mirrored_by_tests : (s : Square) (p q : Point)
    → rises_across (mirrored_square s) (mirrored_point p) (mirrored_point q)
    ≡ (left s p && (above s p && not (above s q)))
unfolding rises_across
mirrored_by_tests s p q =
    rw (
      same_le_lt (neg_ℤ p.y) (neg_ℤ s.row -ℤ pos 1) s.row p.y (λ h. omega (arith, ints))
          (λ h. omega (arith, ints)),
      same_lt_le (neg_ℤ s.row -ℤ pos 1) (neg_ℤ q.y) q.y s.row (λ h. omega (arith, ints))
          (λ h. omega (arith, ints)),
      le_or_gt s.row q.y,
    )
    (ap (λ (b : Bool). left s p && (above s p && b)) (twice (int_le q.y s.row)))
  where
    twice : (b : Bool) → b ≡ not (not b)
    twice true = refl
    twice false = refl

pub moved_rises : (d : Point) (s : Square) (p q : Point)
    → rises_across (moved_square d s) (moved_point d p) (moved_point d q) ≡ rises_across s p q
unfolding rises_across
moved_rises d s p q =
    rw (
      same_le (p.x +ℤ d.x) (s.column +ℤ d.x) p.x s.column (λ h. omega (arith, ints))
          (λ h. omega (arith, ints)),
      same_le (p.y +ℤ d.y) (s.row +ℤ d.y) p.y s.row
          (λ h. omega (arith, ints)) (λ h. omega (arith, ints)),
      same_lt (s.row +ℤ d.y) (q.y +ℤ d.y)
          s.row q.y (λ h. omega (arith, ints)) (λ h. omega (arith, ints)),
    )

-- a step is vertical or horizontal
pub same_side : (s : Square) (p q : Point) → is_manhattan_step p q ≡ true → (left s p ≡ left s q)
    ⊎ (above s p ≡ above s q)
same_side s p q h =
    elim (or_cases (int_eq p.x q.x) (int_eq p.y q.y) h) [
      | inl e ↦ inl (ap (λ (x : ℤ). int_le x s.column) ((Decides-int_eq p.x q.x).0 e))
      | inr e ↦ inr (ap (λ (y : ℤ). int_lt s.row y) ((Decides-int_eq p.y q.y).0 e))
    ]

pub turn_bits : (a b c d : Bool) → (a ≡ b) ⊎ (c ≡ d)
    → cond (c && (a && not b)) 1 0 + cond (b && (not d && c)) 1 0 + cond (d && b) 1 0
    ≡ cond (a && (not c && d)) 1 0 + cond (d && (b && not a)) 1 0 + cond (c && a) 1 0
turn_bits true true true true h = refl
turn_bits true true true false h = refl
turn_bits true true false true h = refl
turn_bits true true false false h = refl
turn_bits true false true true h = refl
turn_bits true false true false h =
    elim h [ inl e ↦ absurd (true≢false e) | inr e ↦ absurd (true≢false e) ]
turn_bits true false false true h =
    elim h [ inl e ↦ absurd (true≢false e) | inr e ↦ absurd (true≢false (sym e)) ]
turn_bits true false false false h = refl
turn_bits false true true true h = refl
turn_bits false true true false h =
    elim h [ inl e ↦ absurd (true≢false (sym e)) | inr e ↦ absurd (true≢false e) ]
turn_bits false true false true h =
    elim h [ inl e ↦ absurd (true≢false (sym e)) | inr e ↦ absurd (true≢false (sym e)) ]
turn_bits false true false false h = refl
turn_bits false false true true h = refl
turn_bits false false true false h = refl
turn_bits false false false true h = refl
turn_bits false false false false h = refl

pub mirror_bits : (a b c d : Bool) → (a ≡ b) ⊎ (c ≡ d) → (a && (c && not d)) ≡ (b && (not d && c))
mirror_bits true true true true h = refl
mirror_bits true true true false h = refl
mirror_bits true true false true h = refl
mirror_bits true true false false h = refl
mirror_bits true false true true h = refl
mirror_bits true false true false h =
    elim h [ inl e ↦ absurd (true≢false e) | inr e ↦ absurd (true≢false e) ]
mirror_bits true false false true h =
    elim h [ inl e ↦ absurd (true≢false e) | inr e ↦ absurd (true≢false (sym e)) ]
mirror_bits true false false false h = refl
mirror_bits false true true true h = refl
mirror_bits false true true false h =
    elim h [ inl e ↦ absurd (true≢false (sym e)) | inr e ↦ absurd (true≢false e) ]
mirror_bits false true false true h =
    elim h [ inl e ↦ absurd (true≢false (sym e)) | inr e ↦ absurd (true≢false (sym e)) ]
mirror_bits false true false false h = refl
mirror_bits false false true true h = refl
mirror_bits false false true false h = refl
mirror_bits false false false true h = refl
mirror_bits false false false false h = refl
