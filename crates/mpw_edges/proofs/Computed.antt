-- The computed tests of pair steps are true exactly for pair steps.
use Rattle.std.proofs.Common.{◌≡◌, ℕ, zero, suc, ℤ, pos, negsuc, ◌+ℤ◌, ◌-ℤ◌, ◌≤ℤ◌, ◌<ℤ◌, Bool, true, false, ◌&&◌, not, ◌==◌, refl, sym, subst, arith, Decides}
use Rattle.std.specs.Prelude.{◌↔◌, int_le, int_lt}
use Rattle.std.proofs.lemmas.Int.{ints, by_lt_z}
use Rattle.std.proofs.lemmas.Bool.Decides.{Decides-and, Decides-or, Decides-like, Decides-eqb}
use Rattle.mpw_geom.proofs.Tests.{le_from_test, test_from_le, lt_from_test, test_from_lt}
use Rattle.mpw_deck.specs.declared.rule.Check.{Check}
use Rattle.mpw_deck.specs.declared.rule.Check.TheVariants.{Width, Space, Separation, Enclosing}
use Rattle.mpw_edges.specs.Edges.{Squares, IsRise, IsFall}
use Rattle.mpw_edges.specs.Steps.{IsPair, IsPairStep}
use Rattle.mpw_edges.specs.Computed.{has_rise, has_fall, all_covered, count_of, has_pair, has_pair_step}

int_le_decides : (a b : ℤ) → Decides (int_le a b) (a ≤ℤ b)
int_le_decides a b = (le_from_test a b, test_from_le a b)

int_lt_decides : (a b : ℤ) → Decides (int_lt a b) (a <ℤ b)
int_lt_decides a b = (lt_from_test a b, test_from_lt a b)

itself : (r : Bool) → Decides r (r ≡ true)
itself r = (λ e. e, λ e. e)

opposite : (r : Bool) → Decides (not r) (r ≡ false)
opposite true = (λ e. sym e, λ e. sym e)
opposite false = (λ e. refl, λ e. refl)

rise_decides : (a : Squares) (x j : ℤ) → Decides (has_rise a x j) (IsRise a x j)
rise_decides a x j =
    Decides-and (a x j) (not (a (x -ℤ pos 1) j)) (itself (a x j)) (opposite (a (x -ℤ pos 1) j))

fall_decides : (a : Squares) (x j : ℤ) → Decides (has_fall a x j) (IsFall a x j)
fall_decides a x j =
    Decides-and (a (x -ℤ pos 1) j) (not (a x j)) (itself (a (x -ℤ pos 1) j)) (opposite (a x j))

abbrev AllCovered : Squares → ℤ → ℤ → ℕ → Type 0
AllCovered a j x n = (i : ℤ) → x ≤ℤ i → i <ℤ (x +ℤ pos n) → a i j ≡ true

covered_decides : (a : Squares) (j x : ℤ) (n : ℕ)
    → Decides (all_covered a j x n) (AllCovered a j x n)
covered_decides a j x zero = (λ e i l u. absurd (omega (arith, ints, l, u)), λ h. refl)
covered_decides a j x (suc n) =
    Decides-like (a x j && all_covered a j (x +ℤ pos 1) n)
    (λ p i l u. by_lt_z x i
    (λ more. p.1 i (omega (arith, ints, more)) (omega (arith, ints, u)))
    (λ less. let e : x ≡ i = omega (arith, ints, less, l) in subst (λ (k : ℤ). a k j ≡ true) e p.0))
    (λ h. (
      h x (omega (arith, ints)) (omega (arith, ints)),
      λ i l u. h i (omega (arith, ints, l))
          (omega (arith, ints, u)),
    ))
    (Decides-and (a x j) (all_covered a j (x +ℤ pos 1) n) (itself (a x j))
    (covered_decides a j (x +ℤ pos 1) n))

count_is : (z : ℤ) → pos 0 <ℤ z → pos (count_of z) ≡ z
count_is (pos n) h = refl
count_is (negsuc n) h = absurd (omega (arith, ints, h))

end_is : (x1 x2 : ℤ) → x1 <ℤ x2 → (x1 +ℤ pos (count_of (x2 -ℤ x1))) ≡ x2
end_is x1 x2 l = let e = count_is (x2 -ℤ x1) (omega (arith, ints, l)) in omega (arith, ints, e)

three : {P Q R : Type 0} (p q r : Bool) → Decides p P → Decides q Q → Decides r R
    → Decides (p && (q && r)) (P × Q × R)
three p q r f g h = Decides-like (p && (q && r)) (λ t. (t.0, t.1.0, t.1.1)) (λ t. (t.0, (t.1, t.2)))
    (Decides-and p (q && r) f (Decides-and q r g h))

pair_decides : (check : Check) (a b : Squares) (side : ℕ) (x1 x2 j : ℤ)
    → Decides (has_pair check a b side x1 x2 j) (IsPair check a b side x1 x2 j)
pair_decides (Width k) a b side x1 x2 j =
    Decides-like (has_pair (Width k) a b side x1 x2 j)
    (λ p. (
      p.0,
      p.1.0,
      p.1.1.0,
      p.1.1.1.0,
      λ i l u. p.1.1.1.1 i l (subst (λ (z : ℤ). i <ℤ z) (sym (end_is x1 x2 p.1.1.1.0)) u),
    ))
    (λ w. (
      w.0,
      (w.1, (w.2, (w.3, λ i l u. w.4 i l (subst (λ (z : ℤ). i <ℤ z) (end_is x1 x2 w.3) u)))),
    ))
    (Decides-and (side == 0) _ (Decides-eqb side 0)
    (Decides-and (has_rise a x1 j) _ (rise_decides a x1 j)
    (Decides-and (has_fall a x2 j) _ (fall_decides a x2 j)
    (Decides-and (int_lt x1 x2) (all_covered a j x1 (count_of (x2 -ℤ x1))) (int_lt_decides x1 x2)
    (covered_decides a j x1 (count_of (x2 -ℤ x1)))))))
pair_decides (Space k) a b side x1 x2 j =
    Decides-like (has_pair (Space k) a b side x1 x2 j)
    (λ p. (p.0, p.1.0, p.1.1.0, p.1.1.1))
    (λ w. (w.0, (w.1, (w.2, w.3))))
    (Decides-and (side == 0) _ (Decides-eqb side 0)
    (Decides-and (has_fall a x1 j) _ (fall_decides a x1 j)
    (Decides-and (has_rise a x2 j) (int_lt x1 x2) (rise_decides a x2 j) (int_lt_decides x1 x2))))
pair_decides (Separation k l) a b side x1 x2 j =
    Decides-and (int_le x1 x2) _ (int_le_decides x1 x2)
    (Decides-or _ _ (three (side == 0) (has_fall a x1 j) (has_rise b x2 j) (Decides-eqb side 0)
    (fall_decides a x1 j) (rise_decides b x2 j))
    (three (side == 1) (has_fall b x1 j) (has_rise a x2 j) (Decides-eqb side 1)
    (fall_decides b x1 j) (rise_decides a x2 j)))
pair_decides (Enclosing k l) a b side x1 x2 j =
    Decides-and (int_le x1 x2) _ (int_le_decides x1 x2)
    (Decides-or _ _ (three (side == 0) (has_rise a x1 j) (has_rise b x2 j) (Decides-eqb side 0)
    (rise_decides a x1 j) (rise_decides b x2 j))
    (three (side == 1) (has_fall b x1 j) (has_fall a x2 j) (Decides-eqb side 1)
    (fall_decides b x1 j) (fall_decides a x2 j)))

pub step_decides : (check : Check) (distance : ℕ) (a b : Squares) (side : ℕ) (x1 x2 j : ℤ)
    → (has_pair_step check distance a b side x1 x2 j ≡ true)
    ↔ IsPairStep check distance a b side x1 x2 j
step_decides check distance a b side x1 x2 j =
    Decides-and (has_pair check a b side x1 x2 j) (int_lt (x2 -ℤ x1) (pos distance))
    (pair_decides check a b side x1 x2 j) (int_lt_decides (x2 -ℤ x1) (pos distance))
