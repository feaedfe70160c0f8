-- The computed tests of pair steps, for worked examples and proofs.
use Rattle.std.specs.Prelude.{◌≡◌, ℕ, zero, suc, ℤ, pos, negsuc, ◌+ℤ◌, ◌-ℤ◌, int_le, int_lt, Bool, true, ◌&&◌, ◌||◌, not, ◌==◌, ◌↔◌}
use Rattle.mpw_deck.specs.declared.rule.Check.{Check}
use Rattle.mpw_deck.specs.declared.rule.Check.TheVariants.{Width, Space, Separation, Enclosing}
use Rattle.mpw_edges.specs.Edges.{Squares}
use Rattle.mpw_edges.specs.Steps.{IsPairStep}

abbrev pub has_rise : Squares → ℤ → ℤ → Bool
has_rise a x j = a x j && not (a (x -ℤ pos 1) j)

abbrev pub has_fall : Squares → ℤ → ℤ → Bool
has_fall a x j = a (x -ℤ pos 1) j && not (a x j)

-- the n squares of row j from x on are covered
abbrev pub all_covered : Squares → ℤ → ℤ → ℕ → Bool
all_covered a j x zero = true
all_covered a j x (suc n) = a x j && all_covered a j (x +ℤ pos 1) n

-- a number as a count, or 0 below 0
abbrev pub count_of : ℤ → ℕ
count_of (pos n) = n
count_of (negsuc n) = 0

abbrev pub has_pair : Check → Squares → Squares → ℕ → ℤ → ℤ → ℤ → Bool
has_pair (Width _) a b side x1 x2 j = (side == 0)
    && (has_rise a x1 j && (has_fall a x2 j
    && (int_lt x1 x2 && all_covered a j x1 (count_of (x2 -ℤ x1)))))
has_pair (Space _) a b side x1 x2 j =
    (side == 0) && (has_fall a x1 j && (has_rise a x2 j && int_lt x1 x2))
has_pair (Separation _ _) a b side x1 x2 j =
    int_le x1 x2 && (((side == 0) && (has_fall a x1 j && has_rise b x2 j))
    || ((side == 1) && (has_fall b x1 j && has_rise a x2 j)))
has_pair (Enclosing _ _) a b side x1 x2 j =
    int_le x1 x2 && (((side == 0) && (has_rise a x1 j && has_rise b x2 j))
    || ((side == 1) && (has_fall b x1 j && has_fall a x2 j)))

-- Whether the row has a pair step of the check from x1 to x2: `IsPairStep` as a test, which is the same by a law.
abbrev pub has_pair_step : Check → ℕ → Squares → Squares → ℕ → ℤ → ℤ → ℤ → Bool
has_pair_step check distance a b side x1 x2 j =
    has_pair check a b side x1 x2 j && int_lt (x2 -ℤ x1) (pos distance)

-- the test is true exactly for pair steps
abbrev pub TestDecidesPairSteps : Type 0
TestDecidesPairSteps =
    (check : Check) (distance : ℕ) (a b : Squares) (side : ℕ) (x1 x2 j : ℤ)
    → (has_pair_step check distance a b side x1 x2 j ≡ true)
    ↔ IsPairStep check distance a b side x1 x2 j
