-- Pair steps: two edges in one row that a rule finds too near.
use Rattle.std.specs.Prelude.{◌≡◌, ℕ, ℤ, pos, ◌-ℤ◌, ◌≤ℤ◌, ◌<ℤ◌, ◌⊎◌, true}
use Rattle.mpw_deck.specs.declared.rule.Check.{Check}
use Rattle.mpw_deck.specs.declared.rule.Check.TheVariants.{Width, Space, Separation, Enclosing}
use Rattle.mpw_edges.specs.Edges.{Squares, IsRise, IsFall}

-- width: a rise, a fall to its right, and everything between covered
abbrev pub IsWidth : Squares → ℕ → ℤ → ℤ → ℤ → Type 0
IsWidth a side x1 x2 j = (side ≡ 0) × IsRise a x1 j × IsFall a x2 j × (x1 <ℤ x2)
    × ((i : ℤ) → x1 ≤ℤ i → i <ℤ x2 → a i j ≡ true)

-- space: a fall, and any later rise
abbrev pub IsSpace : Squares → ℕ → ℤ → ℤ → ℤ → Type 0
IsSpace a side x1 x2 j = (side ≡ 0) × IsFall a x1 j × IsRise a x2 j × (x1 <ℤ x2)

-- separation: a fall of one layer, and a rise of the other at it or later; side 0 if the first layer falls
abbrev pub IsSeparation : Squares → Squares → ℕ → ℤ → ℤ → ℤ → Type 0
IsSeparation a b side x1 x2 j = (x1 ≤ℤ x2)
    × (((side ≡ 0) × IsFall a x1 j × IsRise b x2 j) ⊎ ((side ≡ 1) × IsFall b x1 j × IsRise a x2 j))

-- enclosing: at side 0 a rise of the outer layer and one of the inner at it or later, at side 1 a fall of the inner and one of the outer
abbrev pub IsEnclosing : Squares → Squares → ℕ → ℤ → ℤ → ℤ → Type 0
IsEnclosing a b side x1 x2 j = (x1 ≤ℤ x2)
    × (((side ≡ 0) × IsRise a x1 j × IsRise b x2 j) ⊎ ((side ≡ 1) × IsFall b x1 j × IsFall a x2 j))

-- the edges at x1 and x2 in row j that the check pairs, on that side; a has the squares of its first layer, b of its second
abbrev pub IsPair : Check → Squares → Squares → ℕ → ℤ → ℤ → ℤ → Type 0
IsPair (Width _) a b = IsWidth a
IsPair (Space _) a b = IsSpace a
IsPair (Separation _ _) a b = IsSeparation a b
IsPair (Enclosing _ _) a b = IsEnclosing a b

-- those nearer than the distance
abbrev pub IsPairStep : Check → ℕ → Squares → Squares → ℕ → ℤ → ℤ → ℤ → Type 0
IsPairStep check distance a b side x1 x2 j =
    IsPair check a b side x1 x2 j × ((x2 -ℤ x1) <ℤ pos distance)
