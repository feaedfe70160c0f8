-- Edges of a layer's unit squares, row by row.
use Rattle.std.specs.Prelude.{◌≡◌, ℤ, pos, ◌-ℤ◌, Bool, true, false}

-- a set of unit squares, by the test of the square from (i, j) to (i + 1, j + 1)
abbrev pub Squares : Type 0
Squares = ℤ → ℤ → Bool

-- the squares with their coordinates exchanged
abbrev pub exchanged : Squares → Squares
exchanged squares i j = squares j i

-- a rise at x in row j: the square at x is covered, the one before isn't
abbrev pub IsRise : Squares → ℤ → ℤ → Type 0
IsRise squares x j = (squares x j ≡ true) × (squares (x -ℤ pos 1) j ≡ false)

-- a fall at x in row j: the square before x is covered, the one at x isn't
abbrev pub IsFall : Squares → ℤ → ℤ → Type 0
IsFall squares x j = (squares (x -ℤ pos 1) j ≡ true) × (squares x j ≡ false)
