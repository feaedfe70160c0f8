-- The numbers of submissions, as a marker stores them.
use Rattle.std.specs.Prelude.{◌<◌, ℕ, List, [], AllPairs}
use Rattle.mpw_markers.specs.declared.met.Numbers.{Numbers}
use Rattle.mpw_markers.specs.declared.met.Numbers.TheVariants.{Empty, One, Two, Shared}

-- each number is less than those after it
abbrev pub IsAscending : List ℕ → Type 0
IsAscending numbers = AllPairs (λ a b. a < b) numbers

-- the numbers, wherever they are stored
abbrev pub numbers_of : Numbers → List ℕ
numbers_of Empty = []
numbers_of (One numbers) = numbers
numbers_of (Two numbers) = numbers
numbers_of (Shared numbers) = numbers.value.items
