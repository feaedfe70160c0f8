-- The tests of words.
use Rattle.std.proofs.Common.{◌≡◌, ◌≤◌, ℕ, Some, List, arith}
use Rattle.std.proofs.lemmas.Bool.Decides.{nat_tests}
use Rattle.mpw_text.specs.Text.{number_of}

-- a number that a word spells lies between the limits
pub within : (low high : ℕ) (word : List ℕ) (n : ℕ) → number_of low high word ≡ Some n
    → (low ≤ n) × (n ≤ high)
within low high word n e = grind (arith, nat_tests, e)
