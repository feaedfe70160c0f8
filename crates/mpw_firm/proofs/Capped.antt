-- Sums that stop at the greatest number of 64 bits.
use Rattle.std.proofs.Common.{◌≡◌, ◌+◌, ◌-◌, ◌^◌, ℕ, min, arith}
use Rattle.std.proofs.lemmas.Int.{clamps}
use Rattle.mpw_firm_outputs.specs.Counted.{capped}

pub capped_more : (a b n r : ℕ) → n ≡ capped a → r ≡ min (n + b) (2 ^ 64 - 1) → r ≡ capped (a + b)
capped_more a b n r first second = omega (arith, clamps, first, second)
