-- The meaning of the code's tests of order.
use Rattle.std.proofs.Common.{◌≡◌, ℤ, ◌≤ℤ◌, ◌<ℤ◌, false, arith}
use Rattle.std.specs.Prelude.{int_le, int_lt}
use Rattle.std.proofs.lemmas.Int.{ints}

-- the result of a test of the code
pub gt_from_test : (a b : ℤ) → int_le a b ≡ false → b <ℤ a
gt_from_test a b h = grind (arith, ints)

pub ge_from_test : (a b : ℤ) → int_lt a b ≡ false → b ≤ℤ a
ge_from_test a b h = grind (arith, ints)

pub test_from_gt : (a b : ℤ) → b <ℤ a → int_le a b ≡ false
test_from_gt a b h = grind (arith, ints)
