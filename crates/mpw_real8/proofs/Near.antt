-- A search through numbers of nanometres, one step at a time.
use Rattle.std.proofs.Common.{◌≡◌, ℕ, zero, suc, ◌+◌, ◌<◌, true, false, Some, None, refl, arith}
use Rattle.mpw_real8.specs.Real.{is_nanometres, first_near}

pub found : (value from count : ℕ) → 0 < count → is_nanometres value from ≡ true
    → first_near value from count ≡ Some from
unfolding first_near
found value from zero h e = absurd (omega arith)
found value from (suc count) h e = rw e refl

pub goes_on : (value from count rest : ℕ) → count ≡ rest + 1 → is_nanometres value from ≡ false
    → first_near value from count ≡ first_near value (from + 1) rest
unfolding first_near
goes_on value from zero rest h e = absurd (omega arith)
goes_on value from (suc count) rest h e = let same : count ≡ rest = omega arith in rw (e, same) refl

pub none_left : (value from count : ℕ) → count ≡ 0 → first_near value from count ≡ None
unfolding first_near
none_left value from count h = rw h refl
