-- The invariants of the loops of `nearest` in `src/real8.rt`.
use Rattle.std.proofs.Common.{◌≡◌, ◌*◌, ◌^◌, ◌-◌}
use Rattle.mpw_real8.specs.Real.{first_near}
use Rattle.mpw_real8.proofs.real8.nearest.Given as goal

-- none of the numbers so far is near
abbrev pub invariant-loop-number : goal.invariant-loop-number
invariant-loop-number l =
    let value = l.mantissa * 16 ^ l.exponent in
    first_near value l.number (1001 - l.number) ≡ first_near value 1 1000
