-- The invariants of the loops of `first_share` in `src/unit.rt`.
use Rattle.std.proofs.Common.{◌≡◌, ◌*◌, ◌^◌, ◌-◌}
use Rattle.mpw_firm_grid.specs.Units.{first_share}
use Rattle.mpw_firm_grid.proofs.unit.first_share.Given as goal

-- none of the numbers so far is found
abbrev pub invariant-loop-parts : goal.invariant-loop-parts
invariant-loop-parts l =
    let value = l.mantissa * 16 ^ l.exponent in
    first_share value l.parts (1001 - l.parts) ≡ first_share value 1 1000
