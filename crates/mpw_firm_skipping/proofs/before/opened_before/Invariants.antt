-- The invariants of the loops of `opened_before` in `src/before.rt`.
use Rattle.std.proofs.Common.{◌≡◌, length}
use Rattle.mpw_firm_skipping.specs.Before.{opened_before, opened_until}
use Rattle.mpw_firm_skipping.proofs.before.opened_before.Given as goal

-- from what is open here, the remaining records lead to the same result
abbrev pub invariant-loop-found : goal.invariant-loop-found
invariant-loop-found l = opened_until l.offset l.opened l.finds ≡ opened_before l.text l.offset

abbrev pub decreases-loop-found : goal.decreases-loop-found
decreases-loop-found l = length l.finds
