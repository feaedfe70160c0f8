-- The invariants of the loops of `kind_before` in `src/before.rt`.
use Rattle.std.proofs.Common.{◌≡◌, length}
use Rattle.mpw_firm_skipping.specs.Before.{kind_before, kind_until}
use Rattle.mpw_firm_skipping.proofs.before.kind_before.Given as goal

-- from the type so far, the remaining records lead to the same result
abbrev pub invariant-loop-found : goal.invariant-loop-found
invariant-loop-found l = kind_until l.offset l.last l.finds ≡ kind_before l.text l.offset

abbrev pub decreases-loop-found : goal.decreases-loop-found
decreases-loop-found l = length l.finds
