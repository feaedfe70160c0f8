-- The invariants of the loops of `structures_of` in `src/standing.rt`.
use Rattle.std.proofs.Common.{◌≡◌, ◌++◌, length}
use Rattle.mpw_firm_skipping.specs.Structures.{structures_in, structures_of}
use Rattle.mpw_firm_skipping.proofs.standing.structures_of.Given as goal

-- with those in the remaining records these are all
abbrev pub invariant-loop-found : goal.invariant-loop-found
invariant-loop-found l =
    l.spans.items ++ structures_in l.standing l.finds ≡ structures_of l.text

abbrev pub decreases-loop-found : goal.decreases-loop-found
decreases-loop-found l = length l.finds
