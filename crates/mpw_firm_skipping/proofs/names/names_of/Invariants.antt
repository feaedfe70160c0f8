-- The invariants of the loops of `names_of` in `src/names.rt`.
use Rattle.std.proofs.Common.{◌≡◌, ◌++◌, length, map}
use Rattle.mpw_firm_skipping.specs.Names.{names_in, names_of}
use Rattle.mpw_firm_skipping.proofs.names.names_of.Given as goal

-- with those in the remaining records these are all
abbrev pub invariant-loop-found : goal.invariant-loop-found
invariant-loop-found l =
    map (λ n. n.now) l.names.items ++ names_in l.kind l.opened l.finds ≡ names_of l.kind l.text

abbrev pub decreases-loop-found : goal.decreases-loop-found
decreases-loop-found l = length l.finds
