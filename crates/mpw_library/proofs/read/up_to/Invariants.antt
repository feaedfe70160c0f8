-- The invariants of the loops of `up_to` in `src/read.rt`.
use Rattle.std.proofs.Common.{◌≡◌, length}
use Rattle.mpw_library.specs.Grammar.{up_to}
use Rattle.mpw_library.proofs.read.up_to.Given as goal

-- what was skipped changes nothing
abbrev pub invariant-loop-outcome : goal.invariant-loop-outcome
invariant-loop-outcome l =
    up_to l.wanted l.unwanted l.records ≡ up_to l.wanted l.unwanted l.initial.records

abbrev pub decreases-loop-outcome : goal.decreases-loop-outcome
decreases-loop-outcome l = length l.records
