-- The invariants of the loops of `listed_count` in `src/limited.rt`.
use Rattle.std.proofs.Common.{◌≡◌, ◌-◌, ◌^◌, take}
use Rattle.std.specs.Prelude.{min, sum_by}
use Rattle.std.specs.List.{enumerate_from}
use Rattle.mpw_firm_listing.specs.Limited.{limited_of, listed_of}
use Rattle.mpw_firm_listing.proofs.limited.listed_count.Given as goal

abbrev pub invariant-loop-place : goal.invariant-loop-place
invariant-loop-place l = l.count
    ≡ min (sum_by (listed_of (limited_of l.listing)) (take l.place (enumerate_from 0 l.listing.rules.now)))
    (2 ^ 64 - 1)
