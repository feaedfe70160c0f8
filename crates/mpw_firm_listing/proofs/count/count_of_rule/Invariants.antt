-- The invariants of the loops of `count_of_rule` in `src/count.rt`.
use Rattle.std.proofs.Common.{◌≡◌, ◌≤◌, take}
use Rattle.mpw_firm_listing.specs.Limited.{count_of}
use Rattle.mpw_firm_listing.proofs.count.count_of_rule.Given as goal

abbrev pub invariant-loop-marker : goal.invariant-loop-marker
invariant-loop-marker l =
    (l.count ≡ count_of (take l.marker-index l.markers) l.place) × (l.count ≤ l.marker-index)
