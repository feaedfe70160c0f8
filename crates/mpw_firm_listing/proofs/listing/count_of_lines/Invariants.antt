-- The invariants of the loops of `count_of_lines` in `src/listing.rt`.
use Rattle.std.proofs.Common.{◌≡◌, ◌≤◌, take}
use Rattle.mpw_firm_listing.specs.Listing.{count_of_lines}
use Rattle.mpw_firm_listing.proofs.listing.count_of_lines.Given as goal

abbrev pub invariant-loop-marker : goal.invariant-loop-marker
invariant-loop-marker l =
    (l.count ≡ count_of_lines l.rules (take l.marker-index l.markers)) × (l.count ≤ l.marker-index)
