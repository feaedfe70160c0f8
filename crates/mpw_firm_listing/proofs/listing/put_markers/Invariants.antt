-- The invariants of the loops of `put_markers` in `src/listing.rt`.
use Rattle.std.proofs.Common.{take}
use Rattle.std.specs.Io.KnownBytes.{Appends}
use Rattle.mpw_firm_listing.specs.Listing.{lines_of}
use Rattle.mpw_firm_listing.proofs.listing.put_markers.Given as goal

abbrev pub invariant-loop-marker : goal.invariant-loop-marker
invariant-loop-marker g l =
    Appends (g.W.Write.contents l.initial.writer) (g.W.Write.contents l.writer)
    (lines_of l.listing (take l.marker-index l.markers))
