-- The invariants of the loops of `put_batches` in `src/batches.rt`.
use Rattle.std.proofs.Common.{◌≡◌, ◌++◌, List}
use Rattle.std.specs.Io.KnownBytes.{Appends}
use Rattle.std.specs.Slice.Iter.{chunks_rest}
use Rattle.mpw_markers.specs.declared.marker.Marker.{Marker}
use Rattle.mpw_firm_listing.specs.Listing.{lines_of}
use Rattle.mpw_firm_listing.proofs.batches.put_batches.Given as goal

abbrev pub invariant-loop-batch : goal.invariant-loop-batch
invariant-loop-batch g l =
    (goal.iterator-loop-batch g).can_next l.batch-iterator
    × (goal.iterator-loop-batch g).is_finite l.batch-iterator
    × ((done : List Marker) × (done ++ chunks_rest l.batch-iterator ≡ l.fn.listing.markers.now)
    × Appends (g.W.Write.contents l.initial.writer) (g.W.Write.contents l.writer)
    (lines_of l.fn.listing done))
