-- The invariants of the loops of `all_numbers` in `src/stitching.rt`.
use Rattle.std.proofs.Common.{◌≡◌, Bor, take}
use Rattle.std.specs.List.{flat_map}
use Rattle.mpw_markers.specs.declared.marker.Marker.{Marker}
use Rattle.mpw_markers.proofs.stitching.all_numbers.Given as goal

abbrev pub invariant-loop-marker : goal.invariant-loop-marker
invariant-loop-marker l =
    l.numbers.items ≡ flat_map (λ (m : Bor Marker). m.now.met) (take l.marker-index l.markers)
