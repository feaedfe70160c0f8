-- The invariants of the loops of `all_markers` in `src/stitching.rt`.
use Rattle.std.proofs.Common.{◌≡◌, take, List}
use Rattle.std.specs.Prelude.{All}
use Rattle.std.specs.List.{flat_map}
use Rattle.mpw_markers.specs.declared.marker.Marker.{Marker}
use Rattle.mpw_markers.specs.Markers.{IsFilled}
use Rattle.mpw_markers.proofs.Referred.{seen}
use Rattle.mpw_markers.proofs.stitching.all_markers.Given as goal

abbrev pub invariant-loop-list : goal.invariant-loop-list
invariant-loop-list l = record {
  markers : seen l.all.items ≡ flat_map (λ (list : List Marker). list) (take l.list-index l.lists);
  filled : All IsFilled (seen l.all.items);
}
