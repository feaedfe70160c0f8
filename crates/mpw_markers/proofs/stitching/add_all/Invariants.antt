-- The invariants of the loops of `add_all` in `src/stitching.rt`.
use Rattle.std.proofs.Common.{◌≡◌, ◌++◌, take}
use Rattle.mpw_markers.proofs.Referred.{seen}
use Rattle.mpw_markers.proofs.stitching.add_all.Given as goal

abbrev pub invariant-loop-marker : goal.invariant-loop-marker
invariant-loop-marker l =
    seen l.all.items ≡ seen l.initial.all.items ++ take l.marker-index l.markers
