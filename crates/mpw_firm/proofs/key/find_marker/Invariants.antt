-- The invariants of the loops of `find_marker` in `src/key.rt`.
use Rattle.std.proofs.Common.{◌≡◌, drop}
use Rattle.mpw_firm.specs.Keys.{marker_named}
use Rattle.mpw_firm.proofs.key.find_marker.Given as goal

-- none of the markers so far has the key
abbrev pub invariant-loop-marker : goal.invariant-loop-marker
invariant-loop-marker l = marker_named l.parts l.rules l.word (drop l.marker-index l.markers)
    ≡ marker_named l.parts l.rules l.word l.markers
