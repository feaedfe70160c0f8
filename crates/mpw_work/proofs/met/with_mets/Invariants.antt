-- The invariants of the loops of `with_mets` in `src/met.rt`.
use Rattle.std.proofs.Common.{◌≡◌, map, take}
use Rattle.mpw_work.specs.Internal.Found.{key_of, met_of}
use Rattle.mpw_work.proofs.met.with_mets.Given as goal

abbrev pub invariant-loop-place : goal.invariant-loop-place
invariant-loop-place l = record {
  keys : map key_of l.markers.items ≡ take l.place l.keys;
  mets : map met_of l.markers.items ≡ take l.place l.mets;
}
