-- The invariants of the loops of `with_origin` in `src/met.rt`.
use Rattle.std.proofs.Common.{◌≡◌, [], ◌∷◌, map, take}
use Rattle.std.specs.Prelude.{All}
use Rattle.mpw_work.specs.Internal.Found.{key_of}
use Rattle.mpw_work.proofs.met.with_origin.Given as goal

abbrev pub invariant-loop-key : goal.invariant-loop-key
invariant-loop-key l = record {
  keys : map key_of l.markers.items ≡ take l.key-index l.keys;
  mets : All (λ m. m.met ≡ l.origin ∷ []) l.markers.items;
}
