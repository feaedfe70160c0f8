-- The invariants of the loops of `is_among` in `src/layers.rt`.
use Rattle.std.proofs.Common.{◌≡◌, drop}
use Rattle.std.specs.List.{list_any}
use Rattle.mpw_geom.specs.Layers.{same_layer}
use Rattle.mpw_firm_skipping.proofs.layers.is_among.Given as goal

-- the layer is none of those so far
abbrev pub invariant-loop-other : goal.invariant-loop-other
invariant-loop-other l = list_any (same_layer l.layer) (drop l.other-index l.layers)
    ≡ list_any (same_layer l.layer) l.layers
