-- The invariants of the loops of `Layers::add_all` in `src/layers.rt`.
use Rattle.std.proofs.Common.{◌≡◌, take}
use Rattle.mpw_firm_layers.specs.Internal.Gathered.{with_layers}
use Rattle.mpw_firm_layers.proofs.layers.Layers.add_all.Given as goal

abbrev pub invariant-loop-layer : goal.invariant-loop-layer
invariant-loop-layer l =
    l.self ≡ with_layers l.rules l.initial.self (take l.layer-index l.layers)
