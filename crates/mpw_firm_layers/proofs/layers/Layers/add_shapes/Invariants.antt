-- The invariants of the loops of `Layers::add_shapes` in `src/layers.rt`.
use Rattle.std.proofs.Common.{◌≡◌, take}
use Rattle.mpw_firm_layers.specs.Internal.Gathered.{with_shapes}
use Rattle.mpw_firm_layers.proofs.layers.Layers.add_shapes.Given as goal

abbrev pub invariant-loop-element : goal.invariant-loop-element
invariant-loop-element l =
    l.self ≡ with_shapes l.rules l.initial.self (take l.element-index l.elements)
