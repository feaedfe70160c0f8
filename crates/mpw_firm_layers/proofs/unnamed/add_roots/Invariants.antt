-- The invariants of the loops of `add_roots` in `src/unnamed.rt`.
use Rattle.std.proofs.Common.{◌≡◌, take}
use Rattle.std.specs.Prelude.{fold}
use Rattle.mpw_firm_layers.specs.Internal.Gathered.{with_root}
use Rattle.mpw_firm_layers.proofs.unnamed.add_roots.Given as goal

abbrev pub invariant-loop-root : goal.invariant-loop-root
invariant-loop-root l =
    l.layers ≡ fold (with_root l.rules l.lists) l.initial.layers (take l.root-index l.roots)
