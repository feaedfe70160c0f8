-- The invariants of the loops of `add_children` in `src/gathered.rt`.
use Rattle.std.proofs.Common.{◌≡◌, take}
use Rattle.std.specs.Prelude.{fold}
use Rattle.mpw_firm_layers.specs.Internal.Gathered.{with_child}
use Rattle.mpw_firm_layers.proofs.gathered.add_children.Given as goal

abbrev pub invariant-loop-child : goal.invariant-loop-child
invariant-loop-child l =
    l.layers ≡ fold (with_child l.rules l.fn.below.own.now l.fn.below.outer.now) l.initial.layers
    (take l.child-index l.children)
