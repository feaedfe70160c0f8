-- The invariants of the loops of `add_rules` in `src/leaf.rt`.
use Rattle.mpw_columns.specs.Internal.Bands.{banded_on}
use Rattle.mpw_columns.specs.Internal.Found.{AddsFirst}
use Rattle.mpw_columns.proofs.leaf.add_rules.Given as goal

abbrev pub invariant-loop-place : goal.invariant-loop-place
invariant-loop-place l = AddsFirst l.place l.look.rules.now l.look.axis (banded_on l.banded) l.core
    l.initial.keys.items l.keys.items
