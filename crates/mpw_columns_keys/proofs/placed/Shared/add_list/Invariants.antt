-- The invariants of the loops of `Shared::add_list` in `src/placed.rt`.
use Rattle.std.proofs.Common.{take}
use Rattle.std.specs.List.{flat_map}
use Rattle.mpw_columns_keys.specs.Firsts.{AddsFirst, placed_keys}
use Rattle.mpw_columns_keys.proofs.placed.Shared.add_list.Given as goal

abbrev pub invariant-loop-column : goal.invariant-loop-column
invariant-loop-column l =
    AddsFirst (flat_map (placed_keys l.fn.self.firsts.now l.fn.number)
    (take l.column-index l.columns))
    l.initial.together l.together
