-- The invariants of the loops of `least_own_cell` in `src/own.rt`.
use Rattle.std.proofs.Common.{take}
use Rattle.std.specs.Prelude.{slice_get}
use Rattle.std.specs.List.{filter_map}
use Rattle.std.specs.Option.{option_copied}
use Rattle.mpw_geom.specs.Least.{IsLeast}
use Rattle.mpw_waiver.specs.Signing.{own_cell}
use Rattle.mpw_waiver.proofs.own.least_own_cell.Given as goal

-- the first in alphabetical order of the numbers so far
abbrev pub invariant-loop-number : goal.invariant-loop-number
invariant-loop-number l =
    IsLeast (filter_map (λ number. own_cell l.user (slice_get l.shelf number))
    (take l.number-index l.met)) (option_copied l.least)
