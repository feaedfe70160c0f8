-- The invariants of the loops of `least_reached` in `src/least.rt`.
use Rattle.std.proofs.Common.{take, filter}
use Rattle.std.specs.Option.{option_copied}
use Rattle.mpw_geom.specs.Least.{IsLeast}
use Rattle.mpw_separation.specs.Separation.{is_reached, set_names}
use Rattle.mpw_separation.proofs.least.least_reached.Given as goal

-- the first name in alphabetical order of the sets so far
abbrev pub invariant-loop-set : goal.invariant-loop-set
invariant-loop-set l = IsLeast (set_names (filter (is_reached l.below) (take l.set-index l.sets)))
    (option_copied l.least)
