-- The invariants of the loops of `least_dynamic` in `src/separation.rt`.
use Rattle.std.proofs.Common.{take, map}
use Rattle.std.specs.Option.{option_copied}
use Rattle.mpw_geom.specs.Least.{IsLeast}
use Rattle.mpw_separation.specs.Separation.{broken_names}
use Rattle.mpw_rbac.proofs.SessionLemmas.{active_in}
use Rattle.mpw_rbac.proofs.separation.least_dynamic.Given as goal

-- the first name in alphabetical order so far
abbrev pub invariant-loop-index : goal.invariant-loop-index
invariant-loop-index l = IsLeast (broken_names l.roles l.sets.sets.dsd
    (map active_in (take l.index l.sessions))) (option_copied l.least)
