-- The invariants of the loops of `least_static` in `src/separation.rt`.
use Rattle.std.proofs.Common.{take}
use Rattle.std.specs.Option.{option_copied}
use Rattle.mpw_geom.specs.Least.{IsLeast}
use Rattle.mpw_separation.specs.Separation.{broken_names}
use Rattle.mpw_rbac.specs.Policy.{assigned_lists}
use Rattle.mpw_rbac.proofs.separation.least_static.Given as goal

-- the first name in alphabetical order so far
abbrev pub invariant-loop-authorized : goal.invariant-loop-authorized
invariant-loop-authorized l = IsLeast (broken_names l.roles l.sets.sets.ssd
    (assigned_lists (take l.authorized-index l.users.users))) (option_copied l.least)
