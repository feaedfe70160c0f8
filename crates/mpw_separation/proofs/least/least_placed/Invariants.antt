-- The invariants of the loops of `least_placed` in `src/least.rt`.
use Rattle.std.proofs.Common.{ℕ, List, take, filter}
use Rattle.std.specs.Option.{option_copied}
use Rattle.mpw_roles.specs.Hierarchy.{Hierarchy, role_names}
use Rattle.mpw_roles.specs.Order.{IsHierarchy}
use Rattle.mpw_geom.specs.Least.{IsLeast}
use Rattle.mpw_separation.specs.Placed.{ArePlaced, IsBelow}
use Rattle.mpw_separation.specs.Separation.{breaks, set_names}
use Rattle.mpw_separation.proofs.least.least_placed.Given as goal

-- the first name in alphabetical order of the sets so far
abbrev pub invariant-loop-index : goal.invariant-loop-index
invariant-loop-index l = (h : Hierarchy) (seniors : List (List ℕ)) → IsHierarchy h
    → ArePlaced (role_names h) l.sets l.masks → IsBelow h seniors l.below
    → IsLeast (set_names (filter (breaks h seniors) (take l.index l.sets))) (option_copied l.least)
