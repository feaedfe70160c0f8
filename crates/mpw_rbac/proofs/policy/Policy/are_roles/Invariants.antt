-- The invariants of the loops of `Policy::are_roles` in `src/separation.rt`.
use Rattle.std.proofs.Common.{◌≡◌, true, take}
use Rattle.std.specs.List.{list_all}
use Rattle.mpw_roles.specs.Hierarchy.{is_role}
use Rattle.mpw_rbac.proofs.policy.Policy.are_roles.Given as goal

-- each of the names so far is a role
abbrev pub invariant-loop-name : goal.invariant-loop-name
invariant-loop-name l = list_all (is_role l.self.roles) (take l.name-index l.names) ≡ true
