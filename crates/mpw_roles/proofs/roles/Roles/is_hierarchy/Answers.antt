-- Answers to the goals of `Roles::is_hierarchy` in `src/roles.rt`.
use Rattle.std.proofs.Common.{subst}
use Rattle.mpw_roles.specs.Order.{IsHierarchy}
use Rattle.mpw_roles.proofs.roles.Roles.is_hierarchy.Goals as goal

pub returns : goal.returns
returns c = subst IsHierarchy c.self.view_is c.self.invariant.kept
