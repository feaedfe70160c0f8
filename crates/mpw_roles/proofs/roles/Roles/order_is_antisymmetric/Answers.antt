-- Answers to the goals of `Roles::order_is_antisymmetric` in `src/roles.rt`.
use Rattle.std.proofs.Common.{subst}
use Rattle.mpw_roles.specs.Order.{IsHierarchy}
use Rattle.mpw_roles.proofs.RoleLemmas.{antisymmetric}
use Rattle.mpw_roles.proofs.roles.Roles.order_is_antisymmetric.Goals as goal

pub returns : goal.returns
returns c = antisymmetric c.args.self.now (subst IsHierarchy c.self.view_is c.self.invariant.kept)
