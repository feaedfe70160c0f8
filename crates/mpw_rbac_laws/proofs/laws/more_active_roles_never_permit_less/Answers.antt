-- Answers to the goals of `more_active_roles_never_permit_less` in `src/laws.rt`.
use Rattle.mpw_rbac_laws.proofs.MoreRoles.{permits-more}
use Rattle.mpw_rbac_laws.proofs.laws.more_active_roles_never_permit_less.Goals as goal

pub returns : goal.returns
returns c = permits-more
