-- Answers to the goals of `Policy::is_user` in `src/policy.rt`.
use Rattle.std.proofs.Common.{◌∙◌, ap}
use Rattle.mpw_geom.specs.Names.{name_eq}
use Rattle.mpw_rbac.specs.Table.{has_key}
use Rattle.mpw_rbac.proofs.policy.Policy.is_user.Goals as goal

pub returns : goal.returns
returns c = rw (← c.self.view_is)
    (c.contains.ensures ∙ ap (λ us. has_key name_eq us c.args.user.now) c.roster.ensures)
