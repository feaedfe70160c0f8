-- Answers to the goals of `Policy::user` in `src/policy.rt`.
use Rattle.std.proofs.Common.{◌∙◌, ap}
use Rattle.mpw_geom.specs.Names.{name_eq}
use Rattle.mpw_rbac.specs.Table.{value_at}
use Rattle.mpw_rbac.proofs.policy.Policy.user.Goals as goal

pub returns : goal.returns
returns c = rw (← c.self.view_is)
    (c.get.ensures ∙ ap (λ us. value_at name_eq us c.args.user.now) c.roster.ensures)
