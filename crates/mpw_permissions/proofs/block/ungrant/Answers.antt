-- The other grants stay.
use Rattle.std.proofs.Common.{rules, not}
use Rattle.std.proofs.lemmas.Fn.{filter_same}
use Rattle.mpw_geom.specs.Names.{name_eq}
use Rattle.mpw_permissions.specs.declared.permission.Grant.{Grant}
use Rattle.mpw_permissions.proofs.block.ungrant.Goals as goal

pub returns : goal.returns
returns c = filter_same _ (λ (grant : Grant). not (name_eq c.args.role.now grant.role)) _
    (λ x b f call. search rules) _ _ c.retain.ensures.filtered
