-- The other grants stay.
use Rattle.std.proofs.Common.{rules, not}
use Rattle.std.proofs.lemmas.Fn.{filter_same}
use Rattle.mpw_permissions.specs.Grant.{grant_eq}
use Rattle.mpw_permissions.proofs.block.take_back.Goals as goal

pub returns : goal.returns
returns c = filter_same _ (λ other. not (grant_eq c.args.grant.now other)) _
    (λ x b f call. search rules) _ _ c.retain.ensures.filtered
