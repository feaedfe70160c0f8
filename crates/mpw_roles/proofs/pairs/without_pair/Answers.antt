-- The other pairs stay.
use Rattle.std.proofs.Common.{rules, not}
use Rattle.std.proofs.lemmas.Fn.{filter_same}
use Rattle.mpw_roles.specs.Internal.Table.{is_pair}
use Rattle.mpw_roles.proofs.pairs.without_pair.Goals as goal

pub returns : goal.returns
returns c = filter_same _ (λ pair. not (is_pair c.args.senior c.args.junior pair)) _
    (λ x b f call. search rules) _ _ c.retain.ensures.filtered
