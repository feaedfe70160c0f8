-- The pairs of other roles stay.
use Rattle.std.proofs.Common.{rules, not}
use Rattle.std.proofs.lemmas.Fn.{filter_same}
use Rattle.mpw_roles.specs.Internal.Table.{is_end}
use Rattle.mpw_roles.proofs.pairs.without_ends.Goals as goal

pub returns : goal.returns
returns c = filter_same _ (λ pair. not (is_end c.args.number pair)) _
    (λ x b f call. search rules) _ _ c.retain.ensures.filtered
