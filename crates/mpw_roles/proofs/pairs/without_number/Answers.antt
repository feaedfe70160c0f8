-- The other numbers stay.
use Rattle.std.proofs.Common.{rules, not, eqb}
use Rattle.std.proofs.lemmas.Fn.{filter_same}
use Rattle.mpw_roles.proofs.pairs.without_number.Goals as goal

pub returns : goal.returns
returns c = filter_same _ (λ other. not (eqb c.args.number other)) _
    (λ x b f call. search rules) _ _ c.retain.ensures.filtered
