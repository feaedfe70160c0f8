-- Answers to the goals of `Waiting::forget` in `src/reception.rt`.
use Rattle.std.proofs.Common.{rules, not, eqb}
use Rattle.std.proofs.lemmas.Fn.{filter_same}
use Rattle.mpw_reception.proofs.reception.Waiting.forget.Goals as goal

pub returns : goal.returns
returns c = filter_same _ (λ other. not (eqb c.args.ticket other.ticket)) _
    (λ x b f call. search rules) _ _ c.retain.ensures.filtered
