-- Answers to the goals of `put_for` in `src/faulty.rt`.
use Rattle.std.proofs.Common.{ℕ, List, Option, inr, subst}
use Rattle.std.specs.Prelude.{IfOk}
use Rattle.std.proofs.lemmas.Result.{IfErr-weaker}
use Rattle.mpw_firm_outputs.specs.Outputs.{Grows}
use Rattle.mpw_firm.specs.Faulty.{faulty_texts}
use Rattle.mpw_firm.proofs.faulty.put_for.Goals as goal

pub returns-clause-kept : goal.returns-clause-kept
returns-clause-kept g c =
    subst (λ (top : Option (List ℕ)). IfOk c.put_wanted.result
    (λ x. Grows (g.O.Outputs.kept c.args.outputs.now) (g.O.Outputs.kept c.put_wanted.new.outputs)
    (faulty_texts c.args.options.now c.args.rules.now c.args.source.now top)))
    c.in_ok-top.ensures c.put_wanted.ensures.kept

pub returns-clause-refused : goal.returns-clause-refused
returns-clause-refused g c =
    IfErr-weaker c.put_wanted.result _ _ (λ fault p. inr p) c.put_wanted.ensures.refused
