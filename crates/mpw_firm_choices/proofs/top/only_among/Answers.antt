-- Answers to the goals of `only_among` in `src/top.rt`.
use Rattle.std.proofs.Common.{◌∙◌, ap, sym}
use Rattle.std.proofs.lemmas.Result.{IfOk-weaker}
use Rattle.mpw_firm_choices.specs.Tops.{only_of}
use Rattle.mpw_firm_choices.proofs.Names.{only_short}
use Rattle.mpw_firm_choices.proofs.top.only_among.Goals as goal

pub returns : goal.returns
returns c =
    IfOk-weaker c.only_of.result _ _
    (λ name p. p
    ∙ ap (only_of (λ n. n.now)) (c.as_slice.ensures.value ∙ c.in_ok-found.ensures)
    ∙ sym (only_short (λ n. n.now) (λ p. p.now) c.args.names.now c.args.placed.now
    c.is_long.result c.is_long.ensures c.if-is_long.false))
    c.only_of.ensures
