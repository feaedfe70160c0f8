-- Answers to the goals of `unplaced_among` in `src/top.rt`.
use Rattle.std.proofs.Common.{◌∙◌, ap, sym, map}
use Rattle.std.proofs.lemmas.Result.{IfOk-weaker}
use Rattle.mpw_firm_choices.proofs.Names.{unplaced_long, unplaced_short}
use Rattle.mpw_firm_choices.proofs.top.unplaced_among.Goals as goal

pub returns-then-is_long : goal.returns-then-is_long
returns-then-is_long c =
    ap (map (λ n. n.now)) c.new.ensures.items
    ∙ sym (unplaced_long (λ n. n.now) (λ p. p.now) c.args.names.now c.args.placed.now c.is_long.result
    c.is_long.ensures c.if-is_long.true)

pub returns : goal.returns
returns c =
    IfOk-weaker c.unplaced.result _ _
    (λ found p. ap (map (λ n. n.now)) p
    ∙ unplaced_short (λ n. n.now) (λ p. p.now) c.args.names.now c.args.placed.now c.is_long.result
    c.is_long.ensures c.if-is_long.false)
    c.unplaced.ensures
