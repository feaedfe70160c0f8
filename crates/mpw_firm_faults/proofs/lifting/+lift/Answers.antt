-- Answers to the goals of `lift` in `src/lifting.rt`.
use Rattle.std.proofs.Common.{◌∙◌, ◌≡◌, ◌<◌, Some, None, sym, arith}
use Rattle.std.proofs.lemmas.Result.{IfOk-weaker}
use Rattle.mpw_firm_faults.proofs.Levels.{lifted_end, lifted_on, lifted_there}
use Rattle.mpw_firm_faults.proofs.lifting.+lift.Goals as goal

pub returns-then-is_top-clause-area : goal.returns-then-is_top-clause-area
returns-then-is_top-clause-area t c =
    lifted_there c.args.levels c.args.seen.now.unit c.args.seen.now.text.now
    c.args.seen.now.spans.now c.args.seen.now.top.now c.args.step.structure c.args.step.area
    (sym c.is_top.ensures ∙ c.if-is_top.true)

pub returns-then-levels-eq0-clause-area : goal.returns-then-levels-eq0-clause-area
returns-then-levels-eq0-clause-area t c =
    let none : c.args.levels ≡ 0 = omega (arith, c.if-levels-eq0.true) in
    lifted_end c.args.levels c.args.seen.now.unit c.args.seen.now.text.now
    c.args.seen.now.spans.now c.args.seen.now.top.now c.args.step.structure c.args.step.area none
    (sym c.is_top.ensures ∙ c.if-is_top.false)

pub returns-in-Some-clause-area : goal.returns-in-Some-clause-area
returns-in-Some-clause-area t c =
    let some : 0 < c.args.levels = omega (arith, c.if-levels-eq0.false) in
    let on = lifted_on c.args.levels c.args.seen.now.unit c.args.seen.now.text.now
    c.args.seen.now.spans.now c.args.seen.now.top.now c.args.step.structure c.args.step.area
    (Some c.in-Some.next) some (sym c.is_top.ensures ∙ c.if-is_top.false)
    (sym c.in_ok-next.ensures.step ∙ c.in-Some.is) in
    IfOk-weaker c.lift.result _ _ (λ x p. p ∙ on) c.lift.ensures.area

pub returns-in-None-clause-area : goal.returns-in-None-clause-area
returns-in-None-clause-area t c =
    let some : 0 < c.args.levels = omega (arith, c.if-levels-eq0.false) in
    lifted_on c.args.levels c.args.seen.now.unit c.args.seen.now.text.now
    c.args.seen.now.spans.now c.args.seen.now.top.now c.args.step.structure c.args.step.area
    None some (sym c.is_top.ensures ∙ c.if-is_top.false)
    (sym c.in_ok-next.ensures.step ∙ c.in-None.is)
