-- Answers to the goals of `done_of` in `src/main.rt`.
use Rattle.std.proofs.lemmas.Result.{IfOk-weaker}
use Rattle.mpw_firm.proofs.done_of.Goals as goal

pub returns : goal.returns
returns g c =
    IfOk-weaker c.done.result _ _
    (λ found p. (c.in_ok-asked.asked, c.in_ok-asked.ensures.asked, p))
    c.done.ensures
