-- Answers to the goals of `run` in `src/main.rt`.
use Rattle.std.proofs.lemmas.Result.{IfOk-weaker}
use Rattle.mpw_firm.proofs.run.Goals as goal

pub returns : goal.returns
returns g c =
    IfOk-weaker c.done_of.result _ _ (λ found p. (_, _, p)) c.done_of.ensures
