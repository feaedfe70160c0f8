-- Answers to the goals of `whole_in` in `src/stitch.rt`.
use Rattle.std.proofs.lemmas.Result.{IfOk-weaker}
use Rattle.mpw_firm.proofs.stitch.whole_in.Goals as goal

pub returns : goal.returns
returns c = IfOk-weaker c.whole_of.result _ _ (λ x p. (_, p)) c.whole_of.ensures.whole
