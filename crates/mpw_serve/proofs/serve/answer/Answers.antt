-- Answers to the goals of `answer` in `src/serve.rt`.
use Rattle.std.proofs.Common.{rules}
use Rattle.mpw_serve.specs.Serving.{Answer}
use Rattle.mpw_serve.proofs.ServingLemmas.{handed_leaves}
use Rattle.mpw_serve.proofs.serve.answer.Goals as goal

pub returns-in-Some-clause-answer : goal.returns-in-Some-clause-answer
returns-in-Some-clause-answer g c =
    (Answer.replied c.in-Some.response, search rules, c.write_response.ensures.text)

pub returns-in-None-clause-handed : goal.returns-in-None-clause-handed
returns-in-None-clause-handed g c = handed_leaves _ _ _ _ _ c.write_refusal.result _ _
    c.write_refusal.ensures.text c.write_refusal.ensures.handed
