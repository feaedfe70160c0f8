-- The answers of jobs, from the results of all.
use Rattle.std.proofs.Common.{◌≡◌, List, [], ◌∷◌, map, refl, subst}
use Rattle.std.specs.Prelude.{Ok, IfOk}
use Rattle.std.specs.List.{AllZip}
use Rattle.std.specs.declared.result.Result.{Result}
use Rattle.mpw_job.specs.declared.job.Job.{Job}
use Rattle.mpw_job.specs.declared.answer.Answer.{Answer}
use Rattle.mpw_job.specs.Carried.{job_of}

module _ (E : Type 0) where
  -- a result is the answer of the job, if it is Ok
  abbrev pub IsFor : Job → Result Answer E → Type 0
  IsFor job result = IfOk result (λ answer. job_of answer ≡ job)

  carried : (jobs : List Job) (answers : List Answer) → AllZip IsFor jobs (map Ok answers)
      → map job_of answers ≡ jobs
  carried [] [] h = refl
  carried [] (a ∷ as') h = absurd h
  carried (j ∷ js) [] h = absurd h
  carried (j ∷ js) (a ∷ as') h =
      let first = h.0 in
      let rest = carried js as' h.1 in
      (λ i. first i ∷ rest i)

  -- if all are answers, they have the jobs in their order
  pub all_carried : (jobs : List Job) (results : List (Result Answer E)) (answers : List Answer)
      → results ≡ map Ok answers → AllZip IsFor jobs results → map job_of answers ≡ jobs
  all_carried jobs results answers all h = carried jobs answers (subst (AllZip IsFor jobs) all h)
