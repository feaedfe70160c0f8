-- Each answer is that of the job at its index.
use Rattle.std.proofs.Common.{ap, map, ◌∙◌}
use Rattle.std.proofs.lemmas.Result.{MatchResult-weaker}
use Rattle.rayon.proofs.ToStd.{slice-AllZip}
use Rattle.mpw_job.specs.Carried.{job_of}
use Rattle.mpw_work.proofs.Collected.{IsFor, all_carried}
use Rattle.mpw_work.proofs.work.work_all.Goals as goal

pub returns : goal.returns
returns g c =
    let jobs = c.args.jobs.now in
    let slice = ap (λ it. it.base.slice.now) c.map.ensures.base
    ∙ ap (λ it. it.slice.now) c.with_min_len.ensures.base ∙ c.par_iter.ensures in
    let results = c.in_ok-collect.ensures.0 in
    let chain = c.in_ok-collect.ensures.1 in
    MatchResult-weaker c.in_ok-collect.field-0 c.in_ok-collect.ensures.2 (λ answers made.
    ap (map job_of) made.2
    ∙ all_carried _ jobs results made.0 made.1
    (slice-AllZip chain.0 jobs (chain.1 ∙ slice) (IsFor _) results chain.2)) (λ _ _. tt)
