-- Answers to the goals of `Run::prepare_tile_job` in `src/run.rt`.
use Rattle.std.proofs.Common.{sym, ap, ◌∙◌}
use Rattle.mpw_run.specs.Step.{job_of_tile}
use Rattle.mpw_run.proofs.Changes.{offered_within, take_is}
use Rattle.mpw_run.proofs.run.Run.prepare_tile_job.Goals as goal

pub tile_job-requires-clause-tile : goal.tile_job-requires-clause-tile
tile_job-requires-clause-tile c =
    offered_within c.args.self.now c.args.c.now c.in-Some.tile c.requires.phase c.is_run.ensures
    (sym c.in-Some.is ∙ c.next.ensures)

pub returns : goal.returns
returns c =
    take_is c.args.self.now c.args.c.now c.in-Some.tile c.in_ok-job.job c.requires.phase
    c.is_counted.ensures c.requires.taken c.is_run.ensures (sym c.in-Some.is ∙ c.next.ensures)
    (c.in_ok-job.ensures ∙ ap (λ n. job_of_tile n c.args.c.now c.in-Some.tile) c.number.ensures)
