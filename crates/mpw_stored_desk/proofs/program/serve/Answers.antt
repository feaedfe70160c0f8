-- Answers to the goals of `serve` in `src/program.rt`.
use Rattle.std.proofs.Common.{ap₂}
use Rattle.mpw_serve.specs.Status.{devices}
use Rattle.mpw_stored_desk.specs.Ending.{EndsAs}
use Rattle.mpw_stored_desk.proofs.program.serve.Goals as goal

pub returns-in-Ok : goal.returns-in-Ok
returns-in-Ok g c = EndsAs.served c.end_told.result (record {
  served = c.in-Ok.field-0.served;
  fault = c.in-Ok.field-0.fault;
  serves = c.in-Ok.ensures.served;
  reads = c.in-Ok.ensures.reader;
  writes = c.in-Ok.ensures.writer;
  leaves = c.in-Ok.ensures.handed;
  ends = c.end_told.ensures;
})

pub returns-in-Err : goal.returns-in-Err
returns-in-Err g c = EndsAs.unopened c.in-Err.fault c.in-Err.ensures.unopened
    (ap₂ (devices g.R.Source.remaining g.R.Source.failures g.W.Sink.contents g.W.Sink.failures g.W.Sink.pending)
    c.in-Err.ensures.untouched.0 c.in-Err.ensures.untouched.1)
