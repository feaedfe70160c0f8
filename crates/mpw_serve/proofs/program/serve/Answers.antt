-- Answers to the goals of `serve` in `src/program.rt`.
use Rattle.mpw_serve.proofs.program.serve.Goals as goal

pub returns : goal.returns
returns g c = record {
  came = c.serve_script.result;
  served = c.serve_script.ensures.served;
  reads = c.serve_script.ensures.reader;
  writes = c.serve_script.ensures.writer;
  leaves = c.serve_script.ensures.handed;
  ends = c.script_end.ensures;
}
