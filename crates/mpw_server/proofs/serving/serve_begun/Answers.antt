-- Answers to the goals of `serve_begun` in `src/serving.rt`.
use Rattle.mpw_server.proofs.serving.serve_begun.Goals as goal

pub returns-in-Err : goal.returns-in-Err
returns-in-Err g c = c.store_of.ensures c.in-Err.fault c.in-Err.ensures.nothing
