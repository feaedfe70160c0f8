-- Answers to the goals of `serve_connection` in `src/serve.rt`.
use Rattle.mpw_serve.proofs.serve.serve_connection.Goals as goal

pub returns-clause-served : goal.returns-clause-served
returns-clause-served g c = (_, c.serve_lines-ended.ensures.lines, c.part-is_gone.ensures)
