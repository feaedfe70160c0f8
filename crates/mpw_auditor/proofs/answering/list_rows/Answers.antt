-- Answers to the goals of `list_rows` in `src/answering.rt`.
use Rattle.sqlite.specs.Held.{state}
use Rattle.mpw_auditor.proofs.AnsweringLemmas.{of_err, unprinted}
use Rattle.mpw_auditor.proofs.answering.list_rows.Goals as goal

pub returns-in-Err-clause-cause : goal.returns-in-Err-clause-cause
returns-in-Err-clause-cause g c clean ready =
    unprinted g.S.Store (state g.S.Store c.args.conn.now)
    (state g.S.Store c.write_rows-output.new.conn) (g.W.Sink.failures c.args.output)
    (g.W.Sink.failures c.write_rows-output.result.0) c.in-Err.unlisted c.from.result c.from.ensures
    ready
    (of_err _ c.write_rows-output.result.1 c.in-Err.unlisted c.in-Err.is
    (c.write_rows-output.ensures.cause clean ready))
