-- Answers to the goals of `serve_core` in `src/own_desk.rt`.
use Rattle.mpw_serve.proofs.OwnDeskLemmas.{served_own}
use Rattle.mpw_serve.proofs.own_desk.serve_core.Goals as goal

pub returns-clause-served : goal.returns-clause-served
returns-clause-served g c = (served_own _ _ _ _ _ _ c.serve_connection.result
    c.serve_connection.ensures.served).desk

pub returns-clause-connection : goal.returns-clause-connection
returns-clause-connection g c = (served_own _ _ _ _ _ _ c.serve_connection.result
    c.serve_connection.ensures.served).stays
