-- Answers to the goals of `vertical_steps` in `src/search.rt`.
use Rattle.std.proofs.lemmas.Result.{IfOk-weaker}
use Rattle.mpw_edges.proofs.search.vertical_steps.Goals as goal

pub returns-clause-places : goal.returns-clause-places
returns-clause-places c =
    IfOk-weaker c.join_runs.result _ _
    (λ v h line j.
    let found = c.in_ok-found.ensures.places line j in
    (λ p. found.0 ((h line j).0 p), λ s. (h line j).1 (found.1 s)))
    c.join_runs.ensures.places
