-- Answers to the goals of `serve_over` in `src/serving.rt`.
use Rattle.std.proofs.Common.{subst, sym}
use Rattle.std.specs.Prelude.{is_some}
use Rattle.sqlite.specs.Held.{state}
use Rattle.mpw_events.specs.History.{kept_desk}
use Rattle.mpw_store_keeper.specs.Kept.{failures_of, kept_by}
use Rattle.mpw_server.specs.Stored.{ComesBack, Ends, EndsOver}
use Rattle.mpw_server.proofs.StoredLemmas.{ends_with}
use Rattle.mpw_server.proofs.serving.serve_over.Goals as goal

pub returns-in-Ok-clause-over : goal.returns-in-Ok-clause-over
returns-in-Ok-clause-over g c =
    let begun = kept_desk (g.H.Handler.desk c.in-Ok.begun.core.value) (kept_by c.in-Ok.begun.keeper) (failures_of c.in-Ok.begun.keeper) in
    let served = c.serve_unless_full.result in
    EndsOver.opened begun c.with_store.result.0 c.in-Ok.ensures.begins
    (subst (λ store. Ends begun c.with_store.result.0 (ComesBack store (λ conn. state g.S.Store conn)))
    (sym c.with_store.ensures.store)
    (subst (λ ended. Ends begun ended (ComesBack served.1 (λ conn. state g.S.Store conn)))
    (sym c.with_store.ensures.ended)
    (ends_with begun served.0 (ComesBack served.1 (λ conn. state g.S.Store conn)) (is_some served.1)
    c.serve_unless_full.ensures)))

pub returns-in-Err-clause-over : goal.returns-in-Err-clause-over
returns-in-Err-clause-over g c = EndsOver.unopened c.in-Err.unopened.0 c.in-Err.ensures.unopened
