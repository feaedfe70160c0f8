-- Answers to the goals of `serve_opened` in `src/serving.rt`.
use Rattle.std.proofs.Common.{refl, subst, sym}
use Rattle.sqlite.specs.Held.{state}
use Rattle.mpw_events.specs.History.{kept_desk}
use Rattle.mpw_store_keeper.specs.Kept.{failures_of, kept_by}
use Rattle.mpw_server.specs.Stored.{ComesBack, Ends}
use Rattle.mpw_server.proofs.StoredLemmas.{ends_by, ends_lost}
use Rattle.mpw_server.proofs.serving.serve_opened.Goals as goal

pub returns-in-Ok : goal.returns-in-Ok
returns-in-Ok g c =
    let begun = kept_desk (g.H.Handler.desk c.args.begun.core.value) (kept_by c.args.begun.keeper) (failures_of c.args.begun.keeper) in
    let left = c.in-Ok.served.0 in
    subst (λ store. Ends begun c.end.result.0 (ComesBack store (λ conn. state g.S.Store conn)))
    (sym c.end.ensures.store)
    (ends_by begun left.calls left.fault (ComesBack left.store (λ conn. state g.S.Store conn))
    c.end.result.0 c.in-Ok.ensures.leaves c.end.ensures.well c.end.ensures.closed c.end.ensures.reason)

pub returns-in-Err : goal.returns-in-Err
returns-in-Err g c =
    ends_lost (g.H.Handler.desk c.args.begun.core.value) (kept_by c.args.begun.keeper)
    (failures_of c.args.begun.keeper) _ c.in-Err.fault c.in-Err.ensures.lost refl
