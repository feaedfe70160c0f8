-- Answers to the goals of `serve_kept` in `src/serving.rt`.
use Rattle.std.proofs.Common.{IfOk, subst}
use Rattle.mpw_events.specs.History.{kept_desk}
use Rattle.mpw_store_keeper.specs.Kept.{failures_of, kept_by}
use Rattle.mpw_service.specs.Served.{IsServed}
use Rattle.mpw_server.proofs.serving.serve_kept.Goals as goal

pub returns-in-Ok-clause-leaves : goal.returns-in-Ok-clause-leaves
returns-in-Ok-clause-leaves g c =
    let begun = kept_desk (g.H.Handler.desk c.args.begun.core.value) (kept_by c.args.begun.keeper) (failures_of c.args.begun.keeper) in
    let left = kept_desk (g.H.Handler.desk c.in-Ok.desk.0.value) (kept_by c.in-Ok.desk.1)
    (failures_of c.in-Ok.desk.1) in
    let served : IsServed c.args.opening.staff.workers begun left c.serve_desk-back.result.1 =
    subst
    (λ back. IfOk back (λ desk. IsServed c.args.opening.staff.workers begun
    (kept_desk (g.H.Handler.desk desk.0.value) (kept_by desk.1) (failures_of desk.1))
    c.serve_desk-back.result.1)) c.in-Ok.is c.serve_desk-back.ensures in
    record {
      left = left;
      goes = served.finished.goes;
      passes = served.passes;
      finished = served.finished;
      counted = c.left_of.ensures.calls;
      told = c.left_of.ensures.told;
      comes = c.left_of.ensures.comes;
    }
