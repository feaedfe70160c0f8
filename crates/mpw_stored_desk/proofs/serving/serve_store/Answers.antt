-- Answers to the goals of `serve_store` in `src/serving.rt`.
use Rattle.std.proofs.Common.{◌∙◌, Err, ap, subst, sym}
use Rattle.sqlite.specs.Held.{state}
use Rattle.mpw_store_keeper.specs.Kept.{kept_in}
use Rattle.mpw_stored_desk.proofs.ServingLemmas.{begins, holds, known_clean, some_is, unopened_by}
use Rattle.mpw_stored_desk.specs.Serving.{IsUnopened}
use Rattle.mpw_stored_desk.proofs.serving.serve_store.Goals as goal

pub serve_on-requires-after_bounds : goal.serve_on-requires-after_bounds
serve_on-requires-after_bounds g c κs within clean =
    let old = state g.S.Store c.args.conn in
    let opened = state g.S.Store c.reopen.new.conn in
    holds c.args.officer.name c.args.officer.digest old opened
    (g.H.Handler.desk c.in-Ok.reopened.core.value) c.in-Ok.reopened.rows (c.in-Ok.ensures.ok clean)

pub returns-in-Some-clause-served : goal.returns-in-Some-clause-served
returns-in-Some-clause-served g c =
    let old = state g.S.Store c.args.conn in
    let opened = state g.S.Store c.reopen.new.conn in
    let rows = c.in-Ok.reopened.rows in
    let desk = g.H.Handler.desk c.in-Ok.reopened.core.value in
    record {
      desk = desk;
      kept = kept_in opened rows;
      begins = λ known is.
          let clean = known_clean opened rows known is in
          begins c.args.officer old opened desk rows known clean (c.in-Ok.ensures.ok clean) is;
      connection = c.in-Some.connection;
      next = some_is _ c.in-Ok.reopened.next c.in-Some.connection c.in-Some.is c.in-Ok.ensures.next;
      over = c.serve_on.ensures.served;
    }

pub returns-in-Err-clause-unopened : goal.returns-in-Err-clause-unopened
returns-in-Err-clause-unopened g c =
    let old = state g.S.Store c.args.conn in
    let new = state g.S.Store c.reopen.new.conn in
    subst (IsUnopened c.args.officer old new) (sym c.refused.ensures)
    (unopened_by c.args.officer old new c.in-Err.fault c.in-Err.ensures.rows
    (λ is. c.reopen.ensures.other.0 (c.in-Err.is ∙ ap Err is)))
