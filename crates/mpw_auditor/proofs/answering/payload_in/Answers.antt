-- Answers to the goals of `payload_in` in `src/answering.rt`.
use Rattle.std.proofs.Common.{Err, ap, sym, subst, rules}
use Rattle.sqlite.specs.Held.{state}
use Rattle.mpw_store.specs.Changes.{IsReady}
use Rattle.mpw_store_listing.specs.Failing.{AcceptsAll}
use Rattle.mpw_auditor.specs.Answering.{IsUnanswered, IsUnfound}
use Rattle.mpw_auditor.proofs.AnsweringLemmas.{unlooked}
use Rattle.mpw_auditor.proofs.answering.payload_in.Goals as goal

pub returns-in-Err-payload_at-clause-cause : goal.returns-in-Err-payload_at-clause-cause
returns-in-Err-payload_at-clause-cause g c clean open_ =
    let old = state g.S.Store c.args.conn.now in
    let new = state g.S.Store c.payload_at.new.conn in
    let ready : IsReady old = search rules in
    subst (IsUnfound g.S.Store old new c.args.place) (sym c.from.ensures)
    (IsUnanswered.unread c.in-Err-payload_at.fault ready
    (c.in-Err-payload_at.ensures.cause clean ready))

pub returns-in-Err-clause-cause : goal.returns-in-Err-clause-cause
returns-in-Err-clause-cause g c clean open_ =
    let old = state g.S.Store c.args.conn.now in
    subst (IsUnfound g.S.Store old old c.args.place) (sym c.from-in-Err.ensures)
    (unlooked AcceptsAll g.S.Store old old c.in-Err.fault (λ is. c.in-Err.ensures.other.0 (ap Err is))
    c.in-Err.ensures.busy)
