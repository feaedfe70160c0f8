-- Answers to the goals of `list` in `src/answering.rt`.
use Rattle.std.proofs.Common.{Err, ap, sym, subst}
use Rattle.sqlite.specs.Held.{state}
use Rattle.mpw_store_listing.specs.Failing.{AcceptsAll}
use Rattle.mpw_auditor.specs.Answering.{IsUnprinted}
use Rattle.mpw_auditor.proofs.AnsweringLemmas.{unlooked}
use Rattle.mpw_auditor.proofs.answering.list.Goals as goal

pub returns-in-Err-clause-cause : goal.returns-in-Err-clause-cause
returns-in-Err-clause-cause g c clean open_ =
    let old = state g.S.Store c.args.conn.now in
    let failed = g.W.Sink.failures c.args.output in
    subst (IsUnprinted g.S.Store old old failed failed) (sym c.from.ensures)
    (unlooked AcceptsAll g.S.Store old old c.in-Err.fault (λ is. c.in-Err.ensures.other.0 (ap Err is))
    c.in-Err.ensures.busy)
