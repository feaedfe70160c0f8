-- Answers to the goals of `begin_over` in `src/desk.rt`.
use Rattle.std.proofs.Common.{◌≡◌, ◌∙◌, Err, ap, rules, subst, sym}
use Rattle.sqlite.specs.Held.{state}
use Rattle.mpw_store_keeper.specs.Kept.{failures_of, kept_by, kept_in}
use Rattle.mpw_stored_desk.proofs.ServingLemmas.{begins, holds, known_clean, unopened_by}
use Rattle.mpw_stored_desk.specs.Serving.{IsUnopened}
use Rattle.mpw_server.proofs.Numbers.{above-greatest}
use Rattle.mpw_server.proofs.desk.begin_over.Goals as goal

pub new-requires : goal.new-requires
new-requires g c clean =
    let old = state g.S.Store c.args.conn in
    let opened = state g.S.Store c.reopen.new.conn in
    holds c.args.officer.name c.args.officer.digest old opened
    (g.H.Handler.desk c.in-Ok.reopened.core.value) c.in-Ok.reopened.rows (c.in-Ok.ensures.ok clean)

pub returns-in-Some-clause-begins : goal.returns-in-Some-clause-begins
returns-in-Some-clause-begins g c =
    let old = state g.S.Store c.args.conn in
    let opened = state g.S.Store c.reopen.new.conn in
    let rows = c.in-Ok.reopened.rows in
    let desk = g.H.Handler.desk c.in-Ok.reopened.core.value in
    let kept : kept_by c.of-keeper.result ≡ kept_in opened rows =
    ap kept_by c.of-keeper.ensures ∙ c.new.ensures.kept in
    record {
      begins = λ known is.
          let now = sym kept ∙ is in
          let clean = known_clean opened rows known now in
          begins c.args.officer old opened desk rows known clean (c.in-Ok.ensures.ok clean) now;
      whole = ap failures_of c.of-keeper.ensures ∙ c.new.ensures.failures;
    }

pub returns-in-Err-clause-unopened : goal.returns-in-Err-clause-unopened
returns-in-Err-clause-unopened g c =
    let old = state g.S.Store c.args.conn in
    let new = state g.S.Store c.reopen.new.conn in
    subst (IsUnopened c.args.officer old new) (sym c.refused.ensures)
    (unopened_by c.args.officer old new c.in-Err.fault c.in-Err.ensures.rows
    (λ is. c.reopen.ensures.other.0 (c.in-Err.is ∙ ap Err is)))

pub returns-in-Some-clause-above : goal.returns-in-Some-clause-above
returns-in-Some-clause-above g c =
    above-greatest c.in-Some.first (g.H.Handler.desk c.in-Ok.reopened.core.value) (search rules)
