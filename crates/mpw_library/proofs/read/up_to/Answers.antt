-- Answers to the goals of `up_to` in `src/read.rt`.
use Rattle.std.proofs.Common.{◌∷◌, Err, sym, ap, ◌∙◌}
use Rattle.std.proofs.lemmas.Result.{err_from_is_err_and}
use Rattle.mpw_records.specs.Records.{raw, seen}
use Rattle.mpw_library.proofs.Loops.{up_to_end, up_to_err, up_to_found, up_to_refused, up_to_more}
use Rattle.mpw_library.proofs.read.up_to.Goals as goal

pub returns-in_err-found-clause-record : goal.returns-in_err-found-clause-record
returns-in_err-found-clause-record c =
    let p = err_from_is_err_and c.from_residual.result c.from_residual.ensures.1 in
    rw (p.1, p.2) (sym c.loop-outcome.invariant ∙ up_to_err c.args.wanted c.args.unwanted _
    c.next.new.self c.in_err-found.field-0.0
    (c.in-Some.ensures.some ∙ ap (λ o. seen o ∷ c.next.new.self) c.in_err-found.was))

pub returns-then-found-wanted-clause-record : goal.returns-then-found-wanted-clause-record
returns-then-found-wanted-clause-record c =
    sym c.loop-outcome.invariant ∙ up_to_found c.args.wanted c.args.unwanted _ c.next.new.self
    (raw c.in_ok-found.found) (c.in-Some.ensures.some
    ∙ ap (λ o. seen o ∷ c.next.new.self) c.in_ok-found.was) c.if-found-wanted.true

pub returns-then-is_refused-clause-record : goal.returns-then-is_refused-clause-record
returns-then-is_refused-clause-record c =
    sym c.loop-outcome.invariant ∙ (up_to_refused c.args.wanted c.args.unwanted _ c.next.new.self
    (raw c.in_ok-found.found) (c.in-Some.ensures.some
    ∙ ap (λ o. seen o ∷ c.next.new.self) c.in_ok-found.was) c.if-found-wanted.false
    (sym c.is_refused.ensures ∙ c.if-is_refused.true) ∙ sym (ap Err c.fault_of.ensures))

pub loop-outcome-preserved : goal.loop-outcome-preserved
loop-outcome-preserved c =
    sym (up_to_more c.args.wanted c.args.unwanted _ c.next.new.self (raw c.in_ok-found.found)
    (c.in-Some.ensures.some ∙ ap (λ o. seen o ∷ c.next.new.self) c.in_ok-found.was)
    c.if-found-wanted.false (sym c.is_refused.ensures ∙ c.if-is_refused.false))
    ∙ c.loop-outcome.invariant

pub returns-clause-record : goal.returns-clause-record
returns-clause-record c = sym c.loop-outcome.invariant ∙ up_to_end c.args.wanted c.args.unwanted _
    c.in_default.ensures.none
