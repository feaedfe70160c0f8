-- Answers to the goals of `skip` in `src/read.rt`.
use Rattle.std.proofs.Common.{◌∷◌, Err, sym, ap, ◌∙◌, length, arith}
use Rattle.std.proofs.lemmas.Result.{err_from_is_err_and}
use Rattle.mpw_records.specs.Records.{raw, seen}
use Rattle.mpw_elements.specs.Grammar.{ignored}
use Rattle.mpw_elements.proofs.Fields.{ignored_done, ignored_last, ignored_more}
use Rattle.mpw_elements.proofs.read.skip.Goals as goal

pub returns-in_err-found-clause-ignored : goal.returns-in_err-found-clause-ignored
unfolding ignored
returns-in_err-found-clause-ignored c =
    let p = err_from_is_err_and c.from_residual.result c.from_residual.ensures.1 in
    let read = c.in-Some.ensures.some ∙ ap (λ o. seen o ∷ c.next.new.self) c.in_err-found.was in
    rw (p.1, p.2) (sym c.loop-outcome.invariant.same ∙ ap (ignored c.args.start) read)

pub returns-then-found-eq-ENDEL-clause-ignored : goal.returns-then-found-eq-ENDEL-clause-ignored
returns-then-found-eq-ENDEL-clause-ignored c =
    sym c.loop-outcome.invariant.same ∙ ignored_done c.args.start _ c.next.new.self
    (raw c.in_ok-found.found) (c.in-Some.ensures.some
    ∙ ap (λ o. seen o ∷ c.next.new.self) c.in_ok-found.was) c.if-found-eq-ENDEL.true

pub returns-then-found-eq-ENDLIB-clause-ignored : goal.returns-then-found-eq-ENDLIB-clause-ignored
returns-then-found-eq-ENDLIB-clause-ignored c =
    sym c.loop-outcome.invariant.same ∙ (ignored_last c.args.start _ c.next.new.self
    (raw c.in_ok-found.found) (c.in-Some.ensures.some
    ∙ ap (λ o. seen o ∷ c.next.new.self) c.in_ok-found.was) c.if-found-eq-ENDLIB.true
    ∙ sym (ap Err c.fault_of.ensures))

pub loop-outcome-preserved : goal.loop-outcome-preserved
loop-outcome-preserved c = record {
  same =
      sym (ignored_more c.args.start _ c.next.new.self (raw c.in_ok-found.found)
      (c.in-Some.ensures.some ∙ ap (λ o. seen o ∷ c.next.new.self) c.in_ok-found.was)
      c.if-found-eq-ENDEL.false c.if-found-eq-ENDLIB.false) ∙ c.loop-outcome.invariant.same;
  rest = omega (arith, ap length c.in-Some.ensures.some);
}

pub returns-clause-ignored : goal.returns-clause-ignored
unfolding ignored
returns-clause-ignored c =
    sym c.loop-outcome.invariant.same ∙ ap (ignored c.args.start) c.in_default.ensures.none
