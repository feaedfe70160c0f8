-- Answers to the goals of `next_field` in `src/reading.rt`.
use Rattle.std.proofs.Common.{◌∷◌, sym, ap, ◌∙◌, length, arith}
use Rattle.std.proofs.lemmas.Result.{err_from_is_err_and}
use Rattle.mpw_records.specs.Records.{raw, seen}
use Rattle.mpw_elements.specs.Reading.{field}
use Rattle.mpw_elements.proofs.Fields.{field_skip, field_ok}
use Rattle.mpw_elements.proofs.reading.next_field.Goals as goal

pub returns-in_err-record-clause-field : goal.returns-in_err-record-clause-field
unfolding field
returns-in_err-record-clause-field c =
    let p = err_from_is_err_and c.from_residual.result c.from_residual.ensures.1 in
    let read = c.in-Some.ensures.some ∙ ap (λ o. seen o ∷ c.next.new.self) c.in_err-record.was in
    rw (p.1, p.2) (sym c.loop-outcome.invariant.same ∙ ap (field c.args.start) read)

pub returns-then-not-is_skipped-clause-field : goal.returns-then-not-is_skipped-clause-field
returns-then-not-is_skipped-clause-field c =
    sym c.loop-outcome.invariant.same ∙ field_ok c.args.start _ c.next.new.self
    (raw c.in_ok-record.record) (c.in-Some.ensures.some
    ∙ ap (λ o. seen o ∷ c.next.new.self) c.in_ok-record.was)
    (sym c.is_skipped.ensures ∙ c.if-not-is_skipped.true)

pub loop-outcome-preserved : goal.loop-outcome-preserved
loop-outcome-preserved c = record {
  same =
      sym (field_skip c.args.start _ c.next.new.self (raw c.in_ok-record.record)
      (c.in-Some.ensures.some ∙ ap (λ o. seen o ∷ c.next.new.self) c.in_ok-record.was)
      (sym c.is_skipped.ensures ∙ c.if-not-is_skipped.false)) ∙ c.loop-outcome.invariant.same;
  rest = omega (arith, ap length c.in-Some.ensures.some);
}

pub returns-clause-field : goal.returns-clause-field
unfolding field
returns-clause-field c =
    sym c.loop-outcome.invariant.same ∙ ap (field c.args.start) c.in_default.ensures.none
