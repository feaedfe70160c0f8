-- Answers to the goals of `record_at` in `src/found.rt`.
use Rattle.std.proofs.Common.{◌∙◌, sym, ap}
use Rattle.mpw_records.specs.Records.{seen}
use Rattle.mpw_firm_skipping.proofs.Finding.{front_is, never_none, placed}
use Rattle.mpw_firm_skipping.proofs.found.record_at.Goals as goal

pub returns-in-Some-Ok-clause-outcome : goal.returns-in-Some-Ok-clause-outcome
returns-in-Some-Ok-clause-outcome c =
    ap (λ o. placed c.args.at (seen o)) (sym c.in-Some-Ok.field-0-is)
    ∙ front_is c.args.text.now c.from.result.now c.args.at (seen c.in-Some-Ok.field-0) c.new.result
    c.next.new.self c.from.ensures c.new.ensures c.in-Some-Ok.ensures.some

pub returns-in-Some-Err-clause-outcome : goal.returns-in-Some-Err-clause-outcome
returns-in-Some-Err-clause-outcome c =
    ap (λ o. placed c.args.at (seen o)) (sym c.in-Some-Err.field-0-is)
    ∙ front_is c.args.text.now c.from.result.now c.args.at (seen c.in-Some-Err.field-0) c.new.result
    c.next.new.self c.from.ensures c.new.ensures c.in-Some-Err.ensures.some

pub returns-in-None-clause-outcome : goal.returns-in-None-clause-outcome
returns-in-None-clause-outcome c =
    never_none c.from.result.now c.new.result _ c.new.ensures c.in-None.ensures.none
