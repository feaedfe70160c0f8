-- Answers to the goals of `magnification` in `src/values.rt`.
use Rattle.std.proofs.Common.{Bool, Result, Ok, Err, pos, sym, ap, ◌∙◌, if◌then◌else◌}
use Rattle.mpw_records.specs.declared.fault.Code.TheVariants.{Magnification}
use Rattle.mpw_records.specs.declared.fault.ReadFault.{ReadFault}
use Rattle.mpw_records.specs.Records.{RawRecord, raw}
use Rattle.mpw_real8.specs.Real.{is_whole}
use Rattle.mpw_elements.specs.Reading.{fault_at}
use Rattle.mpw_elements.specs.Values.{magnification_of}
use Rattle.mpw_elements.proofs.values.magnification.Goals as goal

unfoldable outcome : RawRecord → Bool → Result (Unit {0}) ReadFault
outcome r whole = if whole then Ok tt else Err (fault_at Magnification r)

pub returns-then-not-is_whole : goal.returns-then-not-is_whole
unfolding magnification_of outcome
returns-then-not-is_whole c =
    let whole =
    ap (λ value. is_whole value (pos 1)) (sym c.read.ensures) ∙ sym c.is_whole.ensures in
    sym (ap (outcome (raw c.args.from)) (whole ∙ c.if-not-is_whole.true)
    ∙ ap (λ fault. Err fault) (sym c.fault_of.ensures))

pub returns : goal.returns
unfolding magnification_of outcome
returns c =
    let whole =
    ap (λ value. is_whole value (pos 1)) (sym c.read.ensures) ∙ sym c.is_whole.ensures in
    sym (ap (outcome (raw c.args.from)) (whole ∙ c.if-not-is_whole.false))
