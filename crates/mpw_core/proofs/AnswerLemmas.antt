-- What a group of requests made of its decision table gives the table's outcome.
use Rattle.std.proofs.Common.{◌≡◌, Result, Ok, Err, refl, ap, subst}
use Rattle.std.specs.Prelude.{⊤}
use Rattle.mpw_rbac.specs.declared.refusal.Refusal.{Refusal}
use Rattle.mpw_replies.specs.Rows.{Answers}
use Rattle.mpw_replies.specs.declared.row.Done.{Done}
use Rattle.mpw_replies.specs.declared.row.Done.TheVariants.{Lists, Changes}
use Rattle.mpw_replies.specs.declared.row.Ending.{Ending}
use Rattle.mpw_replies.specs.declared.row.Fault.{Fault}
use Rattle.mpw_replies.specs.declared.row.Fault.TheVariants as fault
use Rattle.mpw_core.specs.Internal.Answer.{ComesTo, ended}
use Rattle.mpw_events.specs.Step.{State, ending_of, outcome_by}

-- if what was made is the table's part
comes : {E P : Type 0} (ending : E → Ending) (over : P → State) (s : State)
    (made : Result (Done P) (Fault E)) (row : Result (Done P) E) → Answers (λ done. done) made row
    → ComesTo ending over (λ part. ⊤) s made (outcome_by ending over s row)
comes ending over s (Ok (Lists lines)) row is = ap (outcome_by ending over s) is
comes ending over s (Ok (Changes part lines)) row is = (ap (outcome_by ending over s) is, tt)
comes ending over s (Err (fault.Told e)) row is = ap (outcome_by ending over s) is
comes ending over s (Err fault.Memory) row is = tt

-- the same of a table of the policy, which ends with a refusal
ended-same : {P : Type 0} (over : P → State) (s : State) (row : Result (Done P) Refusal)
    → outcome_by (λ e. e) over s (ended row) ≡ outcome_by ending_of over s row
ended-same over s (Ok (Lists lines)) = refl
ended-same over s (Ok (Changes part lines)) = refl
ended-same over s (Err refusal) = refl

pub comes_ended : {P : Type 0} (over : P → State) (s : State)
    (made : Result (Done P) (Fault Ending)) (row : Result (Done P) Refusal)
    → Answers (λ done. done) made (ended row)
    → ComesTo (λ e. e) over (λ part. ⊤) s made (outcome_by ending_of over s row)
comes_ended over s made row is =
    subst (ComesTo (λ e. e) over (λ part. ⊤) s made) (ended-same over s row)
    (comes (λ e. e) over s made (ended row) is)
