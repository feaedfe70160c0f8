-- Answers to the goals of `put_listing` in `src/listed.rt`.
use Rattle.std.proofs.Common.{subst}
use Rattle.std.specs.Prelude.{IfErr}
use Rattle.std.proofs.lemmas.Result.{IfOk-weaker}
use Rattle.mpw_firm_outputs.specs.Outputs.{IsUnput}
use Rattle.mpw_firm_outputs.proofs.Growth.{puts_whole}
use Rattle.mpw_firm_outputs.proofs.listed.put_listing.Goals as goal

pub returns-clause-kept : goal.returns-clause-kept
returns-clause-kept g c =
    IfOk-weaker c.keep.result _ _
    (λ x p. puts_whole _ _ _ _ _ _ _ _ c.in_ok-draft.ensures.kept c.in_ok-draft.ensures.empty
    c.in_default.ensures.written c.in_ok-draft.ensures.place p)
    c.keep.ensures.kept

pub returns-clause-refused : goal.returns-clause-refused
returns-clause-refused g c =
    subst (λ place. IfErr c.keep.result (IsUnput place)) c.in_ok-draft.ensures.place
    c.keep.ensures.refused
