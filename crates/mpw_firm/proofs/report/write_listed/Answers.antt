-- Answers to the goals of `write_listed` in `src/report.rt`.
use Rattle.std.proofs.Common.{List, option_map, subst}
use Rattle.std.proofs.lemmas.Result.{IfOk-weaker}
use Rattle.std.specs.String.{string_bytes}
use Rattle.mpw_firm_outputs.proofs.Growth.{grows_more}
use Rattle.mpw_firm_outputs.specs.Outputs.{Grows, Kept}
use Rattle.mpw_firm.proofs.HeldTexts.{told_same}
use Rattle.mpw_firm.proofs.report.write_listed.Goals as goal

pub returns-clause-kept : goal.returns-clause-kept
returns-clause-kept g c = λ book is.
    let same = told_same c.first_markers_are_listed.ensures c.first_markers_have_the_items.ensures
    (option_map string_bytes c.args.file.now) c.args.checked.now book is in
    IfOk-weaker c.report.result _ _
    (λ x p. subst (λ (texts : List Kept). Grows (g.O.Outputs.kept c.args.outputs.now)
    (g.O.Outputs.kept c.report.new.outputs) texts) same
    (grows_more _ _ _ _ _ c.in_ok-list.ensures.kept p))
    c.report.ensures.kept
