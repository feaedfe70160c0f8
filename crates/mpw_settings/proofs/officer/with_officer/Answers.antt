-- Answers to the goals of `with_officer` in `src/officer.rt`.
use Rattle.std.proofs.Common.{codes}
use Rattle.std.proofs.lemmas.Result.{IfOk-weaker}
use Rattle.clap.specs.Words.{with_rule}
use Rattle.mpw_settings.specs.Forms.{required_option}
use Rattle.mpw_settings.proofs.officer.with_officer.Goals as goal

pub returns : goal.returns
returns c = IfOk-weaker c.with_option-2.result _ _ (λ with added app form.
    added (with_rule app (required_option (codes "officer"))) (required_option (codes "digest"))
    (c.in_ok-with_option.ensures app (required_option (codes "officer")) form
    c.required_option-officer.ensures) c.required_option-digest.ensures) c.with_option-2.ensures
