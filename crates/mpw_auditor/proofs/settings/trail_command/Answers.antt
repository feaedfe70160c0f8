-- Answers to the goals of `trail_command` in `src/settings.rt`.
use Rattle.std.proofs.Common.{codes}
use Rattle.std.proofs.lemmas.Result.{IfOk-weaker}
use Rattle.clap.specs.Words.{new_app, with_rule}
use Rattle.mpw_auditor.specs.Forms.{payload_rule, word_rule}
use Rattle.mpw_auditor.proofs.settings.trail_command.Goals as goal

pub returns : goal.returns
returns c =
    let app = new_app (codes "trail") in
    let first = c.in_ok-with_argument.ensures app (word_rule (codes "file"))
    c.new_command-command.ensures c.word-file.ensures in
    IfOk-weaker c.with_argument-2.result _ _ (λ with added.
    added (with_rule app (word_rule (codes "file"))) (payload_rule) first c.payload_option.ensures)
    c.with_argument-2.ensures
