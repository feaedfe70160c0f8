-- Answers to the goals of `script_command` in `src/script.rt`.
use Rattle.std.proofs.Common.{codes}
use Rattle.std.proofs.lemmas.Result.{IfOk-weaker}
use Rattle.clap.specs.Words.{new_app}
use Rattle.mpw_settings.specs.Forms.{with_officer}
use Rattle.mpw_settings.proofs.script.script_command.Goals as goal

pub returns : goal.returns
returns c =
    let officer = c.in_ok-with_officer.ensures (new_app (codes "script"))
    c.new_command-command.ensures in
    IfOk-weaker c.with_store.result _ _ (λ with added.
    added (with_officer (new_app (codes "script"))) officer) c.with_store.ensures
