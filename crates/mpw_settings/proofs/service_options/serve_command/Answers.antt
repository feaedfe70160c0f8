-- Answers to the goals of `serve_command` in `src/service_options.rt`.
use Rattle.std.proofs.Common.{codes}
use Rattle.std.proofs.lemmas.Result.{IfOk-weaker}
use Rattle.clap.specs.Words.{new_app}
use Rattle.mpw_settings.specs.Forms.{with_further, with_required, with_strangers}
use Rattle.mpw_settings.proofs.service_options.serve_command.Goals as goal

pub returns : goal.returns
returns c =
    let app = new_app (codes "serve") in
    let required = c.in_ok-with_required.ensures app c.new_command-command.ensures in
    let further = c.in_ok-command.ensures (with_required app) required in
    let strangers = c.in_ok-with_strangers.ensures (with_further (with_required app)) further in
    IfOk-weaker c.with_store.result _ _ (λ with added.
    added (with_strangers (with_further (with_required app))) strangers) c.with_store.ensures
