-- Answers to the goals of `with_required` in `src/service_options.rt`.
use Rattle.std.proofs.Common.{codes}
use Rattle.std.proofs.lemmas.Result.{IfOk-weaker}
use Rattle.clap.specs.Words.{with_rule}
use Rattle.mpw_settings.specs.Forms.{required_option}
use Rattle.mpw_settings.proofs.service_options.with_required.Goals as goal

pub returns : goal.returns
returns c =
    let listen = required_option (codes "listen") in
    let connections = required_option (codes "connections") in
    let workers = required_option (codes "workers") in
    IfOk-weaker c.with_officer.result _ _ (λ with added app form.
    added (with_rule (with_rule (with_rule app listen) connections) workers)
    (c.in_ok-with_option-2.ensures (with_rule (with_rule app listen) connections) workers
    (c.in_ok-command.ensures (with_rule app listen) connections
    (c.in_ok-with_option.ensures app listen form c.required_option-listen.ensures)
    c.required_option-connections.ensures) c.required_option-workers.ensures))
    c.with_officer.ensures
