-- Answers to the goals of `with_store` in `src/settings.rt`.
use Rattle.std.proofs.Common.{ap, ◌∙◌}
use Rattle.std.proofs.lemmas.Result.{IfOk-weaker}
use Rattle.clap.specs.Words.{App, app_of, with_subcommand}
use Rattle.mpw_auditor.proofs.settings.with_store.Goals as goal

pub returns : goal.returns
returns c =
    let store = c.in_ok-store_command.ensures in
    IfOk-weaker c.subcommand.result _ _ (λ with h. h.shape store.1
    ∙ ap (λ (a : App). with_subcommand (app_of c.args.command) a.top) store.0) c.subcommand.ensures
