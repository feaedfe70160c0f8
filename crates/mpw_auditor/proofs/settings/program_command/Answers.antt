-- Answers to the goals of `program_command` in `src/settings.rt`.
use Rattle.std.proofs.Common.{ap, ◌∙◌}
use Rattle.std.proofs.lemmas.Result.{IfOk-weaker}
use Rattle.clap.specs.Words.{App, with_subcommand}
use Rattle.mpw_auditor.specs.Forms.{program_app, store_app, trail_app}
use Rattle.mpw_auditor.proofs.settings.program_command.Goals as goal

pub returns : goal.returns
unfolding program_app
returns c =
    let first = c.in_ok-with_trail.ensures
    ∙ ap (λ (a : App). with_subcommand a trail_app.top) c.top_command.ensures in
    IfOk-weaker c.with_store.result _ _ (λ with h. h
    ∙ ap (λ (a : App). with_subcommand a store_app.top) first) c.with_store.ensures
