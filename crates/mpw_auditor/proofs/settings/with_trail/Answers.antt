-- Answers to the goals of `with_trail` in `src/settings.rt`.
use Rattle.std.proofs.Common.{ap, ◌∙◌}
use Rattle.std.proofs.lemmas.Result.{IfOk-weaker}
use Rattle.clap.specs.Words.{App, app_of, with_subcommand}
use Rattle.mpw_auditor.proofs.settings.with_trail.Goals as goal

pub returns : goal.returns
returns c =
    let trail = c.in_ok-trail_command.ensures in
    IfOk-weaker c.subcommand.result _ _ (λ with h. h.shape trail.1
    ∙ ap (λ (a : App). with_subcommand (app_of c.args.command) a.top) trail.0) c.subcommand.ensures
