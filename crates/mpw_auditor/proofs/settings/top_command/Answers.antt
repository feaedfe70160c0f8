-- Answers to the goals of `top_command` in `src/settings.rt`.
use Rattle.std.proofs.Common.{ap, ◌∙◌, ◌≡◌, codes, true}
use Rattle.clap.specs.Words.{App, app_of, new_app}
use Rattle.clap.specs.Simple.{app_of_fields}
use Rattle.mpw_auditor.proofs.settings.top_command.Goals as goal

pub returns : goal.returns
returns c =
    let about_is : app_of c.about.result ≡ new_app (codes "mpw") = ap app_of_fields c.about.ensures
    ∙ c.new.ensures.app in
    ap app_of_fields c.subcommand_required.ensures
    ∙ ap (λ (a : App). record a { top = record a.top { subcommand_required = true } }) about_is
