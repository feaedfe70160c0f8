-- Answers to the goals of `program_command` in `src/settings.rt`.
use Rattle.std.proofs.Common.{ap, ap₂, ◌∙◌, ◌≡◌, codes, true}
use Rattle.std.proofs.lemmas.Result.{IfOk-weaker}
use Rattle.clap.specs.Words.{App, app_of, new_app, with_subcommand}
use Rattle.clap.specs.Simple.{app_of_fields}
use Rattle.mpw_settings.specs.Forms.{program_app, top_app}
use Rattle.mpw_settings.proofs.settings.program_command.Goals as goal

pub returns : goal.returns
unfolding program_app
returns c =
    let about_is : app_of c.about.result ≡ new_app (codes "mpw") = ap app_of_fields c.about.ensures
    ∙ c.new.ensures.app in
    let top_is : app_of c.subcommand_required.result ≡ top_app =
    ap app_of_fields c.subcommand_required.ensures
    ∙ ap (λ (a : App). record a { top = record a.top { subcommand_required = true } })
    about_is in
    let script = c.in_ok-script_command.ensures in
    let serve = c.in_ok-serve_command.ensures in
    let first = c.in_ok-subcommand.ensures.shape script.1
    ∙ ap₂ with_subcommand top_is (ap (λ (a : App). a.top) script.0) in
    IfOk-weaker c.subcommand-2.result _ _ (λ r h. h.shape serve.1
    ∙ ap₂ with_subcommand first (ap (λ (a : App). a.top) serve.0)) c.subcommand-2.ensures
