-- Answers to the goals of `read_settings` in `src/settings.rt`.
use Rattle.std.proofs.Common.{◌≡◌, ◌∙◌, sym, ap, refl, map, subst, true}
use Rattle.std.proofs.lemmas.Result.{IfOk-weaker}
use Rattle.clap.specs.Words.{App, HasKind, fault_of, is_simple, is_simple_and_free, subcommand_of}
use Rattle.clap.proofs.OnLiterals.{clap_on_literals}
use Rattle.mpw_auditor.specs.Forms.{program_app}
use Rattle.mpw_auditor.proofs.SettingsLemmas.{given-of, help-among, none-of, other-none, passed-on, refused-more}
use Rattle.mpw_auditor.proofs.settings.read_settings.Goals as goal

is_ready : is_simple program_app ≡ true
unfolding clap_on_literals program_app
is_ready = refl

is_free : is_simple_and_free program_app ≡ true
unfolding clap_on_literals program_app
is_free = refl

pub returns-in-Ok-clause-ok : goal.returns-in-Ok-clause-ok
returns-in-Ok-clause-ok c =
    let app_is = c.in_ok-program_command.ensures in
    let words = map (λ word. word.now) c.args.words.now in
    let found = (c.in-Ok.ensures.matches (ap is_simple app_is ∙ is_ready)).1
    ∙ ap (λ (a : App). subcommand_of a words) app_is in
    let taken = ap (λ (a : App). fault_of a words) (sym app_is)
    ∙ c.in-Ok.ensures.kinds (ap is_simple_and_free app_is ∙ is_free) in
    IfOk-weaker c.asked_of.result _ _ (λ asked h. given-of words asked _ taken found h)
    c.asked_of.ensures.ok

pub returns-in-Ok-clause-refused : goal.returns-in-Ok-clause-refused
returns-in-Ok-clause-refused c =
    let app_is = c.in_ok-program_command.ensures in
    let words = map (λ word. word.now) c.args.words.now in
    let found = (c.in-Ok.ensures.matches (ap is_simple app_is ∙ is_ready)).1
    ∙ ap (λ (a : App). subcommand_of a words) app_is in
    let taken = ap (λ (a : App). fault_of a words) (sym app_is)
    ∙ c.in-Ok.ensures.kinds (ap is_simple_and_free app_is ∙ is_free) in
    refused-more c.asked_of.result _ _ (none-of words _ taken found)
    c.asked_of.ensures.refused

pub returns-in_ok-help_of-in-Err-clause-ok : goal.returns-in_ok-help_of-in-Err-clause-ok
returns-in_ok-help_of-in-Err-clause-ok c =
    let app_is = c.in_ok-program_command.ensures in
    let words = map (λ word. word.now) c.args.words.now in
    let kinds = subst (λ k. HasKind k c.in-Err.error) (ap (λ (a : App). fault_of a words) app_is)
    (c.in-Err.ensures.kinds (ap is_simple_and_free app_is ∙ is_free)) in
    help-among _ c.in-Err.error c.in_ok-help_of-in-Err.ensures.ok kinds

pub returns-in_err-help_of-in-Err-clause-refused : goal.returns-in_err-help_of-in-Err-clause-refused
returns-in_err-help_of-in-Err-clause-refused c =
    let app_is = c.in_ok-program_command.ensures in
    let words = map (λ word. word.now) c.args.words.now in
    let kinds = subst (λ k. HasKind k c.in-Err.error) (ap (λ (a : App). fault_of a words) app_is)
    (c.in-Err.ensures.kinds (ap is_simple_and_free app_is ∙ is_free)) in
    passed-on c.from_residual-in_err-help_of-in-Err.result _ _ _
    c.from_residual-in_err-help_of-in-Err.ensures.1
    (λ other. other-none words c.in-Err.error other kinds) c.in_err-help_of-in-Err.ensures.refused
