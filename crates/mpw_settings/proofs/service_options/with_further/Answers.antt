-- Answers to the goals of `with_further` in `src/service_options.rt`.
use Rattle.std.proofs.Common.{codes}
use Rattle.std.proofs.lemmas.Result.{IfOk-weaker}
use Rattle.clap.specs.Words.{with_rule}
use Rattle.mpw_settings.specs.Forms.{flag, free_option, idle_option}
use Rattle.mpw_settings.proofs.service_options.with_further.Goals as goal

pub returns : goal.returns
returns c =
    let ongoing = flag (codes "ongoing") in
    let log = free_option (codes "log") in
    IfOk-weaker c.with_option-4.result _ _ (λ with added app form.
    added (with_rule (with_rule (with_rule app ongoing) idle_option) log) (flag (codes "hold-run"))
    (c.in_ok-with_option-2.ensures (with_rule (with_rule app ongoing) idle_option) log
    (c.in_ok-command.ensures (with_rule app ongoing) idle_option
    (c.in_ok-with_option.ensures app ongoing form c.flag-ongoing.ensures) c.idle_option.ensures)
    c.free_option-log.ensures) c.flag-hold.ensures) c.with_option-4.ensures
