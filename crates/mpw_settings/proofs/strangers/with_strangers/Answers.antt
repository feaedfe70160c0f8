-- Answers to the goals of `with_strangers` in `src/strangers.rt`.
use Rattle.std.proofs.Common.{codes}
use Rattle.std.proofs.lemmas.Result.{IfOk-weaker}
use Rattle.clap.specs.Words.{with_rule}
use Rattle.mpw_settings.specs.Forms.{free_option}
use Rattle.mpw_settings.proofs.strangers.with_strangers.Goals as goal

pub returns : goal.returns
returns c =
    let memory = free_option (codes "stranger-memory") in
    let rate = free_option (codes "stranger-rate") in
    IfOk-weaker c.with_option-3.result _ _ (λ with added app form.
    added (with_rule (with_rule app memory) rate) (free_option (codes "login-limit"))
    (c.in_ok-command.ensures (with_rule app memory) rate
    (c.in_ok-with_option.ensures app memory form c.free_option-memory.ensures)
    c.free_option-rate.ensures) c.free_option-login.ensures) c.with_option-3.ensures
