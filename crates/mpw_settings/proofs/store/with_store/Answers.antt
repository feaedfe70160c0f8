-- Answers to the goals of `with_store` in `src/store.rt`.
use Rattle.std.proofs.Common.{codes}
use Rattle.std.proofs.lemmas.Result.{IfOk-weaker}
use Rattle.clap.specs.Words.{with_rule}
use Rattle.mpw_settings.specs.Forms.{flag, free_option}
use Rattle.mpw_settings.proofs.store.with_store.Goals as goal

pub returns : goal.returns
returns c =
    let store = free_option (codes "store") in
    let existing = flag (codes "existing") in
    let new = flag (codes "new") in
    IfOk-weaker c.with_option-4.result _ _ (λ with added app form.
    added (with_rule (with_rule (with_rule app store) existing) new) (flag (codes "private"))
    (c.in_ok-with_option-2.ensures (with_rule (with_rule app store) existing) new
    (c.in_ok-command.ensures (with_rule app store) existing
    (c.in_ok-with_option.ensures app store form c.free_option-store.ensures)
    c.flag-existing.ensures) c.flag-new.ensures) c.flag-private.ensures) c.with_option-4.ensures
