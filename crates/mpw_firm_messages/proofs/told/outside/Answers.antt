-- Answers to the goals of `outside` in `src/told.rt`.
use Rattle.std.proofs.Common.{subst}
use Rattle.std.specs.String.{string_bytes}
use Rattle.mpw_firm_messages.specs.Told.{Refuses}
use Rattle.mpw_firm_messages.specs.ToldFaults.{outside_text}
use Rattle.mpw_firm_messages.proofs.told.outside.Goals as goal

pub returns-in-Ok : goal.returns-in-Ok
unfolding outside_text
returns-in-Ok c =
    subst (λ names. Refuses (outside_text c.args.file.now names) c.refusal.result) c.in-Ok.ensures
    (c.refusal.ensures (outside_text c.args.file.now (string_bytes c.in-Ok.names))
    c.format.ensures.ok)
