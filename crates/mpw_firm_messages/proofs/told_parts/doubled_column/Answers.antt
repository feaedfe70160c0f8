-- Answers to the goals of `doubled_column` in `src/told_parts.rt`.
use Rattle.std.proofs.Common.{subst}
use Rattle.std.specs.String.{string_bytes}
use Rattle.mpw_firm_messages.specs.Told.{Refuses}
use Rattle.mpw_firm_messages.specs.ToldParts.{doubled_text}
use Rattle.mpw_firm_messages.proofs.told_parts.doubled_column.Goals as goal

pub returns-in-Ok : goal.returns-in-Ok
unfolding doubled_text
returns-in-Ok c =
    subst (λ names. Refuses (doubled_text c.args.column names) c.refusal.result) c.in-Ok.ensures
    (c.refusal.ensures (doubled_text c.args.column (string_bytes c.in-Ok.names)) c.format.ensures.ok)
