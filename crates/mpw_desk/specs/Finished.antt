-- A desk whose passes have all come back.
use Rattle.std.specs.Prelude.{◌≡◌, List, ◌++◌, All, length}
use Rattle.std.specs.List.{sum_by}
use Rattle.mpw_events.specs.declared.event.Call.{Call}
use Rattle.mpw_events.specs.GoingOn.{GoesOnTo}
use Rattle.mpw_events.specs.History.{KeptDesk}
use Rattle.mpw_receipts.specs.Calls.{calls_of}
use Rattle.mpw_receipts.specs.Owner.{owner_of}
use Rattle.mpw_desk.specs.Values.{PassView}

-- the receipts of each pass are the calls of its connection, each once, in order
abbrev pub AreReceipts : List Call → List PassView → Type 0
AreReceipts calls passes =
    All (λ p. p.receipts ≡ calls_of owner_of p.connection calls) passes

-- the calls since the desk was shared are as many as the passes made; they lead to the desk's state, and its
-- store writer has their changes. Each pass has exactly the calls of its connection in the whole history
pub record IsFinished (begun left : KeptDesk) (passes : List PassView) : Type 0 where
  pub calls : List Call
  pub history : left.desk.history ≡ begun.desk.history ++ calls
  pub goes : GoesOnTo begun left
  pub counted : sum_by (λ p. p.count) passes ≡ length calls
  pub receipts : AreReceipts left.desk.history passes
