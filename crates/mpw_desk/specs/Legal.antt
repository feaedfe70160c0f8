-- How a shared desk changes: by which calls, and which of them its store writer stored.
use Rattle.std.specs.Prelude.{◌≡◌, ◌≢◌, ◌≤◌, ◌+◌, ℕ, false, List, [], ◌∷◌, ◌++◌, All, length, not}
use Rattle.mpw_events.specs.declared.event.Call.{Call}
use Rattle.mpw_events.specs.History.{IsLegal, KeptDesk, max_events, restarts, state_of}
use Rattle.mpw_events.specs.Keeping.{failed_after}

-- how many failures a store writer has after calls: one more for each that wasn't stored
abbrev pub failures_after : ℕ → List Call → ℕ
failures_after failures [] = failures
failures_after failures (call ∷ calls) =
    failures_after (failed_after failures (not call.kept)) calls

-- each of the calls since the desk was shared is legal, and none is a restart. The history had room for each:
-- if there is one, the calls before the desk was shared and these are together no more than the greatest number
-- of calls. The store writer failed exactly at those that weren't stored
pub record GoesLegally (begun kept : KeptDesk) (calls : List Call) : Type 0 where
  pub legal : IsLegal (state_of begun.desk) calls
  pub no_restart : All (λ call. restarts call.event ≡ false) calls
  pub within : calls ≢ [] → length begun.desk.history + length calls ≤ max_events
  pub failures : kept.failures ≡ failures_after begun.failures calls

-- this holds of the calls that were added to the history
pub record WentLegally (begun left : KeptDesk) : Type 0 where
  pub calls : List Call
  pub history : left.desk.history ≡ begun.desk.history ++ calls
  pub legally : GoesLegally begun left calls
