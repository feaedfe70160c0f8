-- What a desk stores can be reopened.
use Rattle.std.specs.Prelude.{◌≡◌, ◌<◌, ◌≤◌, ◌^◌, ℕ, ◌+◌, true, List, ◌++◌, length}
use Rattle.sqlite.specs.State as sql
use Rattle.mpw_roles.specs.Hierarchy.{Name}
use Rattle.mpw_trail.specs.declared.entry.Entry.{Entry as Noted}
use Rattle.mpw_events.specs.GoingOn.{changes_of}
use Rattle.mpw_events.specs.History.{Desk, answering, new_desk, state_after, state_of}
use Rattle.mpw_events.specs.Step.{State, new_state}
use Rattle.mpw_events.specs.declared.event.Call.{Call}
use Rattle.mpw_events.specs.declared.event.Event.TheVariants as event
use Rattle.mpw_events.specs.declared.keeper.KeptChange.{KeptChange}
use Rattle.mpw_store_keeper.specs.Kept.{rows_from}
use Rattle.mpw_stored_desk.specs.Reopening.{CantGoOn, Reopens, gone_rows}
use Rattle.mpw_store_restoring.specs.Restoring.{Folds}
use Rattle.mpw_store_restoring.specs.Sessions.{AreOpen}
use Rattle.mpw_run_laws.specs.Right.{IsRightHistory}
use Rattle.mpw_store.specs.Changes.{HasRows, changes_schema}
use Rattle.mpw_store.specs.Reading.{AreEntries}
use Rattle.mpw_store_rows.specs.Rows.{Entry}
use Rattle.mpw_store_rows.specs.declared.row.TheConstants.{MAX_ROWS}
use Rattle.mpw_reopening_laws.specs.Leading.{AreStorable, LeadTo, reopened_state, trail_stored}

-- the rows of the stored changes of a legal history lead to its state
abbrev pub HistoriesCanBeReopened : Type 0
HistoriesCanBeReopened = (officer : Name) (digest : List ℕ) (calls : List Call)
    → IsRightHistory (new_state officer digest) calls → AreStorable calls
    → length (changes_of (new_state officer digest) calls) < 2 ^ 32
    → LeadTo officer digest (rows_from 1 (changes_of (new_state officer digest) calls))
    (state_after (new_state officer digest) calls) (trail_stored (new_state officer digest) calls)

-- A store whose rows can be reopened is reopened: a desk is made from its rows, the ends of the open sessions
-- are stored, and the desk is restarted and goes on. Then the rows of all changes that are known, with those
-- of the desk that goes on, can be reopened again, and lead to that desk's state
abbrev pub StoresCanBeReopenedAgain : Type 0
StoresCanBeReopenedAgain = (officer : Name) (digest : List ℕ) (found : List Entry) (s : State)
    (trail : List Noted) (whole : Desk) (closing : List ℕ) (known : List KeptChange)
    (calls : List Call)
    → LeadTo officer digest found s trail → Folds (new_desk officer digest) found whole
    → AreOpen whole closing
    → found ++ gone_rows (length found + 1) closing ≡ rows_from 1 known
    → let again : State = state_of (answering whole event.Restart true).desk in
    IsRightHistory again calls → AreStorable calls
    → length known + length (changes_of again calls) < 2 ^ 32
    → LeadTo officer digest (rows_from 1 (known ++ changes_of again calls))
    (state_after again calls) (trail ++ trail_stored again calls)

-- reopening a store with such rows gives a desk of that state, except that its sessions are ended
abbrev pub ReopenedDesksHaveTheState : sql.State → sql.State → Type 0
ReopenedDesksHaveTheState before later = (officer : Name) (digest : List ℕ)
    (entries : List Entry) (s : State) (trail : List Noted) (d : Desk) (count : ℕ)
    → LeadTo officer digest entries s trail → before.now.schema ≡ changes_schema
    → HasRows before.now.trees entries → Reopens officer digest before later d count
    → state_of d ≡ reopened_state s trail

-- a store with such rows is refused only if it has no place for the ends of the open sessions
abbrev pub RowsAreNeverBad : sql.State → Type 0
RowsAreNeverBad db = (officer : Name) (digest : List ℕ) (entries : List Entry) (s : State)
    (trail : List Noted) (place : ℕ) → LeadTo officer digest entries s trail
    → HasRows db.now.trees entries → AreEntries entries → length entries ≤ MAX_ROWS
    → CantGoOn officer digest db place → place ≡ MAX_ROWS + 1
