-- What contracts see of the desk under the lock, of a pass, and of a ledger with a register that have no name
-- yet.
use Rattle.std.specs.Prelude.{ℕ, Bool, List, [], None}
use Rattle.atomic_table.specs.Seated.{TableId}
use Rattle.mpw_events.specs.declared.event.Call.{Call}
use Rattle.mpw_events.specs.History.{KeptDesk, kept_desk, new_desk}

-- the desk with its store writer, the calls since it was shared, how many were counted, the number of the
-- next pass's connection, how many passes were made, and whether its workers are to end
pub record LockedDesk : Type 0 where
  pub kept : KeptDesk
  pub calls : List Call
  pub total : ℕ
  pub next : ℕ
  pub made : ℕ
  pub is_stopped : Bool

-- a pass: the number of its connection, the calls of that connection, and how many calls the pass made,
-- including a worker's
pub record PassView : Type 0 where
  pub connection : ℕ
  pub receipts : List Call
  pub count : ℕ

-- the name and the parts of the ledger, and the table of the register
pub record BlankView : Type 0 where
  pub name : ℕ
  pub parts : ℕ
  pub table : TableId

-- a value in place of a desk if there is none
abbrev pub no_desk : KeptDesk
no_desk = kept_desk (new_desk [] []) None 0
