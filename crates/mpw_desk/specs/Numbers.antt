-- The numbers of connections: those before a desk was shared are less than those of its passes.
use Rattle.std.specs.Prelude.{◌<◌, ⊤, ℕ, List, All, Option, None, Some}
use Rattle.mpw_events.specs.declared.event.Call.{Call}
use Rattle.mpw_receipts.specs.Owner.{owner_of}

-- the owner of a call has a number less than the first one, if the call has an owner
abbrev pub IsBelow : ℕ → Option ℕ → Type 0
IsBelow first None = ⊤
IsBelow first (Some owner) = owner < first

-- each call of a connection has a number less than the first one
abbrev pub AreBelow : ℕ → List Call → Type 0
AreBelow first calls = All (λ call. IsBelow first (owner_of call)) calls
