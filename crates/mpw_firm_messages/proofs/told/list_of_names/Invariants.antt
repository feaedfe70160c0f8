-- The invariants of the loops of `list_of_names` in `src/told.rt`.
use Rattle.std.proofs.Common.{◌≡◌, take}
use Rattle.std.specs.String.{string_bytes}
use Rattle.mpw_firm_messages.specs.ToldFaults.{spaced}
use Rattle.mpw_firm_messages.proofs.told.list_of_names.Given as goal

abbrev pub invariant-loop-name : goal.invariant-loop-name
invariant-loop-name l = string_bytes l.text ≡ spaced (take l.name-index l.name-items)
