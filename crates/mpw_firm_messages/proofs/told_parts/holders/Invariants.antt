-- The invariants of the loops of `holders` in `src/told_parts.rt`.
use Rattle.std.proofs.Common.{◌≡◌, take}
use Rattle.std.specs.String.{string_bytes}
use Rattle.mpw_firm_messages.specs.ToldParts.{names_with}
use Rattle.mpw_firm_messages.proofs.told_parts.holders.Given as goal

abbrev pub invariant-loop-file : goal.invariant-loop-file
invariant-loop-file l = string_bytes l.names ≡ names_with l.column (take l.file-index l.files)
