-- The invariants of the loops of `reached` in `src/record.rt`.
use Rattle.std.proofs.Common.{◌≤◌, length, take}
use Rattle.mpw_firm_sources.specs.Fronts.{AreRecords}
use Rattle.mpw_firm_sources.proofs.record.reached.Given as goal

-- all records before the byte are whole
abbrev pub invariant-loop : goal.invariant-loop
invariant-loop l = (l.at ≤ length l.bytes) × AreRecords (take l.at l.bytes)
