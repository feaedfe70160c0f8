-- The invariants of the loops of `all_seen` in `src/seen.rt`.
use Rattle.std.proofs.Common.{◌≡◌, map, take}
use Rattle.mpw_firm_sources.specs.Seen.{told_by, told_seen}
use Rattle.mpw_firm_sources.proofs.seen.all_seen.Given as goal

abbrev pub invariant-loop-fault : goal.invariant-loop-fault
invariant-loop-fault l =
    (l.lifts ≡ l.initial.lifts)
    × (map told_seen l.faults.items ≡ map (told_by l.source l.lifts) (take l.fault-index l.found))
