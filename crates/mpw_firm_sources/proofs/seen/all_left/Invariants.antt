-- The invariants of the loops of `all_left` in `src/seen.rt`.
use Rattle.std.proofs.Common.{◌≡◌, map, take}
use Rattle.mpw_firm_sources.specs.Seen.{told_left, told_seen}
use Rattle.mpw_firm_sources.proofs.seen.all_left.Given as goal

abbrev pub invariant-loop-fault : goal.invariant-loop-fault
invariant-loop-fault l =
    (l.lifts ≡ l.initial.lifts)
    × (map told_seen l.faults.items ≡ map (told_left l.source l.lifts) (take l.fault-index l.found))
