-- The invariants of the loops of `firsts_of` in `src/group_firsts.rt`.
use Rattle.std.proofs.Common.{take}
use Rattle.std.specs.List.{AllZip}
use Rattle.mpw_check.specs.Internal.Groups.{AreGroupFirsts}
use Rattle.mpw_check.proofs.group_firsts.firsts_of.Given as goal

abbrev pub invariant-loop-group : goal.invariant-loop-group
invariant-loop-group g l =
    AllZip (AreGroupFirsts l.fn.sought.most l.fn.sought.snapshot.now)
    (take l.group-index l.fn.groups) l.firsts.items
