-- The invariants of the loops of `only_reference` in `src/way.rt`.
use Rattle.std.proofs.Common.{◌≡◌, ◌++◌, drop, filter}
use Rattle.mpw_firm_faults.specs.Lifting.{refers}
use Rattle.mpw_firm_faults.proofs.Ways.{listed}
use Rattle.mpw_firm_faults.proofs.way.only_reference.Given as goal

-- what was found, and then what is to be found, are all the elements that may refer to the structure
abbrev pub invariant-loop-span : goal.invariant-loop-span
invariant-loop-span l =
    listed l.found ++ filter (refers l.text l.name) (drop l.span-index l.spans)
    ≡ filter (refers l.text l.name) l.spans
