-- The invariants of the loops of `of_elements` in `src/faults.rt`.
use Rattle.std.proofs.Common.{◌≡◌, take}
use Rattle.std.specs.List.{flat_map}
use Rattle.mpw_firm_faults.specs.Faults.{own_fault, told}
use Rattle.mpw_firm_faults.proofs.faults.of_elements.Given as goal

-- the faults are those of the elements so far
abbrev pub invariant-loop-span : goal.invariant-loop-span
invariant-loop-span l = l.found.items
    ≡ flat_map (λ e. told e (own_fault l.unit l.text e.start)) (take l.span-index l.span-items)
