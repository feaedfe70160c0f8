-- The invariants of the loops of `without` in `src/cut.rt`.
use Rattle.std.proofs.Common.{◌≡◌, ◌++◌, drop}
use Rattle.mpw_firm_skipping.specs.Cuts.{left_from}
use Rattle.mpw_firm_skipping.proofs.cut.without.Given as goal

-- with the rest of the text from here on, the copy is complete
abbrev pub invariant-loop-cut : goal.invariant-loop-cut
invariant-loop-cut l = l.copy.items ++ left_from l.reached (drop l.cut-index l.cuts) l.text
    ≡ left_from 0 l.cuts l.text
