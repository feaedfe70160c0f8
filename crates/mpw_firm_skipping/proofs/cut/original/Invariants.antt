-- The invariants of the loops of `original` in `src/cut.rt`.
use Rattle.std.proofs.Common.{◌≡◌, drop}
use Rattle.mpw_firm_skipping.specs.Cuts.{original_from}
use Rattle.mpw_firm_skipping.proofs.cut.original.Given as goal

abbrev pub invariant-loop-cut : goal.invariant-loop-cut
invariant-loop-cut l =
    original_from l.reached (drop l.cut-index l.cuts) l.left ≡ original_from 0 l.cuts l.at
