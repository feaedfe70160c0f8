-- The invariants of the loops of `submission_lists` in `src/unnamed.rt`.
use Rattle.mpw_firm_layers.specs.Internal.Gathered.{AreGathered}
use Rattle.mpw_firm_layers.proofs.unnamed.submission_lists.Given as goal

abbrev pub invariant-loop-place : goal.invariant-loop-place
invariant-loop-place l = AreGathered l.shelf l.rules l.place l.lists.items
