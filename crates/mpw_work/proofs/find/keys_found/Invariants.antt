-- The invariants of the loops of `keys_found` in `src/find.rt`.
use Rattle.std.specs.Prelude.{IfSome}
use Rattle.mpw_job.specs.Answers.{listed_on}
use Rattle.mpw_work.specs.Internal.Found.{AreFirstKeys}
use Rattle.mpw_work.specs.Internal.Shared.{IsSharedOf}
use Rattle.mpw_work.proofs.find.keys_found.Given as goal

abbrev pub invariant-loop-place : goal.invariant-loop-place
invariant-loop-place l = AreFirstKeys l.job l.place l.keys.items
    × IfSome l.held (IsSharedOf l.core (listed_on l.rectangles))
