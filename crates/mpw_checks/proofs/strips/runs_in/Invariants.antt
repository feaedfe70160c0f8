-- The invariants of the loops of `runs_in` in `src/strips.rt`.
use Rattle.std.proofs.Common.{take, []}
use Rattle.mpw_region.specs.Internal.Runs.{Adds}
use Rattle.mpw_checks.specs.Strips.{FindsIn}
use Rattle.mpw_checks.proofs.strips.runs_in.Given as goal

abbrev pub invariant-loop-strip : goal.invariant-loop-strip
invariant-loop-strip l =
    Adds [] l.found.items (λ line j. FindsIn (take l.strip-index l.strips) l.rule line j)
