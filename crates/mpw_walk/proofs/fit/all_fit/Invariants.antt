-- The invariants of the loops of `all_fit` in `src/fit.rt`.
use Rattle.std.proofs.Common.{take}
use Rattle.std.specs.Prelude.{All}
use Rattle.mpw_walk.specs.Walk.{IsRoot}
use Rattle.mpw_walk.proofs.fit.all_fit.Given as goal

abbrev pub invariant-loop-root : goal.invariant-loop-root
invariant-loop-root l = All (IsRoot l.shelf) (take l.root-index l.roots)
