-- The invariants of the loops of `names_of` in `src/roster.rt`.
use Rattle.std.proofs.Common.{◌≡◌, take}
use Rattle.mpw_rbac.proofs.roster.names_of.Given as goal

abbrev pub invariant-loop-number : goal.invariant-loop-number
invariant-loop-number l = l.names ≡ take l.number l.register
