-- The invariants of the loops of `add_all` in `src/settled.rt`.
use Rattle.std.proofs.Common.{◌≡◌, ◌++◌, drop}
use Rattle.mpw_roles.proofs.settled.add_all.Given as goal

-- the names in the set and those that are left are all
abbrev pub invariant-loop-name : goal.invariant-loop-name
invariant-loop-name l = l.set.keys ++ drop l.name-index l.names ≡ l.fn.set.keys ++ l.names
