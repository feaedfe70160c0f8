-- The invariants of the loops of `Locked::new` in `src/locked.rt`.
use Rattle.std.proofs.Common.{◌≡◌, []}
use Rattle.mpw_desk.proofs.locked.Locked.new.Given as goal

-- no call is registered, and the next number is the one that is counted
abbrev pub invariant-loop : goal.invariant-loop
invariant-loop g l = (l.register.calls ≡ []) × (l.register.next ≡ l.counter)
