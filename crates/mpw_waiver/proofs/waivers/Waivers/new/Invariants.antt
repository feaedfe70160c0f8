-- The invariants of the loops of `Waivers::new` in `src/waivers.rt`.
use Rattle.std.proofs.Common.{◌≡◌, replicate, None}
use Rattle.mpw_waiver.proofs.waivers.Waivers.new.Given as goal

abbrev pub invariant-loop : goal.invariant-loop
invariant-loop l = l.places.items ≡ replicate l.counter None
