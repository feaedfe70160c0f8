-- The invariants of the loops of `write_again` in `src/device.rt`.
use Rattle.std.specs.Io.KnownBytes.{Keeps}
use Rattle.mpw_devices.proofs.device.write_again.Given as goal

abbrev pub invariant-loop : goal.invariant-loop
invariant-loop g l = Keeps (g.W.Write.contents l.initial.writer) (g.W.Write.contents l.writer)
