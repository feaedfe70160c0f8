-- The invariants of the loops of `read_again` in `src/device.rt`.
use Rattle.std.specs.Io.KnownBytes.{Keeps}
use Rattle.mpw_firm_sources.proofs.device.read_again.Given as goal

abbrev pub invariant-loop : goal.invariant-loop
invariant-loop g l = Keeps (g.R.Read.remaining l.initial.reader) (g.R.Read.remaining l.reader)
