-- The invariants of the loops of `take_bytes` in `src/line.rt`.
use Rattle.std.proofs.Common.{◌≡◌, length}
use Rattle.std.specs.Io.KnownBytes.{Consumes}
use Rattle.mpw_wire.proofs.line.take_bytes.Given as goal

-- the bytes so far, one each turn, are off the front
abbrev pub invariant-loop : goal.invariant-loop
invariant-loop g l =
    Consumes (g.R.Source.remaining l.initial.reader) (g.R.Source.remaining l.reader) l.bytes.items
    × (length l.bytes.items ≡ l.counter)
    × (g.R.Source.failures l.reader ≡ g.R.Source.failures l.initial.reader)
