-- The invariants of the loops of `write_bytes` in `src/write.rt`.
use Rattle.std.proofs.Common.{◌≡◌, ◌-◌, ◌≤◌, length, take}
use Rattle.std.specs.Io.KnownBytes.{Appends}
use Rattle.mpw_reply_text.proofs.write.write_bytes.Given as goal

abbrev pub invariant-loop-written : goal.invariant-loop-written
invariant-loop-written g l =
    Appends (g.W.Sink.contents l.initial.writer) (g.W.Sink.contents l.writer)
    (take l.written l.bytes)
    × (g.W.Sink.failures l.writer ≡ g.W.Sink.failures l.initial.writer)
    × (l.written ≤ length l.bytes)

abbrev pub decreases-loop-written : goal.decreases-loop-written
decreases-loop-written g l = length l.bytes - l.written
