-- The invariants of the loops of `write_parts` in `src/write.rt`.
use Rattle.std.proofs.Common.{◌≡◌, take}
use Rattle.std.specs.List.{flat_map}
use Rattle.std.specs.Io.KnownBytes.{Appends}
use Rattle.mpw_reply_text.proofs.write.write_parts.Given as goal

abbrev pub invariant-loop-part : goal.invariant-loop-part
invariant-loop-part g l =
    Appends (g.W.Sink.contents l.initial.writer) (g.W.Sink.contents l.writer)
    (flat_map (λ part. part.now) (take l.part-index l.parts))
    × (g.W.Sink.failures l.writer ≡ g.W.Sink.failures l.initial.writer)
