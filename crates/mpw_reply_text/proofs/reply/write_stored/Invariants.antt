-- The invariants of the loops of `write_stored` in `src/reply.rt`.
use Rattle.std.proofs.Common.{◌≡◌, take}
use Rattle.std.specs.List.{flat_map}
use Rattle.std.specs.Io.KnownBytes.{Appends}
use Rattle.mpw_reply_text.specs.Reply.{line_text}
use Rattle.mpw_reply_text.proofs.reply.write_stored.Given as goal

abbrev pub invariant-loop-line : goal.invariant-loop-line
invariant-loop-line g l =
    Appends (g.W.Sink.contents l.initial.writer) (g.W.Sink.contents l.writer)
    (flat_map line_text (take l.line-index l.lines))
    × (g.W.Sink.failures l.writer ≡ g.W.Sink.failures l.initial.writer)
