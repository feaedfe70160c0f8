-- The invariants of the loops of `write_points` in `src/shape.rt`.
use Rattle.std.proofs.Common.{◌≡◌, take}
use Rattle.std.specs.List.{flat_map}
use Rattle.std.specs.Io.KnownBytes.{Appends}
use Rattle.mpw_geom.specs.Placing.{placed_point}
use Rattle.mpw_reply_text.specs.Reply.{point_text}
use Rattle.mpw_reply_text.proofs.shape.write_points.Given as goal

abbrev pub invariant-loop-index : goal.invariant-loop-index
invariant-loop-index g l =
    Appends (g.W.Sink.contents l.initial.writer) (g.W.Sink.contents l.writer)
    (flat_map (λ p. point_text (placed_point l.placing p)) (take l.index l.points))
    × (g.W.Sink.failures l.writer ≡ g.W.Sink.failures l.initial.writer)
