-- Answers to the goals of `write_shapes` in `src/shape.rt`.
use Rattle.std.proofs.Common.{subst}
use Rattle.std.specs.List.{flat_map}
use Rattle.mpw_reply_text.specs.Reply.{listed_text}
use Rattle.mpw_wire.specs.Writing.{WritesKnown, fault_of}
use Rattle.mpw_reply_text.proofs.ListingLemmas.{written_more, written_stop}
use Rattle.mpw_reply_text.proofs.shape.write_shapes.Goals as goal

pub loop-shape-preserved : goal.loop-shape-preserved
loop-shape-preserved g c =
    written_more c.loop-shape.invariant c.in-Some.ensures.some c.in_ok-write_shape.ensures

pub returns-in_err-write_shape : goal.returns-in_err-write_shape
returns-in_err-write_shape g c =
    subst (λ lines. WritesKnown (g.W.Sink.contents c.args.writer.now)
    (g.W.Sink.contents c.write_shape.new.writer) (g.W.Sink.failures c.args.writer.now)
    (g.W.Sink.failures c.write_shape.new.writer) (fault_of c.from_residual.result)
    (flat_map listed_text lines))
    c.views-views.ensures
    (written_stop _ _ _ _ c.from_residual.ensures.1 c.loop-shape.invariant c.in-Some.ensures.some
    c.in_err-write_shape.ensures)
