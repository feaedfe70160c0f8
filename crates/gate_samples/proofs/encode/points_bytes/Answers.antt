-- Answers to the goals of `points_bytes` in `src/encode.rt`.
use Rattle.std.proofs.Common.{append_assoc}
use Rattle.gate_samples.proofs.Texts.{points_more}
use Rattle.gate_samples.proofs.encode.points_bytes.Goals as goal

pub loop-point-preserved : goal.loop-point-preserved
loop-point-preserved c =
    rw (
      c.in_ok-add_point.ensures,
      append_assoc,
      ← points_more c.args.points.now
          c.loop-point.point-index _ c.loop-point-test.true,
    ) c.loop-point.invariant
