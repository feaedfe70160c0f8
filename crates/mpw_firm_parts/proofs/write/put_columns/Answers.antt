-- Answers to the goals of `put_columns` in `src/write.rt`.
use Rattle.std.proofs.Common.{◌∙◌}
use Rattle.mpw_firm_parts.proofs.Texts.{none_taken, none_written, one_taken, one_written}
use Rattle.mpw_firm_parts.proofs.write.put_columns.Goals as goal

pub loop-place-init : goal.loop-place-init
loop-place-init g c = (
  none_written (g.W.Write.contents c.args.writer.now) _,
  none_taken c.args.hasher.now _,
)

pub loop-place-preserved : goal.loop-place-preserved
loop-place-preserved g c = (
  one_written c.args.columns.now c.args.lists.now c.loop-place.place _ _ _ _ _ _ _ c.requires
      c.loop-place-test.true c.index-lists-place.is
      (c.as_slice.ensures.value ∙ c.in_ok-line.ensures) c.loop-place.invariant.0
      c.in_ok-put_bytes.ensures.text,
  one_taken c.args.columns.now c.args.lists.now c.loop-place.place _ _ _ _ _ _ _ c.requires
      c.loop-place-test.true c.index-lists-place.is
      (c.as_slice.ensures.value ∙ c.in_ok-line.ensures) c.loop-place.invariant.1
      c.put_bytes.ensures.taken,
)
