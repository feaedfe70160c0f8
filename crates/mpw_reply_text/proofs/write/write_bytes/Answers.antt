-- Answers to the goals of `write_bytes` in `src/write.rt`.
use Rattle.std.proofs.Common.{rules, ◌∙◌}
use Rattle.mpw_reply_text.proofs.WritingLemmas.{Writes_failed, Appends_further}
use Rattle.mpw_reply_text.proofs.write.write_bytes.Goals as goal

pub loop-written-preserved : goal.loop-written-preserved
loop-written-preserved g c = (
  Appends_further _ _ _ c.args.bytes.now c.loop-written.written c.in-Ok.taken
      c.loop-written.invariant.0 c.in-Ok.ensures.bytes,
  c.in-Ok.ensures.failures
      ∙ c.loop-written.invariant.1,
  search rules,
)

pub returns-in-Err : goal.returns-in-Err
returns-in-Err g c =
    Writes_failed _ _ _ _ _ c.args.bytes.now c.loop-written.written c.loop-written.invariant.0
    c.in-Err.ensures.bytes (search rules)
