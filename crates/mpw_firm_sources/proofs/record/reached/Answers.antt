-- Answers to the goals of `reached` in `src/record.rt`.
use Rattle.std.proofs.Common.{◌∙◌, arith, rules, sym, ap}
use Rattle.mpw_firm_sources.specs.Fronts.{head_of}
use Rattle.mpw_firm_sources.proofs.Fronts.{records_more, rest_taken}
use Rattle.mpw_firm_sources.proofs.record.reached.Goals as goal

pub loop-preserved : goal.loop-preserved
loop-preserved c = (
  omega (arith, c.if-bytes-at.false, c.loop.invariant.0),
  records_more c.args.bytes.now c.loop.at c.in-Some.head c.loop.invariant.0 c.loop.invariant.1
      (sym (c.in-Some.ensures ∙ ap head_of (rest_taken c.args.bytes.now c.loop.at)))
      (search (rules, c.if-not-is_sound.ensures)) c.if-head-eq-ENDLIB.false
      (omega (arith, c.if-bytes-at.false)),
)
