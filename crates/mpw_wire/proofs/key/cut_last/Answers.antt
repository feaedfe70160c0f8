-- Answers to the goals of `cut_last` in `src/key.rt`.
use Rattle.std.proofs.Common.{rules, arith}
use Rattle.mpw_wire.proofs.KeyLemmas.{cut_none, cut_on, cut_found}
use Rattle.mpw_wire.proofs.key.cut_last.Goals as goal

pub loop-at-init : goal.loop-at-init
loop-at-init c = (cut_none c.args.word.now, omega arith)

pub returns-then-word-at-eq58-clause-some : goal.returns-then-word-at-eq58-clause-some
returns-then-word-at-eq58-clause-some c =
    cut_found c.args.word.now c.loop-at.at 0 (search rules) c.loop-at.invariant.1 (search rules)
    c.loop-at.invariant.0

pub loop-at-preserved : goal.loop-at-preserved
loop-at-preserved c =
    cut_on c.args.word.now c.loop-at.at 0 (search rules) c.loop-at.invariant.1 (search rules)
    c.loop-at.invariant.0
