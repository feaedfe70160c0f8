-- Answers to the goals of `next_met` in `src/met.rt`.
use Rattle.std.proofs.Common.{sym, ◌∙◌}
use Rattle.mpw_replies.proofs.RankLemmas.{met_on, met_over, with_cell}
use Rattle.mpw_replies.proofs.met.next_met.Goals as goal

pub returns-then-goes_over-clause-some : goal.returns-then-goes_over-clause-some
returns-then-goes_over-clause-some c =
    met_on c.args.cells.now c.args.ranks.now c.args.met.now c.loop-turn.turn c.goes_over.new.turn _
    c.index-cells-place.result _
    c.loop-turn.invariant.1 c.loop-turn-test.true
    c.index-cells-place.is (sym c.goes_over.ensures.met ∙ c.if-goes_over.true)
    c.goes_over.ensures.next

pub loop-turn-preserved : goal.loop-turn-preserved
loop-turn-preserved c = (
  c.goes_over.ensures.marked,
  with_cell c.args.cells.now c.loop-turn.turn.at c.loop-turn-test.true (λ cell at.
      met_on c.args.cells.now c.args.ranks.now c.args.met.now c.loop-turn.turn c.goes_over.new.turn
      _ cell _
      c.loop-turn.invariant.1 c.loop-turn-test.true at (sym c.goes_over.ensures.met
      ∙ c.if-goes_over.false) c.goes_over.ensures.next),
)

pub returns-clause-none : goal.returns-clause-none
returns-clause-none c = met_over c.args.cells.now c.args.ranks.now c.args.met.now c.loop-turn.turn _
    c.loop-turn.invariant.1 c.loop-turn-test.false
