-- Answers to the goals of `tile_lists` in `src/check.rt`.
use Rattle.std.proofs.Common.{rules}
use Rattle.mpw_check.proofs.ListLemmas.{follow_on, no_lists}
use Rattle.mpw_check.proofs.check.tile_lists.Goals as goal

pub loop-reached-init : goal.loop-reached-init
loop-reached-init g c = (
  c.requires.ordered,
  rw c.new-lists.ensures.items (no_lists c.args.layout.now.snapshot.now c.args.first),
)

pub loop-reached-preserved : goal.loop-reached-preserved
loop-reached-preserved g c = (
  search rules,
  rw c.in_ok-append.ensures.items
      (follow_on _ _ _ _ _ _ c.loop-reached.invariant.1 c.in_ok-batch.ensures),
)
