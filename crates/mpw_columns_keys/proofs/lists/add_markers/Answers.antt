-- Answers to the goals of `add_markers` in `src/lists.rt`.
use Rattle.std.proofs.Common.{List}
use Rattle.mpw_markers.specs.declared.marker.Key.{Key}
use Rattle.mpw_columns_keys.proofs.Added.{next_added, all_added}
use Rattle.mpw_columns_keys.proofs.lists.add_markers.Goals as goal

pub loop-key-preserved : goal.loop-key-preserved
loop-key-preserved c =
    next_added c.args.markers.now.items c.loop-key.markers.items _ c.args.keys.now
    c.loop-key.key-index _ _ c.loop-key-test.true c.loop-key.invariant
    c.in_ok-push.ensures.items c.in_ok-met.ensures

pub returns : goal.returns
returns c =
    all_added (λ (ks : List Key). ks) c.args.markers.now.items c.loop-key.markers.items
    c.args.keys.now c.loop-key.key-index c.loop-key-test.false c.loop-key.invariant
