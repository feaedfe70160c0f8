-- The invariants of the loops of `all_firsts` in `src/first.rt`.
use Rattle.std.proofs.Common.{◌≤◌, ◌-◌, ◌*◌, length, take}
use Rattle.std.specs.List.{AllZip}
use Rattle.mpw_columns.specs.Internal.Firsts.{HasFirsts}
use Rattle.mpw_columns.proofs.first.all_firsts.Given as goal

abbrev pub invariant-loop-reached : goal.invariant-loop-reached
invariant-loop-reached g l = (l.reached ≤ length l.fn.batches.own.now.columns.now)
    × AllZip (HasFirsts l.fn.batches.layout.now.snapshot.now l.fn.most (2 * length l.fn.batches.layout.now.snapshot.now.deck.rules))
    (take l.reached l.fn.batches.own.now.columns.now) l.firsts.items

abbrev pub decreases-loop-reached : goal.decreases-loop-reached
decreases-loop-reached g l = length l.fn.batches.own.now.columns.now - l.reached
