-- The invariants of the loops of `Way::next` in `src/way.rt`.
use Rattle.mpw_walk.specs.Way.{IsWay, walked}
use Rattle.mpw_walk.specs.Internal.Way.{GoesOn, work}
use Rattle.mpw_walk.proofs.way.Way.next.Given as goal

abbrev pub invariant-loop-placed : goal.invariant-loop-placed
invariant-loop-placed l = record {
  way : IsWay l.self l.self.frames.items;
  on : GoesOn (walked l.fn.self l.fn.self.frames.items) (walked l.self l.self.frames.items);
}

abbrev pub decreases-loop-placed : goal.decreases-loop-placed
decreases-loop-placed l = work l.self l.self.frames.items
