-- The invariants of the loops of `with_area` in `src/met.rt`.
use Rattle.std.proofs.Common.{take}
use Rattle.mpw_work.proofs.Meeting.{AreThose}
use Rattle.mpw_work.proofs.met.with_area.Given as goal

abbrev pub invariant-loop-rectangle : goal.invariant-loop-rectangle
invariant-loop-rectangle l = AreThose (take l.rectangle-index l.window) l.found.items
