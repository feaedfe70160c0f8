-- The invariants of the loops of `are_apart` in `src/book.rt`.
use Rattle.std.proofs.Common.{◌≤◌, ◌-◌, length}
use Rattle.mpw_firm_parts.proofs.Bound.{AreApartBelow}
use Rattle.mpw_firm_parts.proofs.book.are_apart.Given as goal

abbrev pub invariant-loop-place : goal.invariant-loop-place
invariant-loop-place l = (1 ≤ l.place) × AreApartBelow l.place l.fn.markers

abbrev pub decreases-loop-place : goal.decreases-loop-place
decreases-loop-place l = length l.fn.markers - l.place
