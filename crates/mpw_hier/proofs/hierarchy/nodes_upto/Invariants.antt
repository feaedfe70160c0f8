-- The invariants of the loops of `nodes_upto` in `src/hierarchy.rt`.
use Rattle.std.proofs.Common.{◌≡◌, ◌<◌, ℕ, get_or}
use Rattle.mpw_hier.proofs.Reached.{AreUpTo}
use Rattle.mpw_hier.proofs.hierarchy.nodes_upto.Given as goal

-- a node for each place so far, none of which is the top, and for no other
abbrev pub invariant-loop-place : goal.invariant-loop-place
invariant-loop-place l = record {
  made : AreUpTo l.fn.hierarchy.shelf.now l.fn.hierarchy.submission.now l.order l.place-index
      l.made.bound l.made.numbers.items l.made.nodes.items;
  same : (l.made.shelf.now ≡ l.fn.hierarchy.shelf.now)
      × (l.made.submission.now ≡ l.fn.hierarchy.submission.now);
  before : (k : ℕ) → k < l.place-index → get_or l.order k 0 ≡ l.top → ⊥;
}
