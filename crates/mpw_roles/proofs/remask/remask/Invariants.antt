-- The invariants of the loops of `remask` in `src/remask.rt`.
use Rattle.std.proofs.Common.{◌≡◌, ℕ, List, take, length}
use Rattle.mpw_roles.specs.Internal.Table.{IsTable, entries_of}
use Rattle.mpw_roles.specs.Places.{IsMasked}
use Rattle.mpw_roles.proofs.remask.remask.Given as goal

-- the masks are those of the pairs so far
abbrev pub invariant-loop-pair : goal.invariant-loop-pair
invariant-loop-pair l = record {
  masked : (names : List (List ℕ)) → IsTable names l.pairs l.order
      → IsMasked (entries_of names (take l.pair-index l.pairs) l.order) l.masks;
  long : length l.masks ≡ length l.fn.masks;
}
