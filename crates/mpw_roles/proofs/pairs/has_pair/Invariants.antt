-- The invariants of the loops of `has_pair` in `src/pairs.rt`.
use Rattle.std.proofs.Common.{◌≡◌, false, take}
use Rattle.std.specs.List.{list_any}
use Rattle.mpw_roles.specs.Internal.Table.{is_pair}
use Rattle.mpw_roles.proofs.pairs.has_pair.Given as goal

-- none of the pairs so far is the one
abbrev pub invariant-loop-pair : goal.invariant-loop-pair
invariant-loop-pair l = list_any (is_pair l.senior l.junior) (take l.pair-index l.pairs) ≡ false
