-- The invariants of the loops of `is_among` in `src/layers.rt`.
use Rattle.std.proofs.Common.{◌≡◌, false, take}
use Rattle.mpw_check_groups.specs.Layers.{is_among}
use Rattle.mpw_check_groups.proofs.layers.is_among.Given as goal

abbrev pub invariant-loop-own : goal.invariant-loop-own
invariant-loop-own l = is_among (take l.own-index l.layers) l.layer ≡ false
