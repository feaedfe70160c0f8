-- The invariants of the loops of `closed_boxes` in `src/met.rt`.
use Rattle.std.proofs.Common.{◌≡◌, map, take}
use Rattle.mpw_work.specs.Internal.Found.{key_box}
use Rattle.mpw_work.proofs.met.closed_boxes.Given as goal

abbrev pub invariant-loop-key : goal.invariant-loop-key
invariant-loop-key l = l.boxes.items ≡ map key_box (take l.key-index l.keys)
