-- The invariants of the loops of `are_moved` in `src/displaced.rt`.
use Rattle.std.proofs.Common.{◌≡◌, map, take}
use Rattle.mpw_columns_contents.specs.Displaced.{bare, moved_thing}
use Rattle.mpw_columns_contents.proofs.displaced.are_moved.Given as goal

abbrev pub invariant-loop-place : goal.invariant-loop-place
invariant-loop-place l = map bare (take l.place l.b) ≡ map (moved_thing l.d) (take l.place l.a)
