-- The invariants of the loops of `Tiles::new` in `src/tiles.rt`.
use Rattle.std.proofs.Common.{◌≡◌}
use Rattle.mpw_run.specs.Step.{new_tiles}
use Rattle.mpw_run.proofs.tiles.Tiles.new.Given as goal

abbrev pub invariant-loop : goal.invariant-loop
invariant-loop l = l.items.items ≡ new_tiles l.counter
