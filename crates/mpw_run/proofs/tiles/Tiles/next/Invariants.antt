-- The invariants of the loops of `Tiles::next` in `src/tiles.rt`.
use Rattle.std.proofs.Common.{◌≡◌, ◌≤◌, length, drop}
use Rattle.std.specs.Prelude.{option_map}
use Rattle.mpw_run.specs.Step.{handed_out, next_from}
use Rattle.mpw_run.proofs.tiles.Tiles.next.Given as goal

abbrev pub invariant-loop-rest : goal.invariant-loop-rest
invariant-loop-rest l = record {
  within : l.rest ≤ length l.items;
  best : l.best ≡ option_map handed_out (next_from l.rest (drop l.rest l.items));
}

abbrev pub decreases-loop-rest : goal.decreases-loop-rest
decreases-loop-rest l = l.rest
