-- Answers to the goals of `Tiles::next` in `src/tiles.rt`.
use Rattle.std.proofs.Common.{length, sym, ap, arith}
use Rattle.std.specs.Prelude.{option_map}
use Rattle.mpw_run.specs.Step.{handed_out}
use Rattle.mpw_run.proofs.Next.{next_none, next_step}
use Rattle.mpw_run.proofs.tiles.Tiles.next.Goals as goal

pub loop-rest-init : goal.loop-rest-init
loop-rest-init c =
    let xs = c.as_slice-items.result.now in
    record {
      within = omega arith;
      best = sym (ap (option_map handed_out)
          (next_none xs (length xs) (omega arith)));
    }

pub loop-rest-preserved : goal.loop-rest-preserved
loop-rest-preserved c = record {
  within = omega arith;
  best = next_step c.as_slice-items.result.now c.loop-rest.rest c.index-items-rest.result
      c.loop-rest.best c.first_of-best.result
      c.loop-rest-test.true c.loop-rest.invariant.within c.index-items-rest.is
      c.loop-rest.invariant.best c.first_of-best.ensures;
}
