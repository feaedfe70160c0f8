-- Answers to the goals of `add_run` in `src/stitching.rt`.
use Rattle.std.proofs.Common.{subst}
use Rattle.mpw_markers.specs.Internal.Runs.{AreMetBy}
use Rattle.mpw_markers.proofs.Referred.{seen, first_ones}
use Rattle.mpw_markers.proofs.stitching.add_run.Goals as goal

pub returns : goal.returns
returns c =
    let ms = c.args.markers.now in
    record {
      marker = record { key = c.first_run-count.result.1; met = c.in_ok-met.met };
      added = c.in_ok-push.ensures.items;
      run = c.first_run-count.ensures;
      met = subst (λ ys. AreMetBy ys c.in_ok-met.met) (first_ones ms c.first_run-count.result.0)
          c.in_ok-met.ensures;
    }
