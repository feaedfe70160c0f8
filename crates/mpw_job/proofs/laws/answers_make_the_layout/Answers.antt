-- Answers to the goals of `answers_make_the_layout` in `src/laws.rt`.
use Rattle.mpw_job.proofs.Made.{made}
use Rattle.mpw_job.proofs.laws.answers_make_the_layout.Goals as goal

pub returns : goal.returns
returns c =
    made (record {
      each = record {
        decides = c.test_decides_pair_steps.ensures;
        windows = c.windows_show_layers.ensures;
        found = c.each_window_decides.ensures.runs;
        met = c.each_window_tells_met.ensures.origins;
      };
      one = c.each_step_has_one_tile.ensures;
      lie = c.squares_lie_in_boxes.ensures.layers;
      whole = c.stitched_is_whole.ensures;
    })
