-- Answers to the goals of `squares_decide` in `src/windows.rt`.
use Rattle.mpw_run_laws.proofs.WindowLemmas.{rows_decided, answers_decided}
use Rattle.mpw_run_laws.proofs.windows.squares_decide.Goals as goal

pub returns : goal.returns
returns c = record {
  rows = rows_decided c.each_window_decides.ensures.rows;
  answers = answers_decided c.each_window_decides.ensures.runs
      c.each_window_tells_met.ensures.squares;
}
