-- Laws of the changes of the checking run by a request.
use Rattle.std.specs.Prelude.{◌≤◌, ℕ, ◌+◌}
use Rattle.mpw_run.specs.Step.{Run, TakenAtMost}
use Rattle.mpw_wafer.specs.Run.Checking.{RunChange, run_after}

-- A change raises the number of runs by at most one.
abbrev pub NumbersAreCounted : Type 0
NumbersAreCounted = (run : Run) (change : RunChange)
    → (run_after run change).number ≤ run.number + 1

-- No tile of the run after a change was handed out: each number is a bound on the hand-outs of each tile.
abbrev pub NothingIsHandedOut : Type 0
NothingIsHandedOut = (run : Run) (change : RunChange) (most : ℕ)
    → TakenAtMost most (run_after run change).phase
