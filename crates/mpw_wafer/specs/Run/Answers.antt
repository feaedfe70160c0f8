-- The answers to requests of the checking run.
use Rattle.std.specs.Prelude.{◌≡◌, ⊤}
use Rattle.mpw_run.specs.Prepared.{applied, IsFitting}
use Rattle.mpw_run.specs.Step.{Run, cancelled}
use Rattle.mpw_wafer.specs.declared.run.answer.NextRun.{NextRun}
use Rattle.mpw_wafer.specs.declared.run.answer.NextRun.TheVariants.{Start, Cancel}
use Rattle.mpw_wafer.specs.Run.Checking.{RunChange, run_after}

-- The run after a prepared change.
abbrev pub code_after : Run → NextRun → Run
code_after run (Start prepared) = applied prepared.change run
code_after run Cancel = cancelled run

-- The run can make the prepared change.
abbrev pub Fits : Run → NextRun → Type 0
Fits run (Start prepared) = IsFitting prepared.change run
Fits run Cancel = ⊤

-- The prepared change stands for the decision table's: it leaves the same run, and the run can make it.
abbrev pub Stands : Run → NextRun → RunChange → Type 0
Stands run next change = (code_after run next ≡ run_after run change) × Fits run next
