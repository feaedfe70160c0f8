-- Laws of the requests of the run.
use Rattle.std.specs.Prelude.{ℕ, List, All, IfOk}
use Rattle.mpw_hier.specs.declared.submission.Submission.{Submission}
use Rattle.mpw_placings.specs.declared.wafer.Wafer.{Wafer}
use Rattle.mpw_rbac.specs.Policy.{Policy}
use Rattle.mpw_requests.specs.declared.run.RunRequest.{RunRequest}
use Rattle.mpw_laws.specs.Readable.{IsOfReadable, lines_of}
use Rattle.mpw_run.specs.Step.{Run}
use Rattle.mpw_wafer.specs.Run.Checking.{row_of}

-- The lines of `markers` name only cells that the session may read.
abbrev pub MarkersAreOfReadable : Type 0
MarkersAreOfReadable =
    (policy : Policy) (shelf : List Submission) (wafer : Wafer) (run : Run) (connection : ℕ)
    (request : RunRequest)
    → IfOk (row_of policy shelf wafer run connection request)
    (λ done. All (IsOfReadable policy connection) (lines_of done))
