-- Definitions for private functions and proofs: serving one line.
use Rattle.std.specs.Prelude.{ℕ, List, [], Option, None, Some, Result, Ok, Err}
use Rattle.std.specs.Io.KnownBytes.{Appends}
use Rattle.mpw_requests.specs.declared.request.Request.{Request}
use Rattle.mpw_wire.specs.declared.fault.WireFault.{WireFault}
use Rattle.mpw_serve.specs.declared.serve.End.{End}
use Rattle.mpw_wire.specs.Writing.{fault_of}
use Rattle.mpw_serve.specs.Serving.{Answer, AnsweredLine, Stop, answered_text, stop_text, IsAnsweredLine, IsStop, Tells, Written}

module _ {A : Type 0} (told : A → Request → Answer → A → Type 0) where
  -- one line ends the connection
  pub record StopsLine (input input' output output' : Option (List ℕ)) (a a' : A)
      (result : Result End WireFault) : Type 0 where
    pub stop : Stop
    pub stopped : IsStop told 0 input a stop input' a'
    pub tells : Tells stop result
    pub written : Written output output' (fault_of result) [] (stop_text stop)

  -- one line is answered, or it ends the connection
  abbrev pub ServesLine : Option (List ℕ) → Option (List ℕ) → Option (List ℕ) → Option (List ℕ)
      → A → A → Result (Option End) WireFault → Type 0
  ServesLine input input' output output' a a' (Ok None) =
      (turn : AnsweredLine) × IsAnsweredLine told input a turn input' a'
      × Appends output output' (answered_text turn)
  ServesLine input input' output output' a a' (Ok (Some end)) =
      StopsLine input input' output output' a a' (Ok end)
  ServesLine input input' output output' a a' (Err fault) =
      StopsLine input input' output output' a a' (Err fault)
