-- A script is one connection over a new desk.
use Rattle.std.specs.Prelude.{◌≡◌, ℕ, List, Option, None, Result, Ok, Err}
use Rattle.mpw_events.specs.History.{KeptDesk, new_desk, kept_desk}
use Rattle.mpw_wire.specs.declared.fault.WireFault.{WireFault}
use Rattle.mpw_wire.specs.Writing.{fault_of}
use Rattle.mpw_serve.specs.declared.serve.Served.{Served}
use Rattle.mpw_serve.specs.Serving.{Serves}
use Rattle.mpw_serve.specs.OwnDesk.{IsAnswer, IsGone}
use Rattle.mpw_settings.specs.declared.officer.Officer.{Officer}

-- connection 1 is served from the new desk on, and no change failed to be stored; or there is no memory for
-- that desk, and nothing is read or written
abbrev pub ServesScript : {E : Type 0} → Officer → Option (List ℕ) → Option (List ℕ)
    → Option (List ℕ) → Option (List ℕ) → Result Served E → Type 0
ServesScript officer input input' output output' (Ok served) =
    (desk : KeptDesk) × (desk.failures ≡ 0)
    × Serves (IsAnswer 1) (IsGone 1) input input' output output'
    (kept_desk (new_desk officer.name officer.digest) None 0) desk served
ServesScript officer input input' output output' (Err fault) =
    (input' ≡ input) × (output' ≡ output)

-- the device that failed, or none if there was no memory for the desk
abbrev pub fault_told : {E : Type 0} → Result Served E → Option WireFault
fault_told (Ok served) = fault_of served.ended
fault_told (Err fault) = None
