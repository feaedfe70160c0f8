-- The waivers after a request whose tests pass.
use Rattle.std.specs.Prelude.{ℕ, List, Option, Result, Ok, Err}
use Rattle.mpw_hier.specs.declared.submission.Submission.{Submission}
use Rattle.mpw_waiver.specs.declared.fault.WaiverFault.{WaiverFault}
use Rattle.mpw_waiver.specs.declared.waiver.Waiver.{Waiver}
use Rattle.mpw_waiver.specs.Waivers.{waiver_at, with_asker, with_signer}
use Rattle.mpw_waiver.specs.Signing.{ask_test, sign_test}

-- The waivers if a test passes.
abbrev pub if_passed : Result (Unit {0}) WaiverFault → List (Option Waiver)
    → Result (List (Option Waiver)) WaiverFault
if_passed (Ok passed) waivers = Ok waivers
if_passed (Err fault) waivers = Err fault

-- The waivers with one that the user asked for, of the marker at that index.
unfoldable pub asked : List (Option Waiver) → ℕ → List ℕ → Result (List (Option Waiver)) WaiverFault
asked waivers place user =
    if_passed (ask_test (waiver_at waivers place)) (with_asker waivers place user)

-- The waivers with that of the marker at that index signed by the user. The marker touches the submissions
-- with these numbers.
unfoldable pub signed : List Submission → List (Option Waiver) → ℕ → List ℕ → List ℕ
    → Result (List (Option Waiver)) WaiverFault
signed shelf waivers place met user =
    if_passed (sign_test shelf met user (waiver_at waivers place)) (with_signer waivers place user)
