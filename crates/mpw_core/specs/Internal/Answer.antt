-- Definitions for private functions and proofs: what a prepared answer must be.
use Rattle.std.specs.Prelude.{◌≡◌, ◌<◌, ◌+◌, ◌^◌, ⊤, ℕ, Bool, true, false, List, [], Option, None, Some, Result, Ok, Err, if◌then◌else◌}
use Rattle.mpw_rbac.specs.declared.refusal.PolicyFault.{PolicyFault}
use Rattle.mpw_rbac.specs.declared.refusal.PolicyFault.TheVariants as policy_fault
use Rattle.mpw_rbac.specs.declared.refusal.Refusal.{Refusal}
use Rattle.mpw_rbac.specs.Rows.{end_sessions}
use Rattle.mpw_hier.specs.declared.submission.Submission.{Submission}
use Rattle.mpw_placings.specs.Placements.{ArePlacings}
use Rattle.mpw_placings.specs.declared.placement.Placement.{Placement}
use Rattle.mpw_replies.specs.Rows.{ended_by}
use Rattle.mpw_replies.specs.declared.reply.Reply.TheVariants as reply
use Rattle.mpw_replies.specs.declared.row.Done.{Done}
use Rattle.mpw_replies.specs.declared.row.Done.TheVariants.{Lists, Changes}
use Rattle.mpw_replies.specs.declared.row.Ending.{Ending}
use Rattle.mpw_replies.specs.declared.row.Fault.{Fault}
use Rattle.mpw_replies.specs.declared.row.Fault.TheVariants as fault
use Rattle.mpw_run.specs.declared.prepare.Prepared.{Prepared}
use Rattle.mpw_run.specs.Prepared.{applied, IsFitting}
use Rattle.mpw_run.specs.Step.{Run, TakenAtMost, book_size, restarted}
use Rattle.mpw_waiver.specs.Waivers.{none_asked}
use Rattle.mpw_waiver.specs.declared.waiver.Waiver.{Waiver}
use Rattle.mpw_wafer.specs.Run.Answers as made
use Rattle.mpw_wafer.specs.declared.run.answer.NextRun.{NextRun as RunPart}
use Rattle.mpw_core.specs.declared.answer.Next.{Next}
use Rattle.mpw_core.specs.declared.answer.Next.TheVariants.{Nothing, NextPolicy, NextShelf, NextWafer, NextRun, NextWaivers, Finish, Move, Restart}
use Rattle.mpw_events.specs.declared.event.Response.{Response}
use Rattle.mpw_events.specs.declared.event.Response.TheVariants as response
use Rattle.mpw_core.specs.declared.tables.Tables.{Tables}
use Rattle.mpw_run.specs.Laws.{finishes}
use Rattle.mpw_events.specs.Step.{State, Outcome, acceptance, ending_of, no_change, over_policy, over_shelf, over_wafer, over_waivers}
use Rattle.mpw_core.specs.Answer.{state_of_tables}

-- a decision table of the policy, with the denial or refusal of its test that failed
abbrev pub ended : {A : Type 0} → Result A Refusal → Result A Ending
ended (Ok x) = Ok x
ended (Err refusal) = Err (ending_of refusal)

abbrev pub fault_of : PolicyFault → Fault Ending
fault_of (policy_fault.Refused refusal) = fault.Told (ending_of refusal)
fault_of policy_fault.Memory = fault.Memory

-- what a group of requests made of its decision table gives the outcome, if what ended it is reported as `ending`
-- says, its changed part goes where `over` says, and the part fits
abbrev pub ComesTo : {E P : Type 0} → (E → Ending) → (P → State) → (P → Type 0) → State
    → Result (Done P) (Fault E) → Outcome → Type 0
ComesTo ending over fits state (Ok (Lists lines)) outcome =
    outcome ≡ no_change (response.Told (reply.Ok lines)) state
ComesTo ending over fits state (Ok (Changes part lines)) outcome =
    (outcome ≡ acceptance lines (over part)) × fits part
ComesTo ending over fits state (Err (fault.Told e)) outcome =
    outcome ≡ no_change (response.Told (ended_by (ending e))) state
ComesTo ending over fits state (Err fault.Memory) outcome = ⊤

-- the state with a prepared change of the run, which removes the waivers
abbrev pub with_run : State → RunPart → State
with_run state next = record state { run = made.code_after state.run next; waivers = [] }

-- the state after an answer
abbrev pub state_with : State → Next → State
state_with state Nothing = state
state_with state (NextPolicy policy) = over_policy state policy
state_with state (NextShelf shelf) = over_shelf state shelf
state_with state (NextWafer wafer) = over_wafer state wafer
state_with state (NextRun next) = with_run state next
state_with state (NextWaivers change) = over_waivers state change
state_with state (Finish prepared waivers) =
    record state { run = applied prepared.change state.run; waivers = waivers }
state_with state (Move prepared) = record state { run = applied prepared.change state.run }
state_with state Restart =
    record state { policy = end_sessions state.policy; run = restarted state.run }

-- whether the change that is moved in must be stored
abbrev pub is_change : Next → Bool
is_change Nothing = false
is_change (Move prepared) = false
is_change Restart = false
is_change _ = true

-- the run can make the prepared change
abbrev pub Fits : Run → Next → Type 0
Fits run (NextRun next) = made.Fits run next
Fits run (Finish prepared waivers) = IsFitting prepared.change run
Fits run (Move prepared) = IsFitting prepared.change run
Fits run _ = ⊤

-- the answer gives the outcome: its response, its state, and whether that is a change
pub record Gives (state : State) (outcome : Outcome) (answered : Response) (next : Next) :
    Type 0 where
  pub told : answered ≡ outcome.response
  pub left : state_with state next ≡ outcome.state
  pub changes : is_change next ≡ outcome.changes
  pub fits : Fits state.run next

-- the state of a desk that isn't closed
abbrev pub open_state : Tables → State
open_state tables = state_of_tables tables false

-- after that many calls there is room for the number of one more run
unfoldable pub most_calls : ℕ
most_calls = 2147483648

-- what an event and a request of the run may assume: the placements are on the shelf, and one more run and
-- one more hand-out of each tile can be counted
pub record IsRunReady (shelf : List Submission) (placed : List Placement) (run : Run) :
    Type 0 where
  pub placings : ArePlacings shelf placed
  pub counted : run.number + 1 < 2 ^ 32
  pub taken : TakenAtMost (2 ^ 63) run.phase

abbrev pub IsReady : Tables → Type 0
IsReady tables = IsRunReady tables.shelf tables.wafer.placings tables.run

-- the entries for waivers of a run that the prepared change finishes
abbrev pub places_for : Run → Prepared → Option (List (Option Waiver))
places_for run prepared = if finishes prepared.reply
    then Some (none_asked (book_size (applied prepared.change run).phase)) else None

-- the change that a prepared change of the run moves in: one that finishes the run must be stored, and has
-- entries for waivers
abbrev pub move_or_finish : Prepared → Option (List (Option Waiver)) → Next
move_or_finish prepared None = Move prepared
move_or_finish prepared (Some waivers) = Finish prepared waivers
