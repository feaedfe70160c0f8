-- When a run is finished, in terms of the calls of a history, and what it checked.
use Rattle.std.specs.Prelude.{◌≡◌, ◌<◌, ◌↔◌, ℕ, true, false, List, ◌∷◌, ◌++◌, All, Some}
use Rattle.mpw_placings.specs.Placements.{roots_of}
use Rattle.mpw_tiles.specs.Plan.{Tiling, tiles}
use Rattle.mpw_tiles.specs.Snapshots.{Snapshot, plan_for}
use Rattle.mpw_run.specs.declared.phase.Checked.{Checked}
use Rattle.mpw_run.specs.declared.phase.Phase.TheVariants.{Finished}
use Rattle.mpw_events.specs.declared.event.Call.{Call}
use Rattle.mpw_events.specs.History.{state_after, IsLegal}
use Rattle.mpw_events.specs.Step.{State, new_state}
use Rattle.mpw_run_laws.specs.Calls.{is_restart, begins, GoesOn, WasKept}

-- The snapshot has the deck, the placed submissions and the shelf of the state.
pub record StandsIn (state : State) (snapshot : Snapshot) : Type 0 where
  pub deck : state.wafer.deck ≡ Some snapshot.deck
  pub roots : roots_of state.wafer.placings ≡ snapshot.roots
  pub shelf : state.shelf ≡ snapshot.shelf

-- A run over the snapshot began among the calls, and none began or was cancelled since. In a stretch of calls
-- since, with no restart among them, an answer of each of its tiles was accepted.
pub record WasChecked (first : State) (calls : List Call) (snapshot : Snapshot) : Type 0 where
  pub before : List Call
  pub begin : Call
  pub since : List Call
  pub stretch : List Call
  pub behind : List Call
  pub parts : calls ≡ before ++ begin ∷ (since ++ (stretch ++ behind))
  pub began : begins begin ≡ true
  pub stood : StandsIn (state_after first before) snapshot
  pub goes_on : All GoesOn (since ++ (stretch ++ behind))
  pub in_one : All (λ (call : Call). is_restart call.event ≡ false) stretch
  pub plan : Tiling
  pub planned : plan_for snapshot ≡ Some plan
  pub all : (tile : ℕ) → tile < tiles plan → WasKept stretch tile

-- The run of the state is finished, and checked the snapshot.
pub record HasChecked (state : State) (snapshot : Snapshot) : Type 0 where
  pub checked : Checked
  pub finished : state.run.phase ≡ Finished checked
  pub looked_at : checked.planned.snapshot ≡ snapshot

-- In the state that a legal history leads to, a run over a snapshot is finished exactly if this holds.
abbrev pub FinishedExactlyThen : Type 0
FinishedExactlyThen =
    (officer digest : List ℕ) (calls : List Call) (snapshot : Snapshot)
    → IsLegal (new_state officer digest) calls
    → HasChecked (state_after (new_state officer digest) calls) snapshot
    ↔ WasChecked (new_state officer digest) calls snapshot
