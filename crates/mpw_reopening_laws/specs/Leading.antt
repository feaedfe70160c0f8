-- What the rows of a store lead to: the state of the desk that stored them. A run whose tiles were being
-- checked is back at its cutting, as after a restart, and the trail has exactly the requests that were
-- stored.
use Rattle.std.specs.Prelude.{◌≡◌, ◌≤◌, ℕ, false, List, [], ◌∷◌, ◌++◌, length, if◌then◌else◌}
use Rattle.mpw_roles.specs.Hierarchy.{Name}
use Rattle.mpw_rbac.specs.Rows.{end_sessions}
use Rattle.mpw_run.specs.Step.{restarted}
use Rattle.mpw_trail.specs.declared.entry.Entry.{Entry as Noted}
use Rattle.mpw_events.specs.declared.event.Call.{Call}
use Rattle.mpw_events.specs.declared.event.Event.{Event}
use Rattle.mpw_events.specs.declared.event.Event.TheVariants as event
use Rattle.mpw_events.specs.History.{Desk, new_desk, state_of}
use Rattle.mpw_events.specs.Step.{State, after, entries_of, step}
use Rattle.mpw_store_rows.specs.Rows.{Entry}
use Rattle.mpw_store_text.specs.Stored.{IsRequest}
use Rattle.mpw_store_restoring.specs.Restoring.{Folds, Restores}

-- ---- calls between two restarts

-- a request is valid by its type; and a restart isn't among these calls
abbrev pub IsStorable : Event → Type 0
IsStorable (event.Ask connection request) = IsRequest request
IsStorable (event.Gone connection) = Unit {0}
IsStorable (event.Take worker) = Unit {0}
IsStorable (event.Cut answer) = Unit {0}
IsStorable (event.Tile answer) = Unit {0}
IsStorable event.Restart = ⊥

abbrev pub AreStorable : List Call → Type 0
AreStorable [] = Unit {0}
AreStorable (call ∷ calls) = IsStorable call.event × AreStorable calls

-- ---- states

-- the state that rows lead to, by the state of the desk that stored them: with this trail, and open
abbrev pub stored_state : State → List Noted → State
stored_state s trail = record s { run = restarted s.run; trail = trail; closed = false }

-- the state of the reopened desk, after its restart: no session is open
abbrev pub reopened_state : State → List Noted → State
reopened_state s trail = record s {
  policy = end_sessions s.policy;
  run = restarted s.run;
  trail = trail;
  closed = false;
}

-- what the trail has of a call, if its change was stored
abbrev pub entries_stored : State → Call → List Noted
entries_stored s call = if (step s call.event call.kept).changes
    then entries_of s.policy (step s call.event call.kept).state.policy call.event
    (step s call.event call.kept).response
    else []

abbrev pub trail_stored : State → List Call → List Noted
trail_stored s [] = []
trail_stored s (call ∷ calls) =
    entries_stored s call ++ trail_stored (after s call.event call.kept) calls

-- ---- rows

-- The rows can be reopened, and then lead to the state: whatever desk the first of them led to, it accepts
-- the next, and each desk that all of them lead to has the state. At most as many runs were accepted as there
-- are rows.
pub record LeadTo (officer : Name) (digest : List ℕ) (entries : List Entry) (s : State)
    (trail : List Noted) : Type 0 where
  pub accepted : (first : List Entry) (next : Entry) (others : List Entry) (d : Desk)
      → entries ≡ first ++ next ∷ others → Folds (new_desk officer digest) first d
      → (near : Desk) × Restores d next near
  pub whole : Desk
  pub folds : Folds (new_desk officer digest) entries whole
  pub each : (d : Desk) → Folds (new_desk officer digest) entries d
      → state_of d ≡ stored_state s trail
  pub counted : s.run.number ≤ length entries
