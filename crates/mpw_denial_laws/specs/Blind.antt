-- What a session that may do nothing learns of what others have on the desk: nothing.
use Rattle.std.specs.Prelude.{◌≡◌, ℕ, Bool, false}
use Rattle.mpw_permissions.specs.declared.permission.Operation.{Operation}
use Rattle.mpw_permissions.specs.declared.permission.Object.{Object}
use Rattle.mpw_rbac.specs.Policy.{Policy, permits}
use Rattle.mpw_requests.specs.declared.request.Request.{Request}
use Rattle.mpw_events.specs.declared.event.Event.TheVariants as event
use Rattle.mpw_events.specs.Step.{State, response_of}

-- No operation on any object is permitted to the connection: it has no session, or one in which no acting
-- role has a grant.
abbrev pub MayNothing : Policy → ℕ → Type 0
MayNothing policy connection =
    (operation : Operation) (object : Object) → permits policy connection operation object ≡ false

-- Two desks that may differ in their submissions, placements, decks and trails.
pub record DifferInLayouts (a b : State) : Type 0 where
  pub policy : a.policy ≡ b.policy
  pub run : a.run ≡ b.run
  pub waivers : a.waivers ≡ b.waivers

-- They answer it identically, whatever it asks, if both or neither store its change.
abbrev pub NothingIsToldOfLayouts : Type 0
NothingIsToldOfLayouts =
    (a b : State) (connection : ℕ) (request : Request) (kept : Bool) → DifferInLayouts a b
    → MayNothing a.policy connection
    → response_of a (event.Ask connection request) kept
    ≡ response_of b (event.Ask connection request) kept
