-- A session that may do nothing learns nothing of layouts.
use Rattle.std.proofs.Common.{◌≡◌, ℕ, Bool, true, false, cond, not, ◌&&◌, List, [], ◌∷◌, map, Option, Result, Ok, Err, refl, sym, ap, ap₂, subst, ◌∙◌, true≢false}
use Rattle.std.specs.List.{flat_map}
use Rattle.mpw_hier.specs.declared.submission.Submission.{Submission}
use Rattle.mpw_permissions.specs.declared.permission.Operation.TheVariants as operation
use Rattle.mpw_permissions.specs.declared.permission.Object.TheVariants as object
use Rattle.mpw_rbac.specs.Policy.{Policy}
use Rattle.mpw_requests.specs.declared.need.Need.{Need}
use Rattle.mpw_requests.specs.declared.need.Need.TheVariants.{Nothing, Session, Permission}
use Rattle.mpw_requests.specs.declared.request.Request.{Request}
use Rattle.mpw_requests.specs.declared.request.Request.TheVariants as ask
use Rattle.mpw_requests.specs.declared.layouts.LayoutRequest.TheVariants.{Cells}
use Rattle.mpw_requests.specs.declared.run.RunRequest.TheVariants as run_ask
use Rattle.mpw_requests.specs.declared.sign_off.SignOffRequest.TheVariants as sign
use Rattle.mpw_requests.specs.declared.wafer.WaferRequest.TheVariants.{Deck}
use Rattle.mpw_requests.specs.Needs.{need_of}
use Rattle.mpw_replies.specs.Listing.{stored}
use Rattle.mpw_replies.specs.declared.reply.Line.{Line}
use Rattle.mpw_replies.specs.declared.reply.Reply.TheVariants as reply
use Rattle.mpw_replies.specs.declared.row.Done.{Done}
use Rattle.mpw_replies.specs.declared.row.Done.TheVariants.{Lists, Changes}
use Rattle.mpw_replies.specs.declared.row.Ending.{Ending}
use Rattle.mpw_replies.specs.declared.row.Ending.TheVariants as ending
use Rattle.mpw_access.specs.Guard.{EnteredHas, Has, entered}
use Rattle.mpw_layouts.specs.Layouts as layouts
use Rattle.mpw_wafer.specs.Run.Checking as checking
use Rattle.mpw_run.specs.Step.{Run}
use Rattle.mpw_signoff.specs.SigningOff as signing
use Rattle.mpw_waiver.specs.declared.waiver.Waiver.{Waiver}
use Rattle.mpw_events.specs.declared.event.Event.{Event}
use Rattle.mpw_events.specs.declared.event.Event.TheVariants as event
use Rattle.mpw_events.specs.declared.event.Response.TheVariants as response
use Rattle.mpw_events.specs.Step.{State, Outcome, ending_of, guarded, no_change, not_kept_response, outcome_by, over_policy, over_run, over_waivers, policy_row, whoami_row, outcome_of, row_outcome, event_outcome, settlement, step}
use Rattle.mpw_denial_laws.specs.Blind.{MayNothing, DifferInLayouts, NothingIsToldOfLayouts}

-- ---- two outcomes with the same response, that both are or aren't a change

record Alike (o u : Outcome) : Type 0 where
  response : o.response ≡ u.response
  changes : o.changes ≡ u.changes

settled_alike : (a b : State) (e : Event) (kept : Bool) (o u : Outcome) → Alike o u
    → (settlement a e kept o).response ≡ (settlement b e kept u).response
settled_alike a b e kept o u h =
    go (o.changes && not kept) (u.changes && not kept)
    (ap (λ (c : Bool). c && not kept) h.changes)
  where
    closing : State → Outcome
    closing s = no_change (not_kept_response e) (record s { closed = true })

    go : (c d : Bool) → c ≡ d → (cond c (closing a) o).response ≡ (cond d (closing b) u).response
    go true true same = refl
    go false false same = h.response
    go true false same = absurd cc
    go false true same = absurd cc

-- ---- cells that may not be read have no lines

no_lines : (f : List ℕ → List Line) → ((cell : List ℕ) → f cell ≡ []) → (cells : List (List ℕ))
    → flat_map f cells ≡ []
no_lines f none [] = refl
no_lines f none (cell ∷ cells) = rw (none cell) (no_lines f none cells)

no_cells : (policy : Policy) (connection : ℕ) → MayNothing policy connection
    → (shelf : List Submission) → layouts.cells policy shelf connection ≡ []
no_cells policy connection nothing shelf =
    ap (map stored) (no_lines (layouts.readable_line policy shelf connection)
    (λ cell. rw (nothing operation.Read (object.Cell cell)) refl) (layouts.cells_of shelf))

-- ---- equal decision tables have the same outcomes on both desks

module _ (a b : State) where
  alike_by : {E P : Type 0} (how : E → Ending) (over other : P → State)
      (first second : Result (Done P) E) → first ≡ second
      → Alike (outcome_by how over a first) (outcome_by how other b second)
  alike_by {E = E} {P = P} how over other first second same =
      subst (λ row. Alike (outcome_by how over a first) (outcome_by how other b row)) same
      (of first)
    where
      of : (row : Result (Done P) E)
          → Alike (outcome_by how over a row) (outcome_by how other b row)
      of (Ok (Lists lines)) = record { response = refl; changes = refl }
      of (Ok (Changes part lines)) = record { response = refl; changes = refl }
      of (Err why) = record { response = refl; changes = refl }

-- ---- requests that need a permission

abbrev needs_permission : Need → Bool
needs_permission Nothing = false
needs_permission Session = false
needs_permission (Permission operation object) = true

-- a connection that may do nothing doesn't have what they need
lacks_permission : (policy : Policy) (connection : ℕ) → MayNothing policy connection → (need : Need)
    → needs_permission need ≡ true → Has policy connection need → ⊥
lacks_permission policy connection none Nothing is met = true≢false (sym is)
lacks_permission policy connection none Session is met = true≢false (sym is)
lacks_permission policy connection none (Permission operation object) is met =
    true≢false (sym met.1 ∙ none operation object)

module _ (has : EnteredHas) (a b : State) (connection : ℕ) (d : DifferInLayouts a b)
    (nothing : MayNothing a.policy connection) where
  stops : (need : Need) → needs_permission need ≡ true → Has a.policy connection need → ⊥
  stops = lacks_permission a.policy connection nothing

  cells_alike : layouts.cells a.policy a.shelf connection
      ≡ layouts.cells b.policy b.shelf connection
  cells_alike =
      no_cells a.policy connection nothing a.shelf
      ∙ sym (no_cells b.policy connection
      (subst (λ (p : Policy). MayNothing p connection) d.policy nothing) b.shelf)

  -- a line for each request that needs a session alone, or nothing. The last line is for all others: the guard
  -- stops them. The line before it splits the requests of the wafer, so that the last one computes at each
  row_alike : (request : Request) → Has a.policy connection (need_of request)
      → Alike (row_outcome a connection request) (row_outcome b connection request)
  row_alike (ask.Policy request) met =
      alike_by a b _ _ _ _ _ (ap (λ (p : Policy). policy_row p connection request) d.policy)
  row_alike ask.Whoami met =
      alike_by a b ending_of (over_policy a) (over_policy b) (whoami_row a.policy connection)
      (whoami_row b.policy connection) (ap (λ (p : Policy). whoami_row p connection) d.policy)
  row_alike (ask.Layout Cells) met =
      record { response = ap (λ ls. response.Told (reply.Ok ls)) cells_alike; changes = refl }
  row_alike (ask.Run run_ask.Status) met =
      alike_by a b ending.Refused (over_run a) (over_run b) _ _ (ap (λ (r : Run).
      checking.row_of a.policy a.shelf a.wafer r connection run_ask.Status) d.run)
  row_alike (ask.Run run_ask.Markers) met =
      alike_by a b ending.Refused (over_run a) (over_run b) _ _ (ap₂ (λ (p : Policy) (r : Run).
      checking.row_of p a.shelf a.wafer r connection run_ask.Markers) d.policy d.run)
  row_alike (ask.SignOff sign.Waivers) met =
      alike_by a b signing.ending_of (over_waivers a) (over_waivers b) _ _ (ap₂ (λ (p : Policy) (r : Run).
      signing.row_of p a.wafer r a.waivers connection sign.Waivers) d.policy d.run
      ∙ ap (λ (w : List (Option Waiver)).
      signing.row_of b.policy b.wafer b.run w connection sign.Waivers) d.waivers)
  row_alike (ask.Wafer (Deck text)) met =
      absurd (stops (need_of (ask.Wafer (Deck text))) refl met)
  row_alike request met = absurd (stops (need_of request) refl met)

  alike : (request : Request)
      → Alike (outcome_of a connection request) (outcome_of b connection request)
  alike request =
      subst (λ (p : Policy). Alike (outcome_of a connection request)
      (guarded b (entered p connection (need_of request)) (row_outcome b connection request)))
      d.policy (go (entered a.policy connection (need_of request)) refl)
    where
      go : (met : Result (Unit {0}) Ending) → entered a.policy connection (need_of request) ≡ met
          → Alike (guarded a met (row_outcome a connection request))
          (guarded b met (row_outcome b connection request))
      go (Ok passed) is = row_alike request (has a.policy connection (need_of request) is)
      go (Err why) is = record { response = refl; changes = refl }

pub nothing_is_told_of_layouts : EnteredHas → NothingIsToldOfLayouts
unfolding step event_outcome
nothing_is_told_of_layouts has a b connection request kept d nothing =
    settled_alike a b (event.Ask connection request) kept (outcome_of a connection request)
    (outcome_of b connection request) (alike has a b connection d nothing request)
