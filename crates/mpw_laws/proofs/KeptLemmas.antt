-- A property that each policy request and each end of a session preserves holds after every history.
use Rattle.std.proofs.Common.{◌≡◌, ℕ, Bool, List, [], Result, Ok, Err, refl, subst}
use Rattle.mpw_access.specs.Guard.{EnteredHas, Has, entered}
use Rattle.mpw_rbac.specs.declared.refusal.Refusal.{Refusal}
use Rattle.mpw_rbac.specs.Policy.{Policy, new_policy}
use Rattle.mpw_rbac.specs.Rows as rows
use Rattle.mpw_replies.proofs.RowParts.{changed}
use Rattle.mpw_requests.specs.Needs.{need_of, policy_need}
use Rattle.mpw_requests.specs.declared.policy.PolicyRequest.{PolicyRequest}
use Rattle.mpw_replies.specs.declared.row.Ending.{Ending}
use Rattle.mpw_replies.specs.declared.row.Ending.TheVariants as ending
use Rattle.mpw_requests.specs.declared.request.Request.{Request}
use Rattle.mpw_requests.specs.declared.request.Request.TheVariants as ask
use Rattle.mpw_events.specs.declared.event.Call.{Call}
use Rattle.mpw_events.specs.declared.event.Event.{Event}
use Rattle.mpw_events.specs.declared.event.Event.TheVariants as event
use Rattle.mpw_events.specs.History.{state_after}
use Rattle.mpw_events.specs.PolicyRows.{row_of}
use Rattle.mpw_events.specs.Step.{State, new_state, ending_of, over_policy, policy_row, row_outcome, guarded, outcome_of, event_outcome, after}
use Rattle.mpw_core.proofs.OutcomeLemmas.{holds-row, holds-step, holds-calls}

-- the policy after the decision table has the property if the policy before had it
abbrev Keeps : (Policy → Type 0) → (Policy → Result Policy Refusal) → Type 0
Keeps P row = (p q : Policy) → row p ≡ Ok q → P p → P q

-- so does the policy after a request that had what it needs
abbrev pub KeepsEntered : (Policy → Type 0) → ℕ → PolicyRequest → Type 0
KeepsEntered P connection request = (p : Policy) → Has p connection (policy_need request)
    → (q : Policy) → row_of p connection request ≡ Ok q → P p → P q

module _
    (P : Policy → Type 0)
    (has : EnteredHas)
    (row_keeps : (connection : ℕ) (request : PolicyRequest) → KeepsEntered P connection request)
    (end_keeps : (connection : ℕ) → Keeps P (λ p. Ok (rows.end_session p connection)))
    (ends_keep : Keeps P (λ p. Ok (rows.end_sessions p)))
  where
    abbrev Kept : State → Type 0
    Kept s = P s.policy

    kept-row : (s : State) (connection : ℕ) (request : Request)
        → Has s.policy connection (need_of request) → Kept s
        → Kept (row_outcome s connection request).state
    kept-row s connection (ask.Policy request) met kept =
        let row = row_of s.policy connection request in
        holds-row Kept ending_of (over_policy s) s (policy_row s.policy connection request) kept
        (λ next lines is. let c = changed _ (λ next. []) row next lines is in
        subst P c.2 (row_keeps connection request s.policy met c.0 c.1 kept))
    kept-row s connection ask.Whoami met kept = kept
    kept-row s connection (ask.Layout request) met kept =
        holds-row Kept _ _ s _ kept (λ part lines is. kept)
    kept-row s connection (ask.Wafer request) met kept =
        holds-row Kept ending.Refused _ s _ kept (λ part lines is. kept)
    kept-row s connection (ask.Run request) met kept =
        holds-row Kept ending.Refused _ s _ kept (λ part lines is. kept)
    kept-row s connection (ask.SignOff request) met kept =
        holds-row Kept _ _ s _ kept (λ part lines is. kept)
    kept-row s connection ask.Trail met kept = kept

    kept-request : (s : State) (connection : ℕ) (request : Request) → Kept s
        → Kept (outcome_of s connection request).state
    kept-request s connection request kept =
        go (entered s.policy connection (need_of request)) refl
      where
        go : (passed : Result (Unit {0}) Ending)
            → entered s.policy connection (need_of request) ≡ passed
            → Kept (guarded s passed (row_outcome s connection request)).state
        go (Ok tt) is =
            kept-row s connection request (has s.policy connection (need_of request) is) kept
        go (Err why) is = kept

    kept-event_outcome : (s : State) (event : Event) → P s.policy
        → P (event_outcome s event).state.policy
    unfolding event_outcome
    kept-event_outcome s (event.Ask connection request) kept =
        kept-request s connection request kept
    kept-event_outcome s (event.Gone connection) kept = end_keeps connection s.policy
        (rows.end_session s.policy connection)
        refl kept
    kept-event_outcome s (event.Take worker) kept = kept
    kept-event_outcome s (event.Cut answer) kept = kept
    kept-event_outcome s (event.Tile answer) kept = kept
    kept-event_outcome s event.Restart kept = ends_keep s.policy (rows.end_sessions s.policy) refl
        kept

    kept-step : (s : State) (event : Event) (was : Bool) → Kept s → Kept (after s event was)
    kept-step s event was kept =
        holds-step Kept (λ t held. held) (λ t entries held. held) s event was kept
        (kept-event_outcome s event kept)

    pub kept-history : (officer digest : List ℕ) (calls : List Call)
        → P (new_policy officer digest)
        → P (state_after (new_state officer digest) calls).policy
    unfolding new_state
    kept-history officer digest calls new =
        holds-calls Kept kept-step (new_state officer digest) calls new
