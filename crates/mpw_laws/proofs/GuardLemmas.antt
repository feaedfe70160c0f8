-- The guard comes before each decision table: what the response to a request says of both.
use Rattle.std.proofs.Common.{◌≡◌, ◌⊎◌, ℕ, Bool, List, Result, Ok, Err, inl, inr, refl, sym, ap, ◌∙◌}
use Rattle.mpw_access.specs.Guard.{DeniedIsLacked, Lacks, entered}
use Rattle.mpw_requests.specs.Needs.{need_of}
use Rattle.mpw_requests.specs.declared.request.Request.{Request}
use Rattle.mpw_replies.specs.Listing.{Listed}
use Rattle.mpw_replies.specs.Rows.{ended_by}
use Rattle.mpw_trail.specs.declared.verdict.Code.TheVariants as code
use Rattle.mpw_replies.specs.declared.reply.Reply.TheVariants as reply
use Rattle.mpw_replies.specs.declared.row.Ending.{Ending}
use Rattle.mpw_replies.specs.declared.row.Ending.TheVariants as ending
use Rattle.mpw_events.proofs.OutcomeLemmas.{ended_same, no_lines}
use Rattle.mpw_events.specs.declared.event.Event.TheVariants as event
use Rattle.mpw_events.specs.declared.event.Response.TheVariants as response
use Rattle.mpw_events.specs.Step.{State, Outcome, event_outcome, guarded, outcome_of, response_of, row_outcome, step}
use Rattle.mpw_laws.proofs.RefusalLemmas.{settlement-is, settlement-ok}

-- an accepted request has passed the guard, and its step is its decision table's outcome
pub record IsAccepted (s : State) (connection : ℕ) (request : Request) (kept : Bool)
    (lines : List Listed) : Type 0 where
  pub has_entered : entered s.policy connection (need_of request) ≡ Ok tt
  pub step_is : step s (event.Ask connection request) kept ≡ row_outcome s connection request
  pub row : (row_outcome s connection request).response ≡ response.Told (reply.Ok lines)

pub guarded_ok : (s : State) (connection : ℕ) (request : Request) (kept : Bool)
    (lines : List Listed)
    → response_of s (event.Ask connection request) kept ≡ response.Told (reply.Ok lines)
    → IsAccepted s connection request kept lines
unfolding step event_outcome
guarded_ok s connection request kept lines e =
    let same =
    settlement-ok s (event.Ask connection request) kept (outcome_of s connection request) lines
    e in
    go (entered s.policy connection (need_of request)) refl same
    (ap (λ (o : Outcome). o.response) (sym same) ∙ e)
  where
    go : (met : Result (Unit {0}) Ending) → entered s.policy connection (need_of request) ≡ met
        → step s (event.Ask connection request) kept
        ≡ guarded s met (row_outcome s connection request)
        → (guarded s met (row_outcome s connection request)).response
        ≡ response.Told (reply.Ok lines)
        → IsAccepted s connection request kept lines
    go (Ok tt) is same told = record { has_entered = is; step_is = same; row = told }
    go (Err why) is same told = absurd (no_lines why lines told)

-- a denial or a refusal is the guard's, or that of the decision table, unless the change could not be stored
pub guarded_ended : (s : State) (connection : ℕ) (request : Request) (kept : Bool) (why : Ending)
    → (ending.Refused code.Store ≡ why → ⊥)
    → response_of s (event.Ask connection request) kept ≡ response.Told (ended_by why)
    → (entered s.policy connection (need_of request) ≡ Err why)
    ⊎ ((row_outcome s connection request).response ≡ response.Told (ended_by why))
unfolding step event_outcome
guarded_ended s connection request kept why other e =
    let same =
    settlement-is s (event.Ask connection request) kept (outcome_of s connection request)
    (response.Told (ended_by why)) (λ is. other (ended_same (ending.Refused code.Store) why is))
    (λ is. cc) e in
    go (entered s.policy connection (need_of request)) refl
    (ap (λ (o : Outcome). o.response) (sym same) ∙ e)
  where
    go : (met : Result (Unit {0}) Ending) → entered s.policy connection (need_of request) ≡ met
        → (guarded s met (row_outcome s connection request)).response
        ≡ response.Told (ended_by why)
        → (entered s.policy connection (need_of request) ≡ Err why)
        ⊎ ((row_outcome s connection request).response ≡ response.Told (ended_by why))
    go (Ok tt) is told = inr told
    go (Err first) is told = inl (is ∙ ap (λ w. Err w) (ended_same first why told))

-- one that isn't for what the guard tests is that of the decision table
pub table_ended : DeniedIsLacked → (s : State) (connection : ℕ) (request : Request) (kept : Bool)
    (why : Ending) → (ending.Refused code.Store ≡ why → ⊥)
    → (Lacks s.policy connection (need_of request) why → ⊥)
    → response_of s (event.Ask connection request) kept ≡ response.Told (ended_by why)
    → (row_outcome s connection request).response ≡ response.Told (ended_by why)
table_ended lacked s connection request kept why other never e =
    elim (guarded_ended s connection request kept why other e) [
      | inl g ↦ absurd (never (lacked s.policy connection (need_of request) why g))
      | inr r ↦ r
    ]
