-- Two desks with the same view give the same answers to the requests that a view decides, and have the same
-- view after it.
use Rattle.std.proofs.Common.{◌≡◌, ◌∙◌, ℕ, Bool, true, false, cond, [], ◌∷◌, refl}
use Rattle.std.specs.Prelude.{◌&&◌, not}
use Rattle.mpw_hier.specs.Shelved.{PresentAreOfTheirCell}
use Rattle.mpw_markers.specs.Laws.{PlacesAreOfKeys}
use Rattle.mpw_requests.specs.declared.request.Request.{Request}
use Rattle.mpw_requests.specs.declared.request.Request.TheVariants as ask
use Rattle.mpw_requests.specs.declared.run.RunRequest.TheVariants as run
use Rattle.mpw_requests.specs.declared.sign_off.SignOffRequest.TheVariants as sign
use Rattle.mpw_layouts.specs.Layouts as layouts
use Rattle.mpw_signoff.specs.SigningOff as signing
use Rattle.mpw_run.specs.Step.{findings}
use Rattle.mpw_laws.specs.SignOffLaws.{PlacesAreLeft}
use Rattle.mpw_events.specs.declared.event.Event.TheVariants as event
use Rattle.mpw_events.specs.Step.{State, Outcome, after, no_change, ending_of, outcome_of, over_policy, over_run, over_shelf, over_waivers, row_outcome, whoami_row, settlement, step, not_kept_response, event_outcome}
use Rattle.mpw_core.proofs.OutcomeLemmas.{holds-guarded, holds-row}
use Rattle.mpw_requests.specs.Needs.{need_of}
use Rattle.mpw_access.specs.Guard.{EnteredHas, Has, entered}
use Rattle.mpw_replies.specs.Rows.{needed}
use Rattle.mpw_trail.specs.declared.verdict.Code.TheVariants as code
use Rattle.mpw_replies.specs.declared.row.Ending.TheVariants as ending
use Rattle.mpw_replies.proofs.RowParts.{listing_changes_nothing}
use Rattle.mpw_secrecy.specs.Questions.{is_of_view}
use Rattle.mpw_secrecy.specs.Secrecy.{EqualViewsGiveEqualAnswers, EqualViewsGiveEqualAnswersToLists, EqualViewsStayEqual, IsOrderly}
use Rattle.mpw_secrecy.specs.Views.{SameView}
use Rattle.mpw_secrecy.proofs.Listings.{SameOutcome, after_alike, entered_alike, listed, step_alike}
use Rattle.mpw_secrecy.proofs.Signing.{sign_alike_in, waive_alike}

-- ---- orderly states

module _ (places_left : PlacesAreLeft) where
  row_orderly : (s : State) (connection : ℕ) (request : Request) → is_of_view request ≡ true
      → IsOrderly s → IsOrderly (row_outcome s connection request).state
  row_orderly s connection ask.Whoami is orderly =
      holds-row IsOrderly ending_of (over_policy s) s (whoami_row s.policy connection) orderly
      (λ policy lines e.
      record { run = orderly.run; places = orderly.places })
  row_orderly s connection (ask.Layout request) is orderly =
      holds-row IsOrderly layouts.ending_of (over_shelf s) s
      (layouts.row_of s.policy s.shelf connection request) orderly (λ shelf lines e.
      record { run = orderly.run; places = orderly.places })
  row_orderly s connection (ask.Run run.Status) is orderly = orderly
  row_orderly s connection (ask.Run run.Markers) is orderly =
      holds-row IsOrderly ending.Refused (over_run s) s _ orderly
      (λ change lines e. absurd (listing_changes_nothing _
      (needed code.NotFinished (findings s.run.phase)) change lines e))
  row_orderly s connection (ask.SignOff request) is orderly =
      holds-row IsOrderly signing.ending_of (over_waivers s) s
      (signing.row_of s.policy s.wafer s.run s.waivers connection request) orderly
      (λ change lines e.
      record { run = orderly.run; places = places_left s.waivers change ∙ orderly.places })
  row_orderly s connection request is orderly = absurd cc

  stays_orderly : (s : State) (connection : ℕ) (request : Request) → is_of_view request ≡ true
      → IsOrderly s → IsOrderly (outcome_of s connection request).state
  stays_orderly s connection request is orderly =
      holds-guarded IsOrderly s (entered s.policy connection (need_of request))
      (row_outcome s connection request) orderly (row_orderly s connection request is orderly)

  settled_orderly : (s : State) (connection : ℕ) (request : Request) (kept : Bool) (o : Outcome)
      → IsOrderly s → IsOrderly o.state
      → IsOrderly (settlement s (event.Ask connection request) kept o).state
  settled_orderly s connection request kept o before now =
      elim (o.changes && not kept) as (λ b. IsOrderly
      (cond b (no_change (not_kept_response (event.Ask connection request))
      (record s { closed = true })) o).state) [
        | true ↦ record { run = before.run; places = before.places }
        | false ↦ now
      ]

  step_orderly : (s : State) (connection : ℕ) (request : Request) (kept : Bool)
      → is_of_view request ≡ true → IsOrderly s
      → IsOrderly (step s (event.Ask connection request) kept).state
  unfolding step event_outcome
  step_orderly s connection request kept is orderly = settled_orderly s connection request kept
      (outcome_of s connection request) orderly (stays_orderly s connection request is orderly)

  pub after_orderly : (s : State) (connection : ℕ) (request : Request) (kept : Bool)
      → is_of_view request ≡ true → IsOrderly s
      → IsOrderly (after s (event.Ask connection request) kept)
  after_orderly s connection request kept is orderly = let o = step_orderly s connection request
      kept is orderly
      in record { run = o.run; places = o.places }

-- ---- answers

module _ (presents : PresentAreOfTheirCell) (has : EnteredHas) (keys : PlacesAreOfKeys) where
  answered : (connection : ℕ) (a b : State) (request : Request) → IsOrderly a → IsOrderly b
      → SameView connection a b → is_of_view request ≡ true
      → Has a.policy connection (need_of request)
      → SameOutcome connection (row_outcome a connection request) (row_outcome b connection request)
  answered connection a b ask.Whoami orderly ordered same is =
      listed presents connection a b ask.Whoami same refl
  answered connection a b (ask.Layout request) orderly ordered same is =
      listed presents connection a b (ask.Layout request) same is
  answered connection a b (ask.Run request) orderly ordered same is =
      listed presents connection a b (ask.Run request) same is
  answered connection a b (ask.SignOff (sign.Waive name)) orderly ordered same is =
      λ has. waive_alike keys connection a b orderly ordered same has.0 name
  answered connection a b (ask.SignOff (sign.Sign name)) orderly ordered same is =
      λ has. sign_alike_in keys connection a b orderly ordered same has.0 name
  answered connection a b (ask.SignOff sign.Waivers) orderly ordered same is =
      listed presents connection a b (ask.SignOff sign.Waivers) same refl
  answered connection a b request orderly ordered same is = absurd cc

  stepped : (connection : ℕ) (a b : State) (request : Request) (kept : Bool) → IsOrderly a
      → IsOrderly b
      → SameView connection a b → is_of_view request ≡ true
      → SameOutcome connection (step a (event.Ask connection request) kept)
      (step b (event.Ask connection request) kept)
  stepped connection a b request kept orderly ordered same is = step_alike connection a b request
      kept same
      (entered_alike has connection a b request same
      (answered connection a b request orderly ordered same is))

  pub equal_answers : EqualViewsGiveEqualAnswers
  equal_answers connection a b request kept orderly ordered same is =
      (stepped connection a b request kept orderly ordered same is).told

  pub views_stay : EqualViewsStayEqual
  views_stay connection a b request kept orderly ordered same is =
      after_alike connection a b request kept
      (stepped connection a b request kept orderly ordered same is)

  pub equal_answers_to_lists : PlacesAreLeft → EqualViewsGiveEqualAnswersToLists
  equal_answers_to_lists places connection a b [] orderly ordered same are =
      record { answers = refl; view = same }
  equal_answers_to_lists places connection a b (first ∷ rest) orderly ordered same are =
      let e = event.Ask connection first.request in
      let behind =
      equal_answers_to_lists places connection (after a e first.kept) (after b e first.kept) rest
      (after_orderly places a connection first.request first.kept are.0 orderly)
      (after_orderly places b connection first.request first.kept are.0 ordered)
      (views_stay connection a b first.request first.kept orderly ordered same are.0) are.1 in
      record {
        answers =
            λ i. equal_answers connection a b first.request first.kept orderly ordered same are.0 i
            ∷ behind.answers i;
        view = behind.view;
      }
