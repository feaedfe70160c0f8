-- What is answered for a login is the answer to `open`.
use Rattle.std.proofs.Common.{◌≡◌, ◌∙◌, ℕ, Bool, true, false, cond, List, [], Option, None, Some, Result, Ok, Err, IfErr, refl, sym, ap, subst, true≢false}
use Rattle.mpw_access.specs.Guard.{DeniedIsLacked, Lacks}
use Rattle.mpw_layouts.specs.Layouts as layouts
use Rattle.mpw_layouts.specs.declared.ending.LayoutEnding.{LayoutEnding}
use Rattle.mpw_layouts.specs.declared.ending.LayoutEnding.TheVariants as layout
use Rattle.mpw_rbac.specs.declared.refusal.Refusal.{Refusal}
use Rattle.mpw_rbac.specs.declared.refusal.Refusal.TheVariants as refusal
use Rattle.mpw_rbac.specs.Policy.{Policy}
use Rattle.mpw_rbac.specs.Rows.{none_broken}
use Rattle.mpw_requests.specs.Needs.{need_of}
use Rattle.mpw_requests.specs.declared.policy.PolicyRequest.{PolicyRequest}
use Rattle.mpw_requests.specs.declared.policy.PolicyRequest.TheVariants.{Open, Close}
use Rattle.mpw_requests.specs.declared.request.Request.{Request}
use Rattle.mpw_requests.specs.declared.request.Request.TheVariants as ask
use Rattle.mpw_signoff.specs.SigningOff as signing
use Rattle.mpw_signoff.specs.declared.ending.SignOffEnding.{SignOffEnding}
use Rattle.mpw_signoff.specs.declared.ending.SignOffEnding.TheVariants as sign_off
use Rattle.mpw_replies.proofs.RowParts.{changing_ended}
use Rattle.mpw_replies.specs.Rows.{ended_by}
use Rattle.mpw_trail.specs.declared.verdict.Code.TheVariants as code
use Rattle.mpw_trail.specs.declared.verdict.Denial.TheVariants as denial
use Rattle.mpw_replies.specs.declared.reply.Reply.TheVariants as reply
use Rattle.mpw_replies.specs.declared.row.Ending.{Ending}
use Rattle.mpw_replies.specs.declared.row.Ending.TheVariants as ending
use Rattle.mpw_events.proofs.OutcomeLemmas.{ended_at}
use Rattle.mpw_events.specs.declared.event.Event.TheVariants as event
use Rattle.mpw_events.specs.declared.event.Response.TheVariants as response
use Rattle.mpw_events.specs.PolicyRows.{row_of}
use Rattle.mpw_events.specs.Step.{State, ending_of, over_policy, over_shelf, over_wafer, over_run, over_waivers, policy_row, row_outcome, response_of}
use Rattle.mpw_laws.proofs.GuardLemmas.{table_ended}

-- whether it is about a login
abbrev is_login : Ending → Bool
is_login (ending.Denied denial.Login) = true
is_login (ending.Refused code.Opened) = true
is_login _ = false

-- if it is, the request is `open`
abbrev Opens : PolicyRequest → Ending → Type 0
Opens request why =
    is_login why ≡ true → (user : List ℕ) × (digest : List ℕ) × (request ≡ Open user digest)

abbrev OpensFor : PolicyRequest → Refusal → Type 0
OpensFor request why = Opens request (ending_of why)

-- others are not
other : (request : PolicyRequest) (why : Refusal) → is_login (ending_of why) ≡ false
    → OpensFor request why
other request why not is = absurd (true≢false (sym is ∙ not))

-- what a test ends with, and a test of sets
tested : (request : PolicyRequest) (test : Bool) (row : Result Policy Refusal) (why : Refusal)
    → OpensFor request why → IfErr row (OpensFor request)
    → IfErr (cond test row (Err why)) (OpensFor request)
tested request true row why here rest = rest
tested request false row why here rest = here

broken : (request : PolicyRequest) (told : List ℕ → Refusal) (o : Option (List ℕ))
    → ((name : List ℕ) → is_login (ending_of (told name)) ≡ false)
    → OpensFor request (none_broken told o).1
broken request told None each = other request (told []) (each [])
broken request told (Some name) each = other request (told name) (each name)

opens : (policy : Policy) (connection : ℕ) (request : PolicyRequest)
    → IfErr (row_of policy connection request) (OpensFor request)
opens policy connection (Open user digest) =
    let is : OpensFor (Open user digest) refusal.Login = λ is. (user, digest, refl) in
    search (tested, is)
opens policy connection Close = tt
opens policy connection request = search (tested, broken, other) depth 9

opened : (s : State) (connection : ℕ) (request : PolicyRequest) (why : Ending)
    → is_login why ≡ true
    → (row_outcome s connection (ask.Policy request)).response ≡ response.Told (ended_by why)
    → (user : List ℕ) × (digest : List ℕ) × (request ≡ Open user digest)
opened s connection request why login e =
    let d = ended_at ending_of (over_policy s) s (policy_row s.policy connection request) why e in
    let row = changing_ended _ (λ next. []) (row_of s.policy connection request) d.0 d.1.0 in
    subst (λ row. IfErr row (OpensFor request)) row
    (opens s.policy connection request) (ap is_login d.1.1 ∙ login)

module _ (lacked : DeniedIsLacked) where
  pub opened_alone : (s : State) (connection : ℕ) (request : PolicyRequest) (kept : Bool)
      → response_of s (event.Ask connection (ask.Policy request)) kept
      ≡ response.Told (reply.Refused code.Opened)
      → (user : List ℕ) × (digest : List ℕ) × (request ≡ Open user digest)
  opened_alone s connection request kept e =
      opened s connection request (ending.Refused code.Opened) refl (table_ended lacked s connection
      (ask.Policy request) kept (ending.Refused code.Opened) (λ is. cc) (λ no. no) e)

  pub denied_alone : (s : State) (connection : ℕ) (request : Request) (kept : Bool)
      → response_of s (event.Ask connection request) kept
      ≡ response.Told (reply.Denied denial.Login)
      → (user : List ℕ) × (digest : List ℕ) × (request ≡ ask.Policy (Open user digest))
  denied_alone s connection request kept e =
      go request
      (table_ended lacked s connection request kept (ending.Denied denial.Login) (λ is. cc)
      (λ no. no) e)
    where
      layouts_never : (why : LayoutEnding) → layouts.ending_of why ≡ ending.Denied denial.Login → ⊥
      layouts_never (layout.Refused code) is = cc
      layouts_never (layout.Unusable cell) is = cc

      sign_off_never : (why : SignOffEnding) → signing.ending_of why ≡ ending.Denied denial.Login → ⊥
      sign_off_never (sign_off.Refused code) is = cc
      sign_off_never (sign_off.Submitter cell) is = cc
      sign_off_never sign_off.Asker is = cc

      go : (request : Request)
          → (row_outcome s connection request).response ≡ response.Told (reply.Denied denial.Login)
          → (user : List ℕ) × (digest : List ℕ) × (request ≡ ask.Policy (Open user digest))
      go (ask.Policy asked) r =
          let o = opened s connection asked (ending.Denied denial.Login) refl r in
          (o.0, o.1, ap ask.Policy o.2)
      go (ask.Layout asked) r =
          absurd (let d = ended_at layouts.ending_of (over_shelf s) s _
          (ending.Denied denial.Login) r in layouts_never d.0 d.1.1)
      go (ask.Wafer asked) r =
          let d = ended_at ending.Refused (over_wafer s) s _ (ending.Denied denial.Login) r in
          absurd (let h = d.1.1 in cc)
      go (ask.Run asked) r =
          let d = ended_at ending.Refused (over_run s) s _ (ending.Denied denial.Login) r in
          absurd (let h = d.1.1 in cc)
      go (ask.SignOff asked) r =
          absurd (let d = ended_at signing.ending_of (over_waivers s) s _
          (ending.Denied denial.Login) r in sign_off_never d.0 d.1.1)
      go _ r = absurd cc
