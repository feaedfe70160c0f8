-- A denial names what the connection's session lacks.
use Rattle.std.proofs.Common.{◌≡◌, inl, inr, ℕ, Bool, List, [], Result, Err, None, false, ap, ◌∙◌}
use Rattle.mpw_geom.specs.Names.{contains_name}
use Rattle.mpw_permissions.specs.declared.permission.Object.{Object}
use Rattle.mpw_permissions.specs.declared.permission.Object.TheVariants.{Cell}
use Rattle.mpw_permissions.specs.declared.permission.Operation.{Operation}
use Rattle.mpw_permissions.specs.declared.permission.Operation.TheVariants.{Use}
use Rattle.mpw_rbac.specs.declared.refusal.Refusal.{Refusal}
use Rattle.mpw_rbac.specs.declared.refusal.Refusal.TheVariants as refusal
use Rattle.mpw_rbac.specs.Policy.{Policy, authorized, permits, session_of}
use Rattle.mpw_rbac.specs.Rows as rows
use Rattle.mpw_rbac_laws.proofs.DenialLemmas as law
use Rattle.mpw_events.specs.declared.event.Event.TheVariants as event
use Rattle.mpw_requests.specs.declared.request.Request.{Request}
use Rattle.mpw_requests.specs.declared.request.Request.TheVariants as ask
use Rattle.mpw_requests.specs.declared.policy.PolicyRequest.{PolicyRequest}
use Rattle.mpw_requests.specs.declared.policy.PolicyRequest.TheVariants.{Activate}
use Rattle.mpw_requests.specs.Needs.{need_of}
use Rattle.mpw_access.specs.Guard.{DeniedIsLacked}
use Rattle.mpw_layouts.specs.declared.ending.LayoutEnding.{LayoutEnding}
use Rattle.mpw_layouts.specs.declared.ending.LayoutEnding.TheVariants as layout
use Rattle.mpw_layouts.specs.Layouts as layouts
use Rattle.mpw_signoff.specs.declared.ending.SignOffEnding.{SignOffEnding}
use Rattle.mpw_signoff.specs.declared.ending.SignOffEnding.TheVariants as sign_off
use Rattle.mpw_signoff.specs.SigningOff as signing
use Rattle.mpw_events.specs.PolicyRows.{row_of}
use Rattle.mpw_replies.proofs.RowParts.{changing_ended}
use Rattle.mpw_replies.specs.Rows.{denied}
use Rattle.mpw_trail.specs.declared.verdict.Denial.{Denial}
use Rattle.mpw_trail.specs.declared.verdict.Denial.TheVariants as denial
use Rattle.mpw_replies.specs.declared.reply.Reply.TheVariants as reply
use Rattle.mpw_replies.specs.declared.row.Done.{Done}
use Rattle.mpw_replies.specs.declared.row.Ending.TheVariants as ending
use Rattle.mpw_events.specs.declared.event.Response.TheVariants as response
use Rattle.mpw_events.proofs.OutcomeLemmas.{ended_at}
use Rattle.mpw_events.specs.Step.{State, ending_of, outcome_by, over_policy, over_shelf, over_wafer, over_run, over_waivers, policy_row, row_outcome, response_of}
use Rattle.mpw_laws.specs.LayoutLaws.{LayoutsDenyWhatIsLacked}
use Rattle.mpw_laws.proofs.GuardLemmas.{guarded_ended, table_ended}

-- the refusal that a denial of the policy's tables shows
abbrev pub told_of : Denial → Refusal
told_of (denial.Activation role) = refusal.NotAuthorized role
told_of (denial.Ssd name) = refusal.Ssd name
told_of (denial.Dsd name) = refusal.Dsd name
told_of _ = refusal.Login

told_by : (r : Refusal) (w : Denial) → ending_of r ≡ ending.Denied w → r ≡ told_of w
told_by (refusal.NotAuthorized role) w e =
    ap told_of (let same : denial.Activation role ≡ w = cc in same)
told_by (refusal.Ssd name) w e = ap told_of (let same : denial.Ssd name ≡ w = cc in same)
told_by (refusal.Dsd name) w e = ap told_of (let same : denial.Dsd name ≡ w = cc in same)
told_by refusal.Login w e = ap told_of (let same : denial.Login ≡ w = cc in same)
told_by _ w e = absurd cc

-- a denial by a decision table of the policy is its refusal
pub denied-row : (s : State) (connection : ℕ) (request : PolicyRequest) (w : Denial)
    → (row_outcome s connection (ask.Policy request)).response ≡ response.Told (reply.Denied w)
    → row_of s.policy connection request ≡ Err (told_of w)
denied-row s connection request w e =
    let d = ended_at ending_of (over_policy s) s (policy_row s.policy connection request)
    (ending.Denied w) e in
    changing_ended _ (λ next. []) (row_of s.policy connection request) (told_of w)
    (d.1.0 ∙ ap (λ r. Err r) (told_by d.0 w d.1.1))

-- no table of the policy denies a permission
policy-allows : (why : Refusal) (operation : Operation) (object : Object)
    → ending_of why ≡ denied operation object → ⊥
policy-allows refusal.Login operation object e = cc
policy-allows _ operation object e = cc

pub allows-row : (s : State) (connection : ℕ) (request : PolicyRequest) (operation : Operation)
    (object : Object) → (row_outcome s connection (ask.Policy request)).response ≡ response.Told
    (reply.Denied (denial.Permission operation object)) → ⊥
allows-row s connection request operation object e =
    let d = ended_at ending_of (over_policy s) s (policy_row s.policy connection request)
    (denied operation object) e in
    policy-allows d.0 operation object d.1.1

-- no table of the sign-off denies a permission
sign_off-allows : (why : SignOffEnding) (operation : Operation) (object : Object)
    → signing.ending_of why ≡ denied operation object → ⊥
sign_off-allows (sign_off.Refused code) operation object e = cc
sign_off-allows (sign_off.Submitter cell) operation object e = cc
sign_off-allows sign_off.Asker operation object e = cc

-- no decision table denies a session
policy-inside : (why : Refusal) → ending_of why ≡ ending.Denied denial.Session → ⊥
policy-inside refusal.Login e = cc
policy-inside _ e = cc

layouts-inside : (why : LayoutEnding) → layouts.ending_of why ≡ ending.Denied denial.Session → ⊥
layouts-inside (layout.Refused code) e = cc
layouts-inside (layout.Unusable cell) e = cc

sign_off-inside : (why : SignOffEnding) → signing.ending_of why ≡ ending.Denied denial.Session → ⊥
sign_off-inside (sign_off.Refused code) e = cc
sign_off-inside (sign_off.Submitter cell) e = cc
sign_off-inside sign_off.Asker e = cc

inside-row : (s : State) (connection : ℕ) (request : Request)
    → (row_outcome s connection request).response ≡ response.Told (reply.Denied denial.Session) → ⊥
inside-row s connection (ask.Policy request) e =
    let d = ended_at ending_of (over_policy s) s (policy_row s.policy connection request)
    (ending.Denied denial.Session) e in
    policy-inside d.0 d.1.1
inside-row s connection (ask.Layout request) e =
    let d = ended_at layouts.ending_of (over_shelf s) s _ (ending.Denied denial.Session) e in
    layouts-inside d.0 d.1.1
inside-row s connection (ask.Wafer request) e =
    let d = ended_at ending.Refused (over_wafer s) s _ (ending.Denied denial.Session) e in
    let h = d.1.1 in
    cc
inside-row s connection (ask.Run request) e =
    let d = ended_at ending.Refused (over_run s) s _ (ending.Denied denial.Session) e in
    let h = d.1.1 in
    cc
inside-row s connection (ask.SignOff request) e =
    let d = ended_at signing.ending_of (over_waivers s) s _ (ending.Denied denial.Session) e in
    sign_off-inside d.0 d.1.1
inside-row s connection _ e = cc

pub lacks-session : DeniedIsLacked → (s : State) (connection : ℕ) (request : Request) (kept : Bool)
    → response_of s (event.Ask connection request) kept ≡ response.Told
    (reply.Denied denial.Session)
    → session_of s.policy connection ≡ None
lacks-session lacked s connection request kept e =
    elim (guarded_ended s connection request kept (ending.Denied denial.Session) (λ is. cc) e) [
      | inl g ↦ lacked s.policy connection (need_of request) (ending.Denied denial.Session) g
      | inr r ↦ absurd (inside-row s connection request r)
    ]

module _ (lacked : DeniedIsLacked) (shelves : LayoutsDenyWhatIsLacked) where
  lacks-request : (s : State) (connection : ℕ) (request : Request) (operation : Operation)
      (object : Object) → (row_outcome s connection request).response ≡ response.Told
      (reply.Denied (denial.Permission operation object))
      → permits s.policy connection operation object ≡ false
  lacks-request s connection (ask.Policy request) operation object e =
      absurd (allows-row s connection request operation object e)
  lacks-request s connection ask.Whoami operation object e = absurd cc
  lacks-request s connection (ask.Layout request) operation object e =
      let d = ended_at layouts.ending_of (over_shelf s) s _ (denied operation object) e in
      go d.0 d.1.0 d.1.1
    where
      go : (why : LayoutEnding) → layouts.row_of s.policy s.shelf connection request ≡ Err why
          → layouts.ending_of why ≡ denied operation object
          → permits s.policy connection operation object ≡ false
      go (layout.Refused code) is told = absurd cc
      go (layout.Unusable cell) is told =
          let op : Use ≡ operation = cc in
          let ob : Cell cell ≡ object = cc in
          rw (← op, ← ob) (shelves s.policy s.shelf connection request cell is)
  lacks-request s connection (ask.Wafer request) operation object e =
      let d = ended_at ending.Refused (over_wafer s) s _ (denied operation object) e in
      absurd (let h = d.1.1 in cc)
  lacks-request s connection (ask.Run request) operation object e =
      let d = ended_at ending.Refused (over_run s) s _ (denied operation object) e in
      absurd (let h = d.1.1 in cc)
  lacks-request s connection (ask.SignOff request) operation object e =
      let d = ended_at signing.ending_of (over_waivers s) s _ (denied operation object) e in
      absurd (sign_off-allows d.0 operation object d.1.1)
  lacks-request s connection ask.Trail operation object e = absurd cc

  pub lacks-permission : (s : State) (connection : ℕ) (request : Request) (kept : Bool)
      (operation : Operation) (object : Object)
      → response_of s (event.Ask connection request) kept ≡ response.Told
      (reply.Denied (denial.Permission operation object))
      → permits s.policy connection operation object ≡ false
  lacks-permission s connection request kept operation object e =
      elim (guarded_ended s connection request kept (denied operation object) (λ is. cc) e) [
        | inl g ↦ (lacked s.policy connection (need_of request) (denied operation object) g).1
        | inr r ↦ lacks-request s connection request operation object r
      ]

  pub lacks-role : (s : State) (connection : ℕ) (role other : List ℕ) (kept : Bool)
      → response_of s (event.Ask connection (ask.Policy (Activate role))) kept ≡ response.Told
      (reply.Denied (denial.Activation other))
      → (other ≡ role) × (contains_name (authorized s.policy (rows.user_of s.policy connection))
      role ≡ false)
  lacks-role s connection role other kept e =
      law.denies-activate s.policy connection role other
      (denied-row s connection (Activate role) (denial.Activation other) (table_ended lacked s
      connection (ask.Policy (Activate role)) kept (ending.Denied (denial.Activation other))
      (λ is. cc) (λ no. no) e))
