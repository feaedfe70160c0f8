-- What ends the guard and a decision table, and the tables of the policy and of the layouts: none ends with the
-- code of a closed desk or of a full history.
use Rattle.std.proofs.Common.{◌≡◌, ℕ, Bool, true, false, List, [], ◌∷◌, Option, None, Some, Result, Ok, Err, refl}
use Rattle.std.specs.Prelude.{⊤, ◌^◌, not, is_some, if◌then◌else◌}
use Rattle.mpw_structures.specs.declared.structures.Structure.{Structure}
use Rattle.mpw_structures.specs.Places.{place_of}
use Rattle.mpw_records.specs.declared.fault.ReadFault.{ReadFault}
use Rattle.mpw_library.specs.Grammar.{library_of}
use Rattle.mpw_hier.specs.declared.submission.Submission.{Submission}
use Rattle.mpw_hier.specs.Limits.{is_too_large, is_too_deep, has_room_for, numbered}
use Rattle.mpw_hier.specs.Reach.{is_cyclic, external_names, is_far}
use Rattle.mpw_hier.specs.Shelf.{present, bound_to}
use Rattle.mpw_roles.specs.Decided.{decided}
use Rattle.mpw_permissions.specs.declared.permission.Object.TheVariants as object
use Rattle.mpw_permissions.specs.declared.permission.Operation.TheVariants as operation
use Rattle.mpw_rbac.specs.Policy.{Policy, permits}
use Rattle.mpw_rbac.specs.Rows as rows
use Rattle.mpw_rbac.specs.declared.refusal.Refusal.{Refusal}
use Rattle.mpw_rbac.specs.declared.refusal.Refusal.TheVariants as refusal
use Rattle.mpw_access.specs.Guard.{entered, in_session}
use Rattle.mpw_requests.specs.declared.need.Need.{Need}
use Rattle.mpw_requests.specs.declared.need.Need.TheVariants as need
use Rattle.mpw_requests.specs.declared.layouts.LayoutRequest.{LayoutRequest}
use Rattle.mpw_requests.specs.declared.layouts.LayoutRequest.TheVariants as layout_ask
use Rattle.mpw_requests.specs.declared.request.Request.TheVariants as ask
use Rattle.mpw_replies.specs.Listing.{Listed}
use Rattle.mpw_replies.specs.Rows.{◌>>=◌, changing, denied, ended_by, listing, needed}
use Rattle.mpw_trail.specs.declared.verdict.Code.{Code}
use Rattle.mpw_trail.specs.declared.verdict.Code.TheVariants as code
use Rattle.mpw_replies.specs.declared.reply.Line.{Line}
use Rattle.mpw_replies.specs.declared.reply.Line.TheVariants as line
use Rattle.mpw_replies.specs.declared.reply.Reply.{Reply}
use Rattle.mpw_replies.specs.declared.reply.Reply.TheVariants as reply
use Rattle.mpw_replies.specs.declared.row.Ending.{Ending}
use Rattle.mpw_replies.specs.declared.row.Ending.TheVariants as ending
use Rattle.mpw_layouts.specs.Layouts as layouts
use Rattle.mpw_layouts.specs.declared.ending.LayoutEnding.{LayoutEnding}
use Rattle.mpw_layouts.specs.declared.ending.LayoutEnding.TheVariants.{Refused, Unusable}
use Rattle.mpw_layouts.specs.Layouts.{within_limits, submitted_library, submit_row, shapes, unnumbered_submission}
use Rattle.mpw_events.specs.declared.event.Response.{Response}
use Rattle.mpw_events.specs.declared.event.Response.TheVariants as response
use Rattle.mpw_events.specs.Step.{Outcome, State, ending_of, guarded, outcome_by, over_shelf, row_outcome}

-- ---- what ends a decision table

-- a code of an answer
abbrev pub IsTold : Code → Type 0
IsTold code.Ended = ⊥
IsTold code.Closed = ⊥
IsTold _ = ⊤

abbrev IsFair : Ending → Type 0
IsFair (ending.Denied why) = ⊤
IsFair (ending.Refused c) = IsTold c

-- what ends a table is fair
abbrev pub EndsBy : {A E : Type 0} → (E → Ending) → Result A E → Type 0
EndsBy ending (Ok x) = ⊤
EndsBy ending (Err e) = IsFair (ending e)

-- what ends a table of the wafer or of the run, of the layouts, and of the waivers
abbrev pub EndsFair : {A : Type 0} → Result A Code → Type 0
EndsFair r = EndsBy ending.Refused r

abbrev LayoutFair : {A : Type 0} → Result A LayoutEnding → Type 0
LayoutFair r = EndsBy layouts.ending_of r

abbrev AreFair : {E : Type 0} → (E → Ending) → List (Bool × E) → Type 0
AreFair ending [] = ⊤
AreFair ending (test ∷ tests) = IsFair (ending test.1) × AreFair ending tests

abbrev IsFairReply : Reply → Type 0
IsFairReply (reply.Ok lines) = ⊤
IsFairReply (reply.Denied why) = ⊤
IsFairReply (reply.Refused c) = IsTold c

abbrev pub IsFairResponse : Response → Type 0
IsFairResponse (response.Told r) = IsFairReply r
IsFairResponse (response.Run r) = ⊥
IsFairResponse response.Gone = ⊥
IsFairResponse response.Restarted = ⊥
IsFairResponse response.Ended = ⊥

-- it is a reply
pub fair-reply : (x : Response) → IsFairResponse x → (r : Reply) × (x ≡ response.Told r)
fair-reply (response.Told r) fair = (r, refl)
fair-reply (response.Run r) fair = absurd fair
fair-reply response.Gone fair = absurd fair
fair-reply response.Restarted fair = absurd fair
fair-reply response.Ended fair = absurd fair

ended-fair : (e : Ending) → IsFair e → IsFairReply (ended_by e)
ended-fair (ending.Denied why) fair = tt
ended-fair (ending.Refused c) fair = fair

-- the reply of a table that ends so, if it lists and if it changes a part
pub listing-fair : {A E P : Type 0} (ending : E → Ending) (over : P → State) (s : State)
    (lines : A → List Listed) (row : Result A E) → EndsBy ending row
    → IsFairResponse (outcome_by ending over s (listing lines row)).response
listing-fair ending over s lines (Ok x) fair = tt
listing-fair ending over s lines (Err e) fair = ended-fair (ending e) fair

pub changing-fair : {A E P : Type 0} (ending : E → Ending) (over : P → State) (s : State)
    (part : A → P) (lines : A → List Line) (row : Result A E) → EndsBy ending row
    → IsFairResponse (outcome_by ending over s (changing part lines row)).response
changing-fair ending over s part lines (Ok x) fair = tt
changing-fair ending over s part lines (Err e) fair = ended-fair (ending e) fair

pub row-fair : {A B E : Type 0} (ending : E → Ending) (x : Result A E) (f : A → Result B E)
    → EndsBy ending x → ((a : A) → EndsBy ending (f a)) → EndsBy ending (x >>= f)
row-fair ending (Ok a) f first rest = rest a
row-fair ending (Err e) f first rest = first

pub by_test-fair : {A E : Type 0} (ending : E → Ending) (b : Bool) (e : E) (rest : Result A E)
    → IsFair (ending e) → EndsBy ending rest → EndsBy ending (if b then rest else Err e)
by_test-fair ending true e rest one all = all
by_test-fair ending false e rest one all = one

decided-fair : {A E : Type 0} (ending : E → Ending) (tests : List (Bool × E)) (value : A)
    → AreFair ending tests → EndsBy ending (decided tests value)
decided-fair ending [] value fair = tt
decided-fair ending (test ∷ tests) value fair =
    by_test-fair ending test.0 test.1 (decided tests value) fair.0
    (decided-fair ending tests value fair.1)

pub needed-fair : {A E : Type 0} (ending : E → Ending) (e : E) (x : Option A) → IsFair (ending e)
    → EndsBy ending (needed e x)
needed-fair ending e None told = told
needed-fair ending e (Some x) told = tt

-- ---- the guard

entered-fair : (policy : Policy) (connection : ℕ) (n : Need)
    → EndsBy (λ e. e) (entered policy connection n)
entered-fair policy connection need.Nothing = tt
entered-fair policy connection need.Session =
    decided-fair (λ e. e) (in_session policy connection ∷ []) tt (tt, tt)
entered-fair policy connection (need.Permission op on) =
    decided-fair (λ e. e) (in_session policy connection
    ∷ (permits policy connection op on, denied op on) ∷ []) tt (tt, (tt, tt))

-- the reply of a request, by that of its table
pub guarded-fair : (s : State) (connection : ℕ) (n : Need) (o : Outcome)
    → IsFairResponse o.response
    → IsFairResponse (guarded s (entered s.policy connection n) o).response
guarded-fair s connection n o fair =
    go (entered s.policy connection n) (entered-fair s.policy connection n)
  where
    go : (met : Result (Unit {0}) Ending) → EndsBy (λ e. e) met
        → IsFairResponse (guarded s met o).response
    go (Ok passed) ends = fair
    go (Err why) ends = ended-fair why ends

-- ---- the policy

refused-fair : (r : Refusal) → IsFair (ending_of r)
refused-fair refusal.Opened = tt
refused-fair refusal.Login = tt
refused-fair (refusal.NotAuthorized role) = tt
refused-fair (refusal.Ssd name) = tt
refused-fair (refusal.Dsd name) = tt
refused-fair refusal.Unknown = tt
refused-fair refusal.Loop = tt
refused-fair refusal.Known = tt
refused-fair refusal.Used = tt
refused-fair refusal.Full = tt

pub policy-fair : {A : Type 0} (r : Result A Refusal) → EndsBy ending_of r
policy-fair (Ok x) = tt
policy-fair (Err r) = refused-fair r

-- ---- the layouts

read-fair : (r : Result (List Structure) ReadFault) → LayoutFair (layouts.read r)
read-fair (Ok library) = tt
read-fair (Err fault) = tt

outside-fair : (library : List Structure) (top : List ℕ) → LayoutFair (layouts.outside library top)
outside-fair library top =
    decided-fair layouts.ending_of ((is_some (place_of library top), Refused code.NoTop)
    ∷ (not (is_cyclic library top), Refused code.Cycle) ∷ []) (external_names library top)
    (tt, (tt, tt))

usable-fair : (policy : Policy) (connection : ℕ) (cells : List (List ℕ))
    → LayoutFair (layouts.usable policy connection cells)
usable-fair policy connection [] = tt
usable-fair policy connection (cell ∷ cells) =
    by_test-fair layouts.ending_of (permits policy connection operation.Use (object.Cell cell))
    (Unusable cell) (layouts.usable policy connection cells) tt
    (usable-fair policy connection cells)

limits-fair : (shelf : List Submission) (s : Submission) → LayoutFair (within_limits shelf s)
unfolding within_limits
limits-fair shelf s =
    decided-fair layouts.ending_of ((not (is_far shelf s), Refused code.Extent)
    ∷ (not (is_too_large (2 ^ 20) shelf s), Refused code.Shapes)
    ∷ (not (is_too_deep shelf s), Refused code.Deep)
    ∷ (has_room_for shelf s.cell, Refused code.Full)
    ∷ []) (numbered shelf s) (tt, (tt, (tt, (tt, tt))))

submitted-fair : (policy : Policy) (shelf : List Submission) (connection : ℕ)
    (cell top : List ℕ) (library : List Structure)
    → LayoutFair (submitted_library policy shelf connection cell top library)
unfolding submitted_library
submitted-fair policy shelf connection cell top library =
    row-fair layouts.ending_of (layouts.outside library top) _ (outside-fair library top)
    (λ names. row-fair layouts.ending_of (layouts.usable policy connection names) _
    (usable-fair policy connection names)
    (λ used. row-fair layouts.ending_of (needed (Refused code.NoCell) (bound_to shelf names)) _
    (needed-fair layouts.ending_of (Refused code.NoCell) (bound_to shelf names) tt)
    (λ bindings. limits-fair shelf
    (unnumbered_submission cell (rows.user_of policy connection) library top bindings))))

submit-fair : (policy : Policy) (shelf : List Submission) (connection : ℕ) (cell top text : List ℕ)
    → LayoutFair (submit_row policy shelf connection cell top text)
unfolding submit_row
submit-fair policy shelf connection cell top text =
    row-fair layouts.ending_of (layouts.read (library_of text)) _ (read-fair (library_of text))
    (λ library. submitted-fair policy shelf connection cell top library)

shapes-fair : (policy : Policy) (shelf : List Submission) (connection : ℕ) (cell : List ℕ)
    → LayoutFair (shapes policy shelf connection cell)
unfolding shapes
shapes-fair policy shelf connection cell =
    row-fair layouts.ending_of (needed (Refused code.NoCell) (present shelf cell)) _
    (needed-fair layouts.ending_of (Refused code.NoCell) (present shelf cell) tt) (λ number. tt)

pub layout-fair : (s : State) (connection : ℕ) (request : LayoutRequest)
    → IsFairResponse (row_outcome s connection (ask.Layout request)).response
layout-fair s connection (layout_ask.Submit cell top text) =
    changing-fair layouts.ending_of (over_shelf s) s _ (λ new. line.Version new.version ∷ [])
    (submit_row s.policy s.shelf connection cell top text)
    (submit-fair s.policy s.shelf connection cell top text)
layout-fair s connection request = search (listing-fair, shapes-fair, row-fair, needed-fair)
