-- Which lines a request's reply has.
use Rattle.std.proofs.Common.{◌≡◌, ℕ, Bool, List, [], ◌∷◌, ◌++◌, map, Option, Some, None, IfOk, arith, sym, subst}
use Rattle.std.specs.Prelude.{All, ◌+◌}
use Rattle.std.proofs.lemmas.List.Elements.{All-cons, All-append}
use Rattle.std.proofs.lemmas.List.{map-append}
use Rattle.mpw_rbac.specs.declared.session.Identity.{Identity}
use Rattle.mpw_rbac.specs.Policy.{Policy}
use Rattle.mpw_rbac.specs.Rows as rows
use Rattle.mpw_requests.specs.declared.policy.PolicyRequest.{PolicyRequest}
use Rattle.mpw_requests.specs.declared.request.Request.{Request}
use Rattle.mpw_requests.specs.declared.request.Request.TheVariants as ask
use Rattle.mpw_requests.specs.declared.wafer.WaferRequest.{WaferRequest}
use Rattle.mpw_requests.specs.declared.wafer.WaferRequest.TheVariants as wafer
use Rattle.mpw_deck.specs.Reading.{deck_of}
use Rattle.mpw_hier.specs.declared.submission.Submission.{Submission}
use Rattle.mpw_placings.specs.Placements.{version_at}
use Rattle.mpw_laws.specs.LayoutLaws.{LayoutsAreOfReadable}
use Rattle.mpw_laws.specs.CheckingLaws.{MarkersAreOfReadable}
use Rattle.mpw_laws.specs.SignOffLaws.{SignOffLinesAreOfReadable}
use Rattle.mpw_replies.specs.Trail.{numbered_entries, trail_lines}
use Rattle.mpw_trail.specs.declared.entry.Entry.{Entry}
use Rattle.mpw_placings.specs.declared.wafer.Wafer.{Wafer}
use Rattle.mpw_wafer.specs.Wafers as wafers
use Rattle.mpw_replies.specs.Listing.{Listed, stored, entry}
use Rattle.mpw_laws.specs.Readable.{IsOfReadable, lines_of}
use Rattle.mpw_replies.specs.declared.reply.Line.{Line}
use Rattle.mpw_replies.specs.declared.reply.Line.TheVariants.{User, Active, Authorized, Version}
use Rattle.mpw_replies.specs.declared.reply.Reply.TheVariants as reply
use Rattle.mpw_replies.specs.declared.row.Ending.TheVariants as ending
use Rattle.mpw_events.specs.declared.event.Event.TheVariants as event
use Rattle.mpw_events.specs.declared.event.Response.TheVariants as response
use Rattle.mpw_events.specs.PolicyRows.{row_of}
use Rattle.mpw_events.specs.Step.{State, ending_of, identity_lines, over_policy, policy_row, whoami_row, row_outcome, response_of}
use Rattle.mpw_laws.proofs.AcceptedLemmas.{accepted}
use Rattle.mpw_laws.proofs.GuardLemmas.{guarded_ok}
use Rattle.mpw_laws.proofs.RowParts.{if_changed}

module _ (policy : Policy) (connection : ℕ) where
  abbrev Readable : List Listed → Type 0
  Readable lines = All (IsOfReadable policy connection) lines

  no_lines : Readable []
  no_lines = λ k d lt. absurd (omega (arith, lt))

  of_policy : (request : PolicyRequest)
      → IfOk (policy_row policy connection request) (λ done. Readable (lines_of done))
  of_policy request =
      if_changed _ _ (λ next. []) (row_of policy connection request) (λ next is. no_lines)

  of_active : (make : List ℕ → Line) → ((name : List ℕ)
      → IsOfReadable policy connection (stored (make name))) → (names : List (List ℕ))
      → Readable (map stored (map make names))
  of_active make tells [] = no_lines
  of_active make tells (name ∷ names) = All-cons (IsOfReadable policy connection)
      (stored (make name)) _
      (tells name) (of_active make tells names)

  of_identity : (who : Identity) → Readable (map stored (identity_lines who))
  of_identity who =
      let parts = map-append stored (map Active who.active) (map Authorized who.authorized) in
      let rest : Readable (map stored (map Active who.active ++ map Authorized who.authorized)) =
      subst Readable (sym parts)
      (All-append (IsOfReadable policy connection) (map stored (map Active who.active)) _
      (of_active Active (λ name. tt) who.active)
      (of_active Authorized (λ name. tt) who.authorized)) in
      All-cons (IsOfReadable policy connection) (stored (User who.user)) _ tt rest

  of_whoami : IfOk (whoami_row policy connection) (λ done. Readable (lines_of done))
  of_whoami = of_identity (rows.whoami policy connection)

  -- the reply to a request of the wafer has a version, or nothing
  of_version : (version : Option ℕ) → Readable (map stored (wafers.version_lines version))
  of_version None = no_lines
  of_version (Some version) = All-cons (IsOfReadable policy connection) (stored (Version version))
      [] tt
      no_lines

  of_wafer : (shelf : List Submission) (present : Wafer) (request : WaferRequest)
      → IfOk (wafers.row_of shelf present request) (λ done. Readable (lines_of done))
  of_wafer shelf present (wafer.Place cell label placing) =
      if_changed _ _ _ (wafers.place_row shelf present.placings cell label placing)
      (λ ps is. of_version (version_at shelf ps cell label))
  of_wafer shelf present (wafer.Unplace cell label) =
      if_changed _ _ (λ ps. []) (wafers.unplace_row present.placings cell label)
      (λ ps is. no_lines)
  of_wafer shelf present (wafer.Deck text) =
      if_changed _ _ (λ deck. []) (wafers.deck_row (deck_of text)) (λ deck is. no_lines)

  of_entries : (number : ℕ) (entries : List Entry) → Readable (numbered_entries number entries)
  unfolding numbered_entries
  of_entries number [] = no_lines
  of_entries number (e ∷ entries) =
      All-cons (IsOfReadable policy connection) (entry number e) _
      tt (of_entries (number + 1) entries)

module _ (layouts_are : LayoutsAreOfReadable) (markers_are : MarkersAreOfReadable)
    (waivers_are : SignOffLinesAreOfReadable) where
  of_row : (s : State) (connection : ℕ) (request : Request) (lines : List Listed)
      → (row_outcome s connection request).response ≡ response.Told (reply.Ok lines)
      → Readable s.policy connection lines
  of_row s connection (ask.Policy request) lines e =
      accepted _ _ s _ (Readable s.policy connection) lines (of_policy s.policy connection request) e
  of_row s connection ask.Whoami lines e =
      accepted ending_of (over_policy s) s (whoami_row s.policy connection)
      (Readable s.policy connection) lines (of_whoami s.policy connection) e
  of_row s connection (ask.Layout request) lines e =
      accepted _ _ s _ (Readable s.policy connection) lines
      (layouts_are s.policy s.shelf connection request) e
  of_row s connection (ask.Wafer request) lines e =
      accepted ending.Refused _ s _ (Readable s.policy connection) lines
      (of_wafer s.policy connection s.shelf s.wafer request) e
  of_row s connection (ask.Run request) lines e =
      accepted ending.Refused _ s _ (Readable s.policy connection) lines
      (markers_are s.policy s.shelf s.wafer s.run connection request) e
  of_row s connection (ask.SignOff request) lines e =
      accepted _ _ s _ (Readable s.policy connection) lines
      (waivers_are s.policy s.wafer s.run s.waivers connection request) e
  of_row s connection ask.Trail lines e =
      let same : trail_lines s.trail ≡ lines = cc in
      subst (Readable s.policy connection) same (of_entries s.policy connection 1 s.trail)

  pub readable-lines : (s : State) (connection : ℕ) (request : Request) (kept : Bool)
      (lines : List Listed) → response_of s (event.Ask connection request) kept ≡ response.Told
      (reply.Ok lines) → Readable s.policy connection lines
  readable-lines s connection request kept lines e =
      of_row s connection request lines (guarded_ok s connection request kept lines e).row
