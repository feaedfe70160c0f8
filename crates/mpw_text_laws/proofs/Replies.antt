-- The listing of a check is the reply of a desk.
use Rattle.std.proofs.Common.{◌≡◌, ◌∙◌, ℕ, Bool, true, false, [], ◌∷◌, Option, None, Some, refl, sym, ap}
use Rattle.std.specs.Prelude.{is_some}
use Rattle.std.specs.Option.{option_map_or}
use Rattle.std.proofs.lemmas.Bool.{true≢false}
use Rattle.mpw_access.specs.Seen.{seen_by}
use Rattle.mpw_hier.specs.Limits.{numbered}
use Rattle.mpw_hier.specs.Shelved.{ShapesAreOfEarlier}
use Rattle.mpw_job.specs.Laws.{EachMarkerMeetsSome}
use Rattle.mpw_check.specs.Drawn.{offered}
use Rattle.mpw_firm_listing.specs.Keys.{WholeKeysAreNumbers}
use Rattle.mpw_events.specs.Step.{State, outcome_of}
use Rattle.mpw_events.specs.declared.event.Response.TheVariants as response
use Rattle.mpw_rbac.specs.Policy.{session_of}
use Rattle.mpw_replies.specs.Sight.{book_lines}
use Rattle.mpw_replies.specs.declared.reply.Reply.TheVariants as reply
use Rattle.mpw_reply_text.specs.Reply.{reply_text}
use Rattle.mpw_run.specs.declared.phase.Checked.{Checked}
use Rattle.mpw_requests.specs.declared.request.Request.TheVariants as group
use Rattle.mpw_requests.specs.declared.run.RunRequest.TheVariants.{Markers}
use Rattle.mpw_run.specs.Step.{findings}
use Rattle.mpw_tiles.specs.Snapshots.{Snapshot}
use Rattle.mpw_wafer.specs.Run.Checking.{checked_lines}
use Rattle.mpw_text_laws.specs.Replies.{DesksListAsChecks, ListingsAreReplies}
use Rattle.mpw_text_laws.proofs.Lines.{reply_is}
use Rattle.mpw_text_laws.proofs.Touched.{touch_first}

pub listings_are : WholeKeysAreNumbers → ShapesAreOfEarlier → EachMarkerMeetsSome
    → ListingsAreReplies
unfolding reply_text
listings_are whole origins meets deck top text layout book drawn are =
    let s = numbered [] (offered top drawn.library) in
    let alone : layout.shelf ≡ s ∷ [] =
    ap (λ (l : Snapshot). l.shelf) drawn.drawn.snapshot_is in
    sym (ap (λ shelf. reply_text (reply.Ok (book_lines deck.rules shelf (true ∷ []) book))) alone
    ∙ reply_is whole s deck.rules book (touch_first origins meets layout book s alone are))

-- ---- a desk

-- What is permitted on a connection is permitted to a session.
some_from : {S : Type 0} (g : S → Bool) (o : Option S) → option_map_or g o false ≡ true
    → is_some o ≡ true
some_from g None e = absurd (true≢false (sym e))
some_from g (Some session) e = refl

desk_lists : (state : State) (connection : ℕ) (f : Checked)
    → is_some (session_of state.policy connection) ≡ true → findings state.run.phase ≡ Some f
    → (outcome_of state connection (group.Run Markers)).response
    ≡ response.Told (reply.Ok (checked_lines state.policy connection f))
desk_lists state connection f session found = rw (session, found) refl

pub desks_list : WholeKeysAreNumbers → ShapesAreOfEarlier → EachMarkerMeetsSome
    → DesksListAsChecks
unfolding reply_text
desks_list whole origins meets state connection f s found of =
    let policy = state.policy in
    let rules = f.planned.snapshot.deck.rules in (
      reply.Ok (checked_lines policy connection f),
      desk_lists state connection f (some_from _ (session_of policy connection) of.readable) found,
      ap (λ shelf. reply_text
          (reply.Ok (book_lines rules shelf (seen_by policy connection shelf) f.book)))
          of.alone
          ∙ ap (λ b. reply_text (reply.Ok (book_lines rules (s ∷ []) (b ∷ []) f.book))) of.readable
          ∙ reply_is whole s rules f.book
          (touch_first origins meets f.planned.snapshot f.book s of.alone of.markers),
    )
