-- The listing of a check, and the reply of a desk to `markers`.
use Rattle.std.specs.Prelude.{◌≡◌, ℕ, true, List, [], ◌∷◌, Some}
use Rattle.mpw_check.specs.Drawn.{IsDrawnFrom}
use Rattle.mpw_deck.specs.Decks.{Deck}
use Rattle.mpw_events.specs.Step.{State, outcome_of}
use Rattle.mpw_events.specs.declared.event.Response.TheVariants as response
use Rattle.mpw_hier.specs.declared.submission.Submission.{Submission}
use Rattle.mpw_job.specs.Layout.{AreLayoutMarkers}
use Rattle.mpw_firm_listing.specs.Listing.{listing_text}
use Rattle.mpw_markers.specs.declared.marker.Marker.{Marker}
use Rattle.mpw_permissions.specs.declared.permission.Object.TheVariants as object
use Rattle.mpw_permissions.specs.declared.permission.Operation.TheVariants.{Read}
use Rattle.mpw_rbac.specs.Policy.{Policy, permits}
use Rattle.mpw_replies.specs.Sight.{book_lines}
use Rattle.mpw_replies.specs.declared.reply.Reply.{Reply}
use Rattle.mpw_replies.specs.declared.reply.Reply.TheVariants as reply
use Rattle.mpw_reply_text.specs.Reply.{reply_text}
use Rattle.mpw_requests.specs.declared.request.Request.TheVariants as group
use Rattle.mpw_requests.specs.declared.run.RunRequest.TheVariants.{Markers}
use Rattle.mpw_run.specs.declared.phase.Checked.{Checked}
use Rattle.mpw_run.specs.Step.{findings}
use Rattle.mpw_tiles.specs.Snapshots.{Snapshot}

-- ---- of a check

-- The listing of a structure's markers is the reply for one who may read the only submission of its layout.
abbrev pub ListingsAreReplies : Type 0
ListingsAreReplies =
    (deck : Deck) (top text : List ℕ) (layout : Snapshot) (book : List Marker)
    → IsDrawnFrom deck top text layout → AreLayoutMarkers layout book
    → listing_text 1 top deck.rules book
    ≡ reply_text (reply.Ok (book_lines deck.rules layout.shelf (true ∷ []) book))

-- ---- of a desk

-- What a finished run found are exactly the markers of its layout, in which only this submission is placed. The session may read its cell.
pub record IsOfOneCell (policy : Policy) (connection : ℕ) (f : Checked) (s : Submission) : Type 0
  where
    pub alone : f.planned.snapshot.shelf ≡ s ∷ []
    pub markers : AreLayoutMarkers f.planned.snapshot f.book
    pub readable : permits policy connection Read (object.Cell s.cell) ≡ true

-- The response to `markers` is a reply, whose text is the listing of these markers under the cell's name.
abbrev pub DesksListAsChecks : Type 0
DesksListAsChecks =
    (state : State) (connection : ℕ) (f : Checked) (s : Submission)
    → findings state.run.phase ≡ Some f → IsOfOneCell state.policy connection f s
    → (r : Reply)
    × ((outcome_of state connection (group.Run Markers)).response ≡ response.Told r)
    × (reply_text r ≡ listing_text 1 s.cell f.planned.snapshot.deck.rules f.book)
