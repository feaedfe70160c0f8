-- What an accepted `markers` shows: each full marker, and the count of each rule's masked markers.
use Rattle.std.specs.Prelude.{◌≡◌, ◌↔◌, ◌<◌, ℕ, true, List, ◌++◌, length, slice_get, AllPairs, Contains, Option, Some}
use Rattle.std.specs.declared.cmp.Ordering.TheVariants.{Less}
use Rattle.mpw_geom.specs.Names.{name_cmp}
use Rattle.mpw_deck.specs.declared.rule.Rule.{Rule}
use Rattle.mpw_hier.specs.declared.submission.Submission.{Submission}
use Rattle.mpw_markers.specs.declared.marker.Marker.{Marker}
use Rattle.mpw_roles.specs.Hierarchy.{Name}
use Rattle.mpw_permissions.specs.declared.permission.Object.TheVariants as object
use Rattle.mpw_permissions.specs.declared.permission.Operation.TheVariants.{Read}
use Rattle.mpw_rbac.specs.Policy.{Policy, permits}
use Rattle.mpw_replies.specs.Listing.{Listed, marker, masked}
use Rattle.mpw_replies.specs.declared.reply.Reply.TheVariants as reply
use Rattle.mpw_requests.specs.declared.request.Request.TheVariants as ask
use Rattle.mpw_requests.specs.declared.run.RunRequest.TheVariants as run
use Rattle.mpw_run.specs.declared.phase.Checked.{Checked}
use Rattle.mpw_run.specs.declared.phase.Phase.TheVariants.{Finished}
use Rattle.mpw_events.specs.declared.event.Event.TheVariants as event
use Rattle.mpw_events.specs.declared.event.Response.TheVariants as response
use Rattle.mpw_events.specs.declared.keeper.KeptChange.{KeptChange}
use Rattle.mpw_events.specs.History.{Desk, KeptDesk, IsHandled, kept_desk, state_of}

-- What decides what a session sees: its policy and connection, the run's rules, its shelf and its book.
pub record Sight : Type 0 where
  pub policy : Policy
  pub connection : ℕ
  pub rules : List Rule
  pub shelf : List Submission
  pub book : List Marker

-- ---- which markers

-- The marker touches a submission of that cell.
pub record Meets (shelf : List Submission) (m : Marker) (cell : Name) : Type 0 where
  pub number : ℕ
  pub submission : Submission
  pub met : Contains m.met number
  pub is : slice_get shelf number ≡ Some submission
  pub of_cell : submission.cell ≡ cell

-- The session may read the cell of the submission of that number.
pub record MayRead (v : Sight) (number : ℕ) : Type 0 where
  pub submission : Submission
  pub is : slice_get v.shelf number ≡ Some submission
  pub permitted : permits v.policy v.connection Read (object.Cell submission.cell) ≡ true

-- It may read the cells of all submissions that the marker touches.
abbrev pub IsReadable : Sight → Marker → Type 0
IsReadable v m = (number : ℕ) → Contains m.met number → MayRead v number

-- It may read some of them, and not all.
pub record IsHalfReadable (v : Sight) (m : Marker) : Type 0 where
  pub number : ℕ
  pub met : Contains m.met number
  pub readable : MayRead v number
  pub not_all : IsReadable v m → ⊥

-- ---- indexes of a list

-- These are exactly the indexes that P holds of, in order, each once.
pub record ArePlaces (P : ℕ → Type 0) (places : List ℕ) : Type 0 where
  pub ascending : AllPairs (λ a b. a < b) places
  pub exact : (place : ℕ) → Contains places place ↔ P place

-- P holds of that many indexes.
pub record AreSoMany (P : ℕ → Type 0) (number : ℕ) : Type 0 where
  pub places : List ℕ
  pub are : ArePlaces P places
  pub many : length places ≡ number

-- There is one line, in order, for exactly each of the indexes that P holds of.
pub record TellOf (P : ℕ → Type 0) (tells : ℕ → Listed → Type 0) (lines : List Listed) :
    Type 0 where
  pub places : List ℕ
  pub are : ArePlaces P places
  pub as_many : length lines ≡ length places
  pub each : (k place : ℕ) (line : Listed) → slice_get places k ≡ Some place
      → slice_get lines k ≡ Some line → tells place line

-- ---- lines of markers

-- The book has at that index a marker that the session may read.
pub record IsReadableAt (v : Sight) (place : ℕ) : Type 0 where
  pub marker : Marker
  pub at : slice_get v.book place ≡ Some marker
  pub readable : IsReadable v marker

-- The line is that of the marker there: it has the rule's name, the marker's key, and exactly the cells that
-- the marker touches, in alphabetical order, each once.
pub record NamesMarkerAt (v : Sight) (place : ℕ) (line : Listed) : Type 0 where
  pub own : Marker
  pub at : slice_get v.book place ≡ Some own
  pub rule : Rule
  pub of_rule : slice_get v.rules own.key.rule ≡ Some rule
  pub cells : List Name
  pub is : line ≡ marker rule.name own.key cells
  pub by_name : AllPairs (λ a b. name_cmp a b ≡ Less) cells
  pub exact : (cell : Name) → Contains cells cell ↔ Meets v.shelf own cell

-- ---- lines of rules

-- The book has at that index a marker of the rule, of which the session may read some cells and not all.
pub record IsMaskedAt (v : Sight) (rule place : ℕ) : Type 0 where
  pub marker : Marker
  pub at : slice_get v.book place ≡ Some marker
  pub of_rule : marker.key.rule ≡ rule
  pub half : IsHalfReadable v marker

-- The rule there has such a marker.
pub record HasMasked (v : Sight) (rule : ℕ) : Type 0 where
  pub own : Rule
  pub is : slice_get v.rules rule ≡ Some own
  pub place : ℕ
  pub one : IsMaskedAt v rule place

-- The line has the rule's name, and the count of its markers of this kind.
pub record CountsMasked (v : Sight) (rule : ℕ) (line : Listed) : Type 0 where
  pub own : Rule
  pub at : slice_get v.rules rule ≡ Some own
  pub number : ℕ
  pub is : line ≡ masked own.name number
  pub many : AreSoMany (IsMaskedAt v rule) number

-- ---- the listing

-- First a line for each marker that the session may read, in the book's order; then one for each rule with
-- markers that it may read in part, in the deck's order. There are no others.
pub record AreTold (v : Sight) (lines : List Listed) : Type 0 where
  pub full : List Listed
  pub numbers : List Listed
  pub parts : lines ≡ full ++ numbers
  pub shown : TellOf (IsReadableAt v) (NamesMarkerAt v) full
  pub counted : TellOf (HasMasked v) (CountsMasked v) numbers

abbrev pub sight_of : Desk → ℕ → Checked → Sight
sight_of desk connection f = record {
  policy = (state_of desk).policy;
  connection = connection;
  rules = f.planned.snapshot.deck.rules;
  shelf = f.planned.snapshot.shelf;
  book = f.book;
}

-- A run is finished, and these are the lines.
pub record TellsItsBook (desk : Desk) (connection : ℕ) (lines : List Listed) : Type 0 where
  pub checked : Checked
  pub finished : (state_of desk).run.phase ≡ Finished checked
  pub told : AreTold (sight_of desk connection checked) lines

-- Whoever asks a desk: an accepted `markers` has these lines.
abbrev pub MarkersAreTold : Desk → Type 0
MarkersAreTold desk =
    (changes : Option (List KeptChange)) (failures connection : ℕ) (lines : List Listed)
    (left : KeptDesk)
    → IsHandled (kept_desk desk changes failures) (event.Ask connection (ask.Run run.Markers))
    (response.Told (reply.Ok lines)) left
    → TellsItsBook desk connection lines

-- A book has one such listing for a session.
abbrev pub OneListing : Type 0
OneListing = (v : Sight) (lines others : List Listed) → AreTold v lines → AreTold v others
    → lines ≡ others
