-- The requests of the wafer: each with its tests in order, and its result if all pass. The guard was passed
-- before.
use Rattle.std.specs.Prelude.{ℕ, List, [], ◌∷◌, Option, None, Some, Result, Ok, Err}
use Rattle.mpw_geom.specs.declared.placing.Placing.{Placing}
use Rattle.mpw_deck.specs.Decks.{Deck}
use Rattle.mpw_deck.specs.Reading.{deck_of}
use Rattle.mpw_deck.specs.declared.deck.DeckFault.{DeckFault}
use Rattle.mpw_hier.specs.declared.submission.Submission.{Submission}
use Rattle.mpw_placings.specs.declared.fault.PlacingFault.{PlacingFault}
use Rattle.mpw_placings.specs.declared.fault.PlacingFault.TheVariants as fault
use Rattle.mpw_placings.specs.declared.placement.Placement.{Placement}
use Rattle.mpw_placings.specs.Placements.{version_at}
use Rattle.mpw_placings.specs.Rows as table
use Rattle.mpw_roles.specs.Hierarchy.{Name}
use Rattle.mpw_requests.specs.declared.wafer.WaferRequest.{WaferRequest}
use Rattle.mpw_requests.specs.declared.wafer.WaferRequest.TheVariants as ask
use Rattle.mpw_replies.specs.Rows.{changing}
use Rattle.mpw_replies.specs.declared.reply.Line.{Line}
use Rattle.mpw_replies.specs.declared.reply.Line.TheVariants as line
use Rattle.mpw_trail.specs.declared.verdict.Code.{Code}
use Rattle.mpw_trail.specs.declared.verdict.Code.TheVariants as code
use Rattle.mpw_replies.specs.declared.row.Done.{Done}
use Rattle.mpw_placings.specs.declared.wafer.Wafer.{Wafer}

-- ---- decision tables

-- The code of the test of a placement that fails. The tests and their order are in `mpw_placings.specs.Rows`. These
-- tables never give `Memory`, which needs a line since the type has it.
abbrev pub code_of : PlacingFault → Code
code_of fault.NoCell = code.NoCell
code_of fault.Known = code.Known
code_of fault.Extent = code.Extent
code_of fault.Shapes = code.Shapes
code_of fault.Full = code.Full
code_of fault.Unknown = code.Unknown
code_of fault.Memory = code.Full

abbrev pub by_table : Result (List Placement) PlacingFault → Result (List Placement) Code
by_table (Ok ps) = Ok ps
by_table (Err fault) = Err (code_of fault)

-- The decision table of `place`: the placements with the present submission of the cell under that label. The
-- tests, in order: the cell has one, the label is free, extent, number of shapes, room.
abbrev pub place_row : List Submission → List Placement → Name → Name → Placing
    → Result (List Placement) Code
place_row shelf ps cell label placing = by_table (table.placings_with shelf ps cell label placing)

-- The decision table of `unplace`: the placements without the one of that cell and label, which must be there.
abbrev pub unplace_row : List Placement → Name → Name → Result (List Placement) Code
unplace_row ps cell label = by_table (table.placings_without ps cell label)

-- The decision table of `deck`: the deck in a text.
abbrev pub deck_row : Result Deck DeckFault → Result Deck Code
deck_row (Ok deck) = Ok deck
deck_row (Err fault) = Err (code.Deck fault)

-- ---- each request

-- The line of the reply to `place`: the version of the submission that was placed. After an accepted `place`
-- there is one.
abbrev pub version_lines : Option ℕ → List Line
version_lines None = []
version_lines (Some version) = line.Version version ∷ []

-- The decision table of each request. A placement is added at the end, and the reply has its version. A deck
-- replaces the one before.
abbrev pub row_of : List Submission → Wafer → WaferRequest → Result (Done Wafer) Code
row_of shelf wafer (ask.Place cell label placing) =
    changing (λ ps. record wafer { placings = ps })
    (λ ps. version_lines (version_at shelf ps cell label))
    (place_row shelf wafer.placings cell label placing)
row_of shelf wafer (ask.Unplace cell label) =
    changing (λ ps. record wafer { placings = ps }) (λ ps. [])
    (unplace_row wafer.placings cell label)
row_of shelf wafer (ask.Deck text) =
    changing (λ deck. record wafer { deck = Some deck }) (λ deck. []) (deck_row (deck_of text))
