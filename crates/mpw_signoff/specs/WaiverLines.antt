-- The lines of the waivers of a book's markers.
use Rattle.std.specs.Prelude.{ℕ, ◌+◌, Bool, List, [], ◌∷◌, ◌++◌, slice_get, Option, None, Some, if◌then◌else◌}
use Rattle.mpw_deck.specs.declared.rule.Rule.{Rule}
use Rattle.mpw_markers.specs.declared.marker.Marker.{Marker}
use Rattle.mpw_requests.specs.declared.sign_off.MarkerName.{MarkerName}
use Rattle.mpw_replies.specs.Sight.{is_full}
use Rattle.mpw_replies.specs.declared.reply.Line.{Line}
use Rattle.mpw_replies.specs.declared.reply.Line.TheVariants as line
use Rattle.mpw_waiver.specs.declared.waiver.Waiver.{Waiver}
use Rattle.mpw_waiver.specs.Waivers.{waiver_at}
use Rattle.mpw_signoff.specs.Named.{name_for}

-- Who asked for a marker's waiver, and who signed it, if somebody did.
abbrev pub waiver_line : MarkerName → List ℕ → Option (List ℕ) → Line
waiver_line name asker None = line.Asked name asker
waiver_line name asker (Some signer) = line.Signed name asker signer

abbrev pub rule_line : Marker → Waiver → Option Rule → List Line
rule_line m waiver None = []
rule_line m waiver (Some rule) = waiver_line (name_for rule.name m) waiver.asker waiver.signer ∷ []

-- A marker without a waiver has no line.
abbrev pub marker_line : List Rule → Marker → Option Waiver → List Line
marker_line rules m None = []
marker_line rules m (Some waiver) = rule_line m waiver (slice_get rules m.key.rule)

-- Nor has one that isn't full.
abbrev pub shown_line : List Rule → List Bool → Marker → Option Waiver → List Line
shown_line rules seen m waiver = if is_full seen m then marker_line rules m waiver else []

-- The lines of the markers from an index of the book on, in order.
unfoldable pub lines_from : List Rule → List Bool → List (Option Waiver) → ℕ → List Marker
    → List Line
lines_from rules seen waivers place [] = []
lines_from rules seen waivers place (m ∷ book) =
    shown_line rules seen m (waiver_at waivers place) ++ lines_from rules seen waivers (place + 1)
    book
