-- The sign-off requests list only what may be read.
use Rattle.std.proofs.Common.{◌==◌, ℕ, Bool, true, false, if◌then◌else◌, List, [], ◌∷◌, Option, None, Some}
use Rattle.std.specs.Prelude.{All}
use Rattle.std.proofs.lemmas.List.Elements.{All-nil, All-cons, All-map}
use Rattle.mpw_laws.proofs.RowParts.{if_ok, if_listed, if_changed}
use Rattle.mpw_rbac.specs.Policy.{Policy}
use Rattle.mpw_requests.specs.declared.sign_off.MarkerName.{MarkerName}
use Rattle.mpw_requests.specs.declared.sign_off.SignOffRequest.TheVariants as ask
use Rattle.mpw_replies.specs.Listing.{Listed, stored}
use Rattle.mpw_laws.specs.Readable.{IsOfReadable}
use Rattle.mpw_access.specs.Seen.{seen_by}
use Rattle.mpw_replies.specs.declared.reply.Line.TheVariants as line
use Rattle.mpw_waiver.specs.Waivers.{unsigned}
use Rattle.mpw_laws.specs.SignOffLaws.{SignOffLinesAreOfReadable}
use Rattle.mpw_signoff.specs.Named.{name_for}
use Rattle.mpw_signoff.specs.SigningOff.{finished, is_present, verdict_line, verdict_of, waive_row, sign_row, waiver_lines}
use Rattle.mpw_signoff.specs.WaiverLines.{waiver_line}
use Rattle.mpw_laws.proofs.Listed.{of_lines}

module _ (policy : Policy) (connection : ℕ) where
  abbrev Readable : List Listed → Type 0
  Readable lines = All (IsOfReadable policy connection) lines

  none : Readable []
  none = All-nil (IsOfReadable policy connection)

  one : (l : Listed) → IsOfReadable policy connection l → Readable (l ∷ [])
  one l may = All-cons (IsOfReadable policy connection) l [] may none

  of_waiver : (name : MarkerName) (asker : List ℕ) (signer : Option (List ℕ))
      → IsOfReadable policy connection (stored (waiver_line name asker signer))
  of_waiver name asker None = tt
  of_waiver name asker (Some signer) = tt

  of_line : (present : Bool) (number : ℕ)
      → IsOfReadable policy connection (stored (verdict_line present number))
  of_line false number = tt
  of_line true number = go (number == 0)
    where
      go : (b : Bool) → IsOfReadable policy connection
          (stored (if b then line.Clean else line.Open number))
      go true = tt
      go false = tt

pub lines_may : SignOffLinesAreOfReadable
lines_may policy wafer run waivers connection (ask.Waive name) =
    if_changed _ _ (λ by. []) (waive_row policy run waivers connection name)
    (λ by is. none policy connection)
lines_may policy wafer run waivers connection (ask.Sign name) =
    if_changed _ _ (λ by. []) (sign_row policy run waivers connection name)
    (λ by is. none policy connection)
lines_may policy wafer run waivers connection ask.Waivers =
    if_listed _ _ (finished run) (if_ok _ (finished run) (λ f is.
    All-map (IsOfReadable policy connection) stored (waiver_lines policy connection f waivers)
    (of_lines (λ l. IsOfReadable policy connection (stored l)) f.planned.snapshot.deck.rules
    (seen_by policy connection f.planned.snapshot.shelf) waivers f.book
    (λ place m waiver rule at full is of. of_waiver policy connection (name_for rule.name m)
    waiver.asker waiver.signer))))
lines_may policy wafer run waivers connection ask.Verdict =
    if_listed _ _ (finished run) (if_ok _ (finished run) (λ f is.
    one policy connection (stored (verdict_of wafer waivers f))
    (of_line policy connection (is_present wafer f.planned.snapshot) (unsigned waivers))))
