-- What is listed of the whole of parts.
use Rattle.std.proofs.Common.{◌≡◌, ◌∙◌, List, length, sym, ap, subst, Option, Some, Result, Ok, Err}
use Rattle.std.specs.Prelude.{IfOk}
use Rattle.mpw_deck.specs.Decks.{Deck}
use Rattle.mpw_deck.specs.Reading.{deck_of}
use Rattle.mpw_job.specs.Laws.{LayoutDeterminesMarkers}
use Rattle.mpw_firm_listing.specs.Listing.{listing_text}
use Rattle.mpw_firm_parts.specs.Parts.{Checked, Found}
use Rattle.mpw_firm_parts.specs.Stitching.{IsBookOf}
use Rattle.mpw_firm_spread.specs.Spread.{PartsMakeTheLayout}
use Rattle.mpw_tiles.specs.Snapshots.{Snapshot}
use Rattle.mpw_firm.specs.Stitched.{IsWholeOf, IsListedAsCheck, WholesAreListedAsChecks}
use Rattle.mpw_firm_messages.specs.declared.fault.FirmFault.{FirmFault}
use Rattle.mpw_firm.specs.declared.whole.Whole.{Whole}

read_once : {A E : Type 0} (r s : Result A E) (x y : A) → r ≡ s → r ≡ Ok x → s ≡ Ok y → x ≡ y
read_once r s x y same a b = let e : Ok x ≡ Ok y = sym a ∙ same ∙ b in cc

pub listed_as_checks : PartsMakeTheLayout → LayoutDeterminesMarkers → WholesAreListedAsChecks
listed_as_checks make one parts whole w texts first book at made beside are =
    let e : Some w.first ≡ Some first = sym w.at ∙ at in
    let firsts : w.first ≡ first = cc in
    let told = ap (λ p. p.subject) firsts ∙ made.made.told in
    let decks : whole.deck ≡ made.snapshot.deck =
    read_once _ _ _ _ (ap deck_of (ap (λ (c : Checked). c.deck) told)) w.deck made.made.read
    ∙ sym (ap (λ (s : Snapshot). s.deck) made.made.drawn.drawn.snapshot_is) in
    let tops : whole.top ≡ texts.top = w.top ∙ ap (λ (c : Checked). c.top) told in
    ap (λ top. listing_text 1 top whole.deck.rules whole.book) tops
    ∙ ap (λ (d : Deck). listing_text 1 texts.top d.rules whole.book) decks
    ∙ ap (listing_text 1 texts.top made.snapshot.deck.rules)
    (one made.snapshot whole.book book (make texts first parts whole.book at made beside
    (subst (λ (d : Deck). IsBookOf (length d.rules) parts whole.book) decks w.book)) are)

-- It holds of what comes of making a whole.
pub listed_if : WholesAreListedAsChecks → (parts : List Found) (made : Result Whole FirmFault)
    → IfOk made (IsWholeOf parts) → IfOk made (IsListedAsCheck parts)
listed_if law parts (Ok whole) is = law parts whole is
listed_if law parts (Err fault) is = tt
