-- Why a request is refused.
use Rattle.std.proofs.Common.{◌≡◌, refl}
use Rattle.mpw_deck.specs.declared.deck.DeckFault.{DeckFault}
use Rattle.mpw_records.specs.declared.fault.ReadFault.{ReadFault}
use Rattle.mpw_trail.specs.declared.verdict.Code.{Code}
use Rattle.mpw_trail.specs.declared.verdict.Code.TheVariants.{Read, Deck, NoTop, Cycle, NoCell, Extent, Shapes, Deep, Full, Tiles, Opened, NoRun, Unknown, Known, Used, Loop, Running, NoDeck, Empty, NotFinished, NoMarker, NoWaiver, Ended, Store, Closed}
use Rattle.mpw_trail.specs.FirstLineText.{code_text, refused_text, refusal_of}

-- a refusal has no place unless it is a text's fault
pub refused_alone : (code : Code) → ((f : ReadFault) → code ≡ Read f → ⊥)
    → ((f : DeckFault) → code ≡ Deck f → ⊥) → refused_text code ≡ refusal_of (code_text code)
refused_alone (Read f) other another = absurd (other f refl)
refused_alone (Deck f) other another = absurd (another f refl)
refused_alone NoTop other another = refl
refused_alone Cycle other another = refl
refused_alone NoCell other another = refl
refused_alone Extent other another = refl
refused_alone Shapes other another = refl
refused_alone Deep other another = refl
refused_alone Full other another = refl
refused_alone Tiles other another = refl
refused_alone Opened other another = refl
refused_alone NoRun other another = refl
refused_alone Unknown other another = refl
refused_alone Known other another = refl
refused_alone Used other another = refl
refused_alone Loop other another = refl
refused_alone Running other another = refl
refused_alone NoDeck other another = refl
refused_alone Empty other another = refl
refused_alone NotFinished other another = refl
refused_alone NoMarker other another = refl
refused_alone NoWaiver other another = refl
refused_alone Ended other another = refl
refused_alone Store other another = refl
refused_alone Closed other another = refl
