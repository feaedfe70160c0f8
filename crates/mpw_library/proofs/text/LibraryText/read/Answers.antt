-- Answers to the goals of `LibraryText::read` in `src/text.rt`.
use Rattle.std.proofs.Common.{◌≡◌, ℕ, List, Result, Ok, Err, sym, ap, subst, ◌∙◌}
use Rattle.std.specs.Prelude.{IfOk}
use Rattle.mpw_structures.specs.declared.structures.Structure.{Structure}
use Rattle.mpw_structures.specs.Library.{IsLibrary}
use Rattle.mpw_records.specs.declared.fault.ReadFault.{ReadFault}
use Rattle.mpw_elements.specs.declared.fault.ReadError.{ReadError}
use Rattle.mpw_elements.specs.declared.fault.ReadError.TheVariants as errors
use Rattle.mpw_elements.specs.Reading.{GivesValue}
use Rattle.mpw_library.specs.Grammar.{library_of}
use Rattle.mpw_library.specs.Text.{IsRead}
use Rattle.mpw_library.proofs.text.LibraryText.read.Goals as goal
use Rattle.mpw_library.proofs.text.LibraryText.read.Goals.{in-Ok, in-Err-Fault}

abbrev Outcome : Type 0
Outcome = Result (List Structure) ReadError

read_ok : (text : List ℕ) (o : Outcome) (library : List Structure)
    → GivesValue (λ (l : List Structure). l) o (library_of text) → IfOk o IsLibrary → o ≡ Ok library
    → IsRead text (Ok library)
read_ok text o library gives shape is = record {
  is = subst (λ (p : Outcome). GivesValue (λ (l : List Structure). l) p (library_of text)) is gives;
  shape = subst (λ (p : Outcome). IfOk p IsLibrary) is shape;
}

read_fault : (text : List ℕ) (o : Outcome) (fault : ReadFault)
    → GivesValue (λ (l : List Structure). l) o (library_of text) → o ≡ Err (errors.Fault fault)
    → IsRead text (Err fault)
read_fault text o fault gives is = record {
  is = subst (λ (p : Outcome). GivesValue (λ (l : List Structure). l) p (library_of text)) is gives;
  shape = tt;
}

pub invariant_of-result : goal.invariant_of-result
invariant_of-result c =
    elim c.match-read_shared.branch [
      | in-Ok w ↦ rw w.outcome-is (read_ok _ c.read_shared.result _
          c.read_shared.ensures.library c.read_shared.ensures.shape w.in-Ok.is)
      | in-Err-Fault w ↦ rw w.outcome-is
          (read_fault _ c.read_shared.result _ c.read_shared.ensures.library
          (w.in-Err-Fault.is ∙ ap (λ e. Err e) w.in-Err-Fault.field-0-is))
    ]
