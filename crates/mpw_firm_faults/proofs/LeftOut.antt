-- The elements with a fault of their own are those that are listed and left out.
use Rattle.std.proofs.Common.{◌≡◌, ◌++◌, ◌∷◌, [], ℕ, List, Option, None, Some, ap, filter, map, refl}
use Rattle.std.specs.Prelude.{if◌then◌else◌}
use Rattle.std.specs.List.{flat_map}
use Rattle.mpw_firm_faults.specs.Faults.{by_unit, own_fault, told, unit_of}
use Rattle.mpw_firm_faults.specs.LeavingOut.{FaultyElementsAreLeftOut, FaultyElementsAreListed, cuts_of_faults, element_faults, faulty_elements, has_fault, is_faulty}
use Rattle.mpw_firm_faults.specs.declared.found.FaultFound.{FaultFound}
use Rattle.mpw_records.specs.declared.fault.ReadFault.{ReadFault}
use Rattle.mpw_firm_skipping.specs.Cuts.{cut_of, without}
use Rattle.mpw_firm_skipping.specs.Elements.{elements_of}
use Rattle.mpw_firm_skipping.specs.declared.cut.Cut.{Cut}
use Rattle.mpw_firm_skipping.specs.declared.span.ElementSpan.{ElementSpan}

listed_step : (e : ElementSpan) (own : Option ReadFault) (found : List FaultFound)
    (es : List ElementSpan)
    → map (λ (f : FaultFound). f.element) found ≡ map (λ (e : ElementSpan). Some e) es
    → map (λ (f : FaultFound). f.element) (told e own ++ found)
    ≡ map (λ (e : ElementSpan). Some e) (if has_fault own then e ∷ es else es)
listed_step e None found es same = same
listed_step e (Some fault) found es same =
    ap (λ (xs : List (Option ElementSpan)). Some e ∷ xs) same

listed_in : (unit : ℕ) (text : List ℕ) (es : List ElementSpan)
    → map (λ (f : FaultFound). f.element)
    (flat_map (λ (e : ElementSpan). told e (own_fault unit text e.start)) es)
    ≡ map (λ (e : ElementSpan). Some e) (filter (is_faulty (Some unit) text) es)
listed_in unit text [] = refl
listed_in unit text (e ∷ es) =
    listed_step e (own_fault unit text e.start) _ _ (listed_in unit text es)

none_in : (text : List ℕ) (es : List ElementSpan) → filter (is_faulty None text) es ≡ []
none_in text [] = refl
none_in text (e ∷ es) = none_in text es

listed_by : (unit : Option ℕ) (text : List ℕ) → map (λ (f : FaultFound). f.element) (by_unit unit text)
    ≡ map (λ (e : ElementSpan). Some e) (filter (is_faulty unit text) (elements_of text))
listed_by None text = rw (none_in text (elements_of text)) refl
listed_by (Some unit) text = listed_in unit text (elements_of text)

pub are_listed : FaultyElementsAreListed
are_listed text = listed_by (unit_of text) text

cut_step : (e : ElementSpan) (own : Option ReadFault) (found : List FaultFound)
    (es : List ElementSpan) → cuts_of_faults found ≡ map cut_of es
    → cuts_of_faults (told e own ++ found) ≡ map cut_of (if has_fault own then e ∷ es else es)
cut_step e None found es same = same
cut_step e (Some fault) found es same = ap (λ (cuts : List Cut). cut_of e ∷ cuts) same

cut_in : (unit : ℕ) (text : List ℕ) (es : List ElementSpan)
    → cuts_of_faults
    (flat_map (λ (e : ElementSpan). told e (own_fault unit text e.start)) es)
    ≡ map cut_of (filter (is_faulty (Some unit) text) es)
cut_in unit text [] = refl
cut_in unit text (e ∷ es) =
    cut_step e (own_fault unit text e.start) _ _ (cut_in unit text es)

cut_by : (unit : Option ℕ) (text : List ℕ) → cuts_of_faults (by_unit unit text)
    ≡ map cut_of (filter (is_faulty unit text) (elements_of text))
cut_by None text = rw (none_in text (elements_of text)) refl
cut_by (Some unit) text = cut_in unit text (elements_of text)

pub are_left_out : FaultyElementsAreLeftOut
are_left_out text = ap (λ (cuts : List Cut). without cuts text) (cut_by (unit_of text) text)
