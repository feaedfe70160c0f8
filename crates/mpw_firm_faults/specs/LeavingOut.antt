-- A text without the elements that have a fault of their own.
use Rattle.std.specs.Prelude.{◌≡◌, ℕ, Bool, true, false, List, [], ◌∷◌, filter, map, Option, Some, None}
use Rattle.std.specs.List.{flat_map}
use Rattle.mpw_records.specs.declared.fault.ReadFault.{ReadFault}
use Rattle.mpw_firm_skipping.specs.Cuts.{cut_of, without}
use Rattle.mpw_firm_skipping.specs.Elements.{elements_of}
use Rattle.mpw_firm_skipping.specs.declared.cut.Cut.{Cut}
use Rattle.mpw_firm_skipping.specs.declared.span.ElementSpan.{ElementSpan}
use Rattle.mpw_firm_faults.specs.Faults.{by_unit, own_fault, unit_of}
use Rattle.mpw_firm_faults.specs.declared.found.FaultFound.{FaultFound}

-- Each element that has a fault when it is read by itself, in order, with that fault; none if the unit can't be read.
abbrev pub element_faults : List ℕ → List FaultFound
element_faults text = by_unit (unit_of text) text

-- The cuts of the elements of faults.
abbrev pub cuts_of_element : Option ElementSpan → List Cut
cuts_of_element None = []
cuts_of_element (Some e) = cut_of e ∷ []

abbrev pub cuts_of_faults : List FaultFound → List Cut
cuts_of_faults found = flat_map (λ (f : FaultFound). cuts_of_element f.element) found

-- The text without the elements that have a fault of their own.
abbrev pub without_faulty : List ℕ → List ℕ
without_faulty text = without (cuts_of_faults (element_faults text)) text

-- ---- the same, by the elements

abbrev pub has_fault : Option ReadFault → Bool
has_fault None = false
has_fault (Some fault) = true

-- Whether an element has a fault when it is read by itself, in a text with that unit.
abbrev pub is_faulty : Option ℕ → List ℕ → ElementSpan → Bool
is_faulty None text e = false
is_faulty (Some unit) text e = has_fault (own_fault unit text e.start)

-- The elements that have a fault of their own, in order.
abbrev pub faulty_elements : List ℕ → List ElementSpan
faulty_elements text = filter (is_faulty (unit_of text) text) (elements_of text)

-- They are exactly those that are listed, in order.
abbrev pub FaultyElementsAreListed : Type 0
FaultyElementsAreListed =
    (text : List ℕ) → map (λ (f : FaultFound). f.element) (element_faults text)
    ≡ map (λ (e : ElementSpan). Some e) (faulty_elements text)

-- They are exactly those that are left out.
abbrev pub FaultyElementsAreLeftOut : Type 0
FaultyElementsAreLeftOut =
    (text : List ℕ) → without_faulty text ≡ without (map cut_of (faulty_elements text)) text
