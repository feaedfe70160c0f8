-- The faults of a library's text: the one that reading it reports, and those of its elements, each read by itself.
use Rattle.std.specs.Prelude.{ℕ, ◌+◌, ◌-◌, ◌^◌, ◌==◌, min, List, [], ◌∷◌, drop, Option, Some, None, option_map, Result, Ok, Err, if◌then◌else◌}
use Rattle.std.specs.List.{flat_map}
use Rattle.mpw_elements.specs.Grammar.{element}
use Rattle.mpw_library.specs.Grammar.{library_of}
use Rattle.mpw_records.specs.declared.fault.ReadFault.{ReadFault}
use Rattle.mpw_records.specs.declared.kind.TheConstants.{UNITS}
use Rattle.mpw_real8.specs.Real.{nanometres, real_value}
use Rattle.mpw_records.specs.Records.{RecordOutcome, outcomes_of}
use Rattle.mpw_firm_skipping.specs.Elements.{elements_of}
use Rattle.mpw_firm_skipping.specs.declared.span.ElementSpan.{ElementSpan}
use Rattle.mpw_firm_faults.specs.declared.found.FaultFound.{FaultFound}

-- ---- the database unit

-- The number of nm in the first UNITS, in metres, if it is whole.
unfoldable pub unit_in : List RecordOutcome → Option ℕ
unit_in [] = None
unit_in (Err fault ∷ rest) = None
unit_in (Ok r ∷ rest) =
    if r.kind == UNITS then nanometres (real_value (drop 8 r.bytes)) else unit_in rest

abbrev pub unit_of : List ℕ → Option ℕ
unit_of text = unit_in (outcomes_of text)

-- ---- an element by itself

abbrev pub fault_of : {A : Type 0} → Result A ReadFault → Option ReadFault
fault_of (Ok read) = None
fault_of (Err fault) = Some fault

-- Its fault as it is read from its first record on.
abbrev pub fault_in : ℕ → List RecordOutcome → Option ReadFault
fault_in unit [] = None
fault_in unit (Err fault ∷ rest) = Some fault
fault_in unit (Ok first ∷ rest) = fault_of (element unit first rest)

-- A fault in the part of a text from an offset on, with its offset in the whole text.
abbrev pub moved : ℕ → ReadFault → ReadFault
moved at fault = record { code = fault.code; offset = min (fault.offset + at) (2 ^ 64 - 1) }

abbrev pub own_fault : ℕ → List ℕ → ℕ → Option ReadFault
own_fault unit text at = option_map (moved at) (fault_in unit (outcomes_of (drop at text)))

-- ---- all of them

abbrev pub told : ElementSpan → Option ReadFault → List FaultFound
told e None = []
told e (Some fault) = record { fault = fault; element = Some e } ∷ []

-- Each element that has a fault when it is read by itself, in order.
abbrev pub of_elements : ℕ → List ℕ → List FaultFound
of_elements unit text = flat_map (λ e. told e (own_fault unit text e.start)) (elements_of text)

-- None if the unit can't be read.
abbrev pub by_unit : Option ℕ → List ℕ → List FaultFound
by_unit None text = []
by_unit (Some unit) text = of_elements unit text

-- The fault that reading the library reports comes first: it is that of the first element with a fault, or of no element.
abbrev pub begun_by : ReadFault → List FaultFound → List FaultFound
begun_by first [] = record { fault = first; element = None } ∷ []
begun_by first (f ∷ fs) =
    if first.offset == f.fault.offset then record { fault = first; element = f.element } ∷ fs
    else record { fault = first; element = None } ∷ f ∷ fs

-- A valid library has none.
abbrev pub behind : {A : Type 0} → Result A ReadFault → List FaultFound → List FaultFound
behind (Ok library) found = []
behind (Err first) found = begun_by first found

abbrev pub faults_of : List ℕ → List FaultFound
faults_of text = behind (library_of text) (by_unit (unit_of text) text)
