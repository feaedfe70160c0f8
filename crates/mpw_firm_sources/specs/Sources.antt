-- A library's text as it is read, if layers, structures or elements with faults are set aside.
use Rattle.std.specs.Prelude.{◌≡◌, ◌==◌, ◌%◌, ℕ, Bool, true, false, List, [], ◌∷◌, ◌++◌, length, Option, None, Some, if◌then◌else◌}
use Rattle.mpw_check.specs.declared.fault.CheckFault.{CheckFault}
use Rattle.mpw_check.specs.declared.fault.CheckFault.TheVariants as faults
use Rattle.mpw_firm_faults.specs.LeavingOut.{cuts_of_faults, element_faults}
use Rattle.mpw_firm_faults.specs.declared.found.FaultFound.{FaultFound}
use Rattle.mpw_geom.specs.declared.plane.Layer.{Layer}
use Rattle.mpw_records.specs.declared.fault.ReadFault.{ReadFault}
use Rattle.mpw_firm_skipping.specs.Cuts.{cuts_of_layers, original, without, without_layers}
use Rattle.mpw_firm_skipping.specs.Structures.{AreUnreached}
use Rattle.mpw_firm_skipping.specs.declared.cut.Cut.{Cut}

-- ---- without the elements on some layers

-- A text, and the layers that are set aside.
pub record Layered : Type 0 where
  pub skip : List Layer
  pub text : List ℕ

-- What is left, and the cuts if layers are set aside.
abbrev pub IsLayered : List Layer → (text : List ℕ) → List Cut → (left : List ℕ) → Type 0
IsLayered [] text cuts left = left ≡ text
IsLayered (layer ∷ layers) text cuts left =
    (cuts ≡ cuts_of_layers (layer ∷ layers) text)
    × (left ≡ without_layers (layer ∷ layers) text)

-- The text without its elements on these layers.
abbrev pub left_text : List Layer → List ℕ → List ℕ
left_text [] text = text
left_text (layer ∷ layers) text = without_layers (layer ∷ layers) text

-- Where a byte of it is in the text.
abbrev pub left_place : List Layer → List ℕ → ℕ → ℕ
left_place [] text at = at
left_place (layer ∷ layers) text at = original (cuts_of_layers (layer ∷ layers) text) at

-- ---- and without some structures

-- A text, the layers that are set aside, and what is cut out of what is left.
pub record Reached : Type 0 where
  pub skip : List Layer
  pub structures : List Cut
  pub text : List ℕ

abbrev pub IsCut : List Cut → (left kept : List ℕ) → Type 0
IsCut [] left kept = kept ≡ left
IsCut (cut ∷ cuts) left kept = kept ≡ without (cut ∷ cuts) left

abbrev pub cut_text : List Cut → List ℕ → List ℕ
cut_text [] left = left
cut_text (cut ∷ cuts) left = without (cut ∷ cuts) left

abbrev pub cut_place : List Cut → ℕ → ℕ
cut_place [] at = at
cut_place (cut ∷ cuts) at = original (cut ∷ cuts) at

-- The text without these structures, and where a byte of it is in the text.
abbrev pub reached_of : List Layer → List Cut → List ℕ → List ℕ
reached_of skip structures text = cut_text structures (left_text skip text)

abbrev pub reached_place_of : List Layer → List Cut → List ℕ → ℕ → ℕ
reached_place_of skip structures text at = left_place skip text (cut_place structures at)

-- ---- and without the elements that have a fault of their own

-- The same with the elements that are left out for their faults, which are in the text without these structures.
pub record Source : Type 0 where
  pub skip : List Layer
  pub structures : List Cut
  pub faulty : List FaultFound
  pub text : List ℕ

abbrev pub reached_text : Source → List ℕ
reached_text s = reached_of s.skip s.structures s.text

abbrev pub reached_place : Source → ℕ → ℕ
reached_place s at = reached_place_of s.skip s.structures s.text at

-- What is left of a text that is reached, and the cuts.
pub record IsKept (r : Reached) (faulty : List FaultFound) (cuts : List Cut) (kept : List ℕ) :
    Type 0 where
  pub cuts_are : cuts ≡ cuts_of_faults faulty
  pub is_cut : IsCut cuts (reached_of r.skip r.structures r.text) kept

-- The text as it is read.
abbrev pub kept_text : Source → List ℕ
kept_text s = cut_text (cuts_of_faults s.faulty) (reached_text s)

-- Where a byte of it is in the text.
abbrev pub place_in : Source → ℕ → ℕ
place_in s at = reached_place s (cut_place (cuts_of_faults s.faulty) at)

-- A fault of it, with its place in the text.
abbrev pub moved_fault : Source → ReadFault → ReadFault
moved_fault s fault = record { code = fault.code; offset = place_in s fault.offset }

-- The same of a fault of the text before the elements with faults are left out.
abbrev pub reached_fault : Source → ReadFault → ReadFault
reached_fault s fault = record { code = fault.code; offset = reached_place s fault.offset }

-- The same of a fault of the text without its elements on the layers alone.
abbrev pub left_fault : Source → ReadFault → ReadFault
left_fault s fault =
    record { code = fault.code; offset = left_place s.skip s.text fault.offset }

abbrev pub moved : Source → CheckFault → CheckFault
moved s faults.Memory = faults.Memory
moved s (faults.Library fault) = faults.Library (moved_fault s fault)
moved s (faults.Outside names) = faults.Outside names
moved s (faults.Structure fault) = faults.Structure fault

-- ---- what is asked for

-- A name with the NUL that makes its number of bytes even.
abbrev pub padded : List ℕ → List ℕ
padded name = name ++ (if length name % 2 == 1 then 0 ∷ [] else [])

-- Nothing is cut out, or the structures that one doesn't reach; its name is in the records with a NUL if its bytes are odd.
abbrev pub AreCut : Option (List ℕ) → List ℕ → List Cut → Type 0
AreCut None left cuts = cuts ≡ []
AreCut (Some top) left cuts = AreUnreached left (padded top) cuts

-- The text without the elements on these layers, and the structures that one doesn't reach.
pub record IsReachedOf (skip : List Layer) (above : Option (List ℕ)) (text : List ℕ)
    (reached : Reached) : Type 0 where
  pub layers : reached.skip ≡ skip
  pub text_is : reached.text ≡ text
  pub structures : AreCut above (left_text skip text) reached.structures

-- The elements that are left out of a text for their faults, if that is asked for: each that has one when it is read by itself.
abbrev pub faulty_in : Bool → List ℕ → List FaultFound
faulty_in false text = []
faulty_in true text = element_faults text

-- The source of a text without the elements on these layers, the structures that one doesn't reach, and, if it is to be faultless, the
-- elements that have a fault of their own.
pub record IsSourceOf (skip : List Layer) (above : Option (List ℕ)) (faultless : Bool)
    (text : List ℕ) (source : Source) : Type 0 where
  pub layers : source.skip ≡ skip
  pub text_is : source.text ≡ text
  pub structures : AreCut above (left_text skip text) source.structures
  pub faulty : source.faulty ≡ faulty_in faultless (reached_text source)
