-- A library's top, placed where it was drawn, under a deck; and why that can fail.
use Rattle.std.specs.Prelude.{◌≡◌, ℕ, ◌^◌, List, [], ◌∷◌, None, Ok, Err}
use Rattle.mpw_deck.specs.Decks.{Deck}
use Rattle.mpw_hier.specs.declared.fault.HierFault.{HierFault}
use Rattle.mpw_hier.specs.declared.fault.HierFault.TheVariants as limits
use Rattle.mpw_hier.specs.declared.submission.Submission.{Submission}
use Rattle.mpw_hier.specs.Limits.{numbered, KeepsLimits, IsRefused}
use Rattle.mpw_hier.specs.Outside.{AreExternals}
use Rattle.mpw_hier.specs.Structures.{IsCyclic}
use Rattle.mpw_structures.specs.declared.structures.Structure.{Structure}
use Rattle.mpw_library.specs.Grammar.{library_of}
use Rattle.mpw_structures.specs.Places.{place_of}
use Rattle.mpw_tiles.specs.Snapshots.{Snapshot}
use Rattle.mpw_walk.specs.Roots.{root_at_origin}
use Rattle.mpw_check.specs.declared.fault.CheckFault.{CheckFault}
use Rattle.mpw_check.specs.declared.fault.CheckFault.TheVariants as faults

-- The top of a library as a submission of a cell of the top's name, with nothing outside it.
abbrev pub offered : List ℕ → List Structure → Submission
offered top library =
    record { cell = top; version = 0; submitter = top; library = library; top = top; bound = [] }

-- The shelf that has only this submission, and what is checked: the submission where it was drawn.
abbrev pub drawn_shelf : List ℕ → List Structure → List Submission
drawn_shelf top library = numbered [] (offered top library) ∷ []

abbrev pub drawn : Deck → List ℕ → List Structure → Snapshot
drawn deck top library =
    record { deck = deck; roots = root_at_origin 0 ∷ []; shelf = drawn_shelf top library }

-- Such a library under a deck, as it is checked.
pub record IsDrawn (deck : Deck) (top : List ℕ) (library : List Structure) (snapshot : Snapshot) :
    Type 0 where
  pub whole : AreExternals library top []
  pub limited : KeepsLimits (2 ^ 40) [] (offered top library)
  pub snapshot_is : snapshot ≡ drawn deck top library

-- The text is that of a valid library, which is drawn.
pub record IsDrawnFrom (deck : Deck) (top text : List ℕ) (snapshot : Snapshot) : Type 0 where
  pub library : List Structure
  pub read : library_of text ≡ Ok library
  pub drawn : IsDrawn deck top library snapshot

-- Why the top's structures can't be checked: there is no top, one contains itself, or they exceed a limit.
abbrev pub IsOfStructures : List ℕ → List Structure → HierFault → Type 0
IsOfStructures top library limits.NoTop = place_of library top ≡ None
IsOfStructures top library limits.Cycle = IsCyclic library top
IsOfStructures top library limits.Extent =
    AreExternals library top [] × IsRefused (2 ^ 40) [] (offered top library) limits.Extent
IsOfStructures top library limits.Shapes =
    AreExternals library top [] × IsRefused (2 ^ 40) [] (offered top library) limits.Shapes
IsOfStructures top library limits.Deep =
    AreExternals library top [] × IsRefused (2 ^ 40) [] (offered top library) limits.Deep
IsOfStructures top library limits.Memory = ⊥
IsOfStructures top library limits.NoCell = ⊥
IsOfStructures top library limits.Full = ⊥

-- Why a library's top can't be checked: its structures, or names outside the library. Out of memory may come at any time.
abbrev pub IsOfTop : List ℕ → List Structure → CheckFault → Type 0
IsOfTop top library faults.Memory = Unit {0}
IsOfTop top library (faults.Library fault) = ⊥
IsOfTop top library (faults.Outside names) = AreExternals library top names × (names ≡ [] → ⊥)
IsOfTop top library (faults.Structure fault) = IsOfStructures top library fault

-- The text is that of a valid library whose top can't be checked.
pub record IsOfLibrary (top text : List ℕ) (fault : CheckFault) : Type 0 where
  pub library : List Structure
  pub read : library_of text ≡ Ok library
  pub refused : IsOfTop top library fault

-- Why a text can't be checked: its first fault, or its library's top.
abbrev pub IsOfText : List ℕ → List ℕ → CheckFault → Type 0
IsOfText top text faults.Memory = Unit {0}
IsOfText top text (faults.Library fault) = library_of text ≡ Err fault
IsOfText top text (faults.Outside names) = IsOfLibrary top text (faults.Outside names)
IsOfText top text (faults.Structure fault) = IsOfLibrary top text (faults.Structure fault)

-- The fault that reports a structure's fault.
abbrev pub told : HierFault → CheckFault
told limits.Memory = faults.Memory
told limits.NoTop = faults.Structure limits.NoTop
told limits.Cycle = faults.Structure limits.Cycle
told limits.NoCell = faults.Structure limits.NoCell
told limits.Extent = faults.Structure limits.Extent
told limits.Shapes = faults.Structure limits.Shapes
told limits.Deep = faults.Structure limits.Deep
told limits.Full = faults.Structure limits.Full
