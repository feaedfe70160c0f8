-- The structures of a text and the references in them; and which names one name reaches.
use Rattle.std.specs.Prelude.{◌≡◌, ℕ, ◌==◌, ◌&&◌, ◌||◌, not, Bool, true, false, List, [], ◌∷◌, ◌++◌, map, filter, Option, Some, None, Ok, Err, if◌then◌else◌}
use Rattle.std.specs.List.{list_any}
use Rattle.mpw_geom.specs.Names.{name_eq}
use Rattle.mpw_records.specs.Records.{RawRecord, RecordOutcome, front}
use Rattle.mpw_records.specs.declared.kind.TheConstants.{BGNSTR, ENDLIB, ENDSTR, SNAME}
use Rattle.mpw_firm_skipping.specs.Elements.{behind, end_of, is_inner, nothing_open}
use Rattle.mpw_firm_skipping.specs.Found.{found_in}
use Rattle.mpw_firm_skipping.specs.declared.cut.Cut.{Cut}
use Rattle.mpw_firm_skipping.specs.declared.standing.Standing.{Standing}
use Rattle.mpw_firm_skipping.specs.declared.standing.StructureSpan.{StructureSpan}

-- ---- a structure that is open

-- The offset of its BGNSTR.
abbrev pub begin_behind : RawRecord → Option ℕ → Option ℕ
begin_behind r so_far =
    if r.kind == BGNSTR then Some r.offset
    else if (r.kind == ENDSTR) || (r.kind == ENDLIB) then None
    else so_far

-- What is open after a record. In a text or a node no record begins or ends a structure.
abbrev pub standing_behind : RawRecord → Standing → Standing
standing_behind r s = record {
  begin = if is_inner r s.opened.element then s.begin else begin_behind r s.begin;
  opened = behind r s.opened;
}

abbrev pub ended : RawRecord → Option ℕ → Option ℕ → Option StructureSpan
ended r None name = None
ended r (Some begin) None = None
ended r (Some begin) (Some name) = Some (record { start = begin; end = end_of r; name = name })

-- The structure that a record ends, from its BGNSTR on, with the offset of its STRNAME.
abbrev pub ended_by : RawRecord → Standing → Option StructureSpan
ended_by r s =
    if is_inner r s.opened.element then None
    else if r.kind == ENDSTR then ended r s.begin s.opened.structure
    else None

-- ---- all of them

abbrev pub listed : {A : Type 0} → Option A → List A
listed None = []
listed (Some a) = a ∷ []

unfoldable pub structures_in : Standing → List RecordOutcome → List StructureSpan
structures_in s [] = []
structures_in s (Err fault ∷ rest) = structures_in s rest
structures_in s (Ok r ∷ rest) = listed (ended_by r s) ++ structures_in (standing_behind r s) rest

abbrev pub nothing_stands : Standing
nothing_stands = record { begin = None; opened = nothing_open }

abbrev pub structures_of : List ℕ → List StructureSpan
structures_of text = structures_in nothing_stands (found_in text)

-- ---- names

abbrev pub data_of : RecordOutcome → List ℕ
data_of (Ok r) = r.bytes
data_of (Err fault) = []

-- The data of the record at an offset: the name in it.
abbrev pub name_at : List ℕ → ℕ → List ℕ
name_at text at = data_of (front text at)

-- ---- references

-- A structure's name, and the name of a structure to which it refers.
abbrev pub Link : Type 0
Link = List ℕ × List ℕ

-- A reference by its name, in the structure whose STRNAME is at that offset.
abbrev pub linked_by : List ℕ → RawRecord → Option ℕ → List Link
linked_by text r None = []
linked_by text r (Some name) = if r.kind == SNAME then (name_at text name, r.bytes) ∷ [] else []

abbrev pub link_by : List ℕ → RawRecord → Standing → List Link
link_by text r s =
    if is_inner r s.opened.element then [] else linked_by text r s.opened.structure

unfoldable pub links_in : List ℕ → Standing → List RecordOutcome → List Link
links_in text s [] = []
links_in text s (Err fault ∷ rest) = links_in text s rest
links_in text s (Ok r ∷ rest) = link_by text r s ++ links_in text (standing_behind r s) rest

abbrev pub links_of : List ℕ → List Link
links_of text = links_in text nothing_stands (found_in text)

abbrev pub is_link : (from to : List ℕ) → Link → Bool
is_link from to l = name_eq l.0 from && name_eq l.1 to

abbrev pub is_linked : List Link → (from to : List ℕ) → Bool
is_linked links from to = list_any (is_link from to) links

-- The two names are equal, or references lead from the first to the second.
pub data Leads (links : List Link) (from : List ℕ) : List ℕ → Type 0 where
  here : Leads links from from
  on : {middle to : List ℕ} → Leads links from middle → is_linked links middle to ≡ true
      → Leads links from to

-- ---- those that are left out

abbrev pub has_name : List (List ℕ) → List ℕ → Bool
has_name names name = list_any (name_eq name) names

-- The names are exactly those that the first one reaches.
pub record AreReached (links : List Link) (top : List ℕ) (names : List (List ℕ)) : Type 0 where
  pub each_is_led_to : (name : List ℕ) → has_name names name ≡ true → Leads links top name
  pub each_led_to_is : (name : List ℕ) → Leads links top name → has_name names name ≡ true

abbrev pub cut_of : StructureSpan → Cut
cut_of s = record { start = s.start; end = s.end }

-- The cuts leave out the structures of other names.
abbrev pub cuts_but : List (List ℕ) → List ℕ → List Cut
cuts_but names text =
    map cut_of (filter (λ s. not (has_name names (name_at text s.name))) (structures_of text))

-- A text has a structure of that name.
abbrev pub is_structure : List ℕ → List ℕ → Bool
is_structure text name = list_any (λ s. name_eq (name_at text s.name) name) (structures_of text)

-- The cuts leave out exactly the structures that the one with that name doesn't reach; there are none if no structure has that name.
abbrev pub AreUnreached : (text top : List ℕ) → List Cut → Type 0
AreUnreached text top cuts =
    (is_structure text top ≡ false → cuts ≡ [])
    × (is_structure text top ≡ true → (names : List (List ℕ)) × AreReached (links_of text) top names
    × (cuts ≡ cuts_but names text))
