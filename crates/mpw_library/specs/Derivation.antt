-- A library by cases (GDSII Stream, "Stream syntax"): which structures a list of records is, from HEADER to ENDLIB.
use Rattle.std.specs.Prelude.{◌≡◌, ◌↔◌, ℕ, ◌&&◌, ◌==◌, not, Bool, true, false, List, [], ◌∷◌, ◌++◌, map, Some, None, Ok}
use Rattle.std.specs.List.{AllByRecursion}
use Rattle.mpw_geom.specs.Names.{name_eq}
use Rattle.mpw_structures.specs.declared.element.Element.{Element}
use Rattle.mpw_structures.specs.declared.structures.Structure.{Structure}
use Rattle.mpw_records.specs.declared.kind.TheConstants.{HEADER, BGNLIB, LIBNAME, UNITS, ENDLIB, BGNSTR, STRNAME, ENDSTR}
use Rattle.mpw_records.specs.Records.{RawRecord, outcomes_of}
use Rattle.mpw_elements.specs.Values.{name_of}
use Rattle.mpw_elements.specs.Derivation.{Behind, DerivesElement}
use Rattle.mpw_library.specs.Grammar.{unit_of, ends_head, is_between, library_of}

-- {element}, with the records that are allowed between them. TEXT and NODE give no element.
pub data DerivesElements (unit : ℕ) : List RawRecord → List Element → Type 0 where
  none : DerivesElements unit [] []
  between : {r : RawRecord} {rs : List RawRecord} {es : List Element} → is_between r.kind ≡ true
      → DerivesElements unit rs es → DerivesElements unit (r ∷ rs) es
  passed : {front rs : List RawRecord} {es : List Element} → DerivesElement unit front None
      → DerivesElements unit rs es → DerivesElements unit (front ++ rs) es
  placed : {front rs : List RawRecord} {e : Element} {es : List Element}
      → DerivesElement unit front (Some e) → DerivesElements unit rs es
      → DerivesElements unit (front ++ rs) (e ∷ es)

-- BGNSTR STRNAME {element} ENDSTR.
pub data DerivesStructure (unit : ℕ) : List RawRecord → Structure → Type 0 where
  structure : {begin strname : RawRecord} (end : RawRecord) {rs : List RawRecord} {name : List ℕ}
      {es : List Element}
      → begin.kind ≡ BGNSTR
      → strname.kind ≡ STRNAME → name_of strname ≡ Ok name
      → DerivesElements unit rs es
      → end.kind ≡ ENDSTR
      → DerivesStructure unit (begin ∷ strname ∷ rs ++ end ∷ [])
      (record { name = name; elements = es })

-- {structure}.
pub data DerivesStructures (unit : ℕ) : List RawRecord → List Structure → Type 0 where
  none : DerivesStructures unit [] []
  more : {front rs : List RawRecord} {s : Structure} {ss : List Structure}
      → DerivesStructure unit front s → DerivesStructures unit rs ss
      → DerivesStructures unit (front ++ rs) (s ∷ ss)

-- What is allowed in the head in addition to LIBNAME and UNITS: any record but HEADER, BGNLIB, BGNSTR and ENDLIB.
abbrev pub is_aside : ℕ → Bool
is_aside kind = not (kind == LIBNAME) && not (kind == UNITS) && not (ends_head kind)

-- No structure has the name of an earlier one.
abbrev pub HaveNamesApart : List Structure → Type 0
HaveNamesApart [] = Unit {0}
HaveNamesApart (s ∷ ss) = AllByRecursion (λ t. name_eq s.name t.name ≡ false) ss × HaveNamesApart ss

-- HEADER BGNLIB LIBNAME UNITS {structure} ENDLIB, with other records in the head, and no name twice.
pub data DerivesLibrary : List RawRecord → List Structure → Type 0 where
  library : {header begin libname units : RawRecord} (end : RawRecord)
      {to_name to_units rs : List RawRecord} {unit : ℕ} {ss : List Structure}
      → header.kind ≡ HEADER
      → begin.kind ≡ BGNLIB
      → Behind is_aside LIBNAME to_name libname
      → Behind is_aside UNITS to_units units → unit_of units ≡ Ok unit
      → DerivesStructures unit rs ss → HaveNamesApart ss
      → end.kind ≡ ENDLIB
      → DerivesLibrary (header ∷ begin ∷ to_name ++ to_units ++ rs ++ end ∷ []) ss

-- The records of the text up to ENDLIB have no fault, and they derive the structures.
pub record IsTextOf (text : List ℕ) (ss : List Structure) : Type 0 where
  pub records : List RawRecord
  pub whole : outcomes_of text ≡ map (λ r. Ok r) records
  pub derived : DerivesLibrary records ss

-- Reading a text gives structures exactly if it is a text of them.
abbrev pub LibrariesAreDerived : Type 0
LibrariesAreDerived =
    (text : List ℕ) (ss : List Structure) → library_of text ≡ Ok ss ↔ IsTextOf text ss

-- The same records derive the same structures.
abbrev pub OneDerivation : Type 0
OneDerivation = (rs : List RawRecord) (ss others : List Structure) → DerivesLibrary rs ss
    → DerivesLibrary rs others → ss ≡ others
