-- The faults of a library's elements, as a report has them.
use Rattle.std.specs.Prelude.{ℕ, List, map, Option, None, Some, unwrap_or}
use Rattle.std.specs.String.{string_bytes}
use Rattle.mpw_firm_faults.specs.Details.{structure_of}
use Rattle.mpw_firm_faults.specs.Faults.{faults_of, unit_of}
use Rattle.mpw_firm_faults.specs.Lifting.{Read, area_of}
use Rattle.mpw_firm_faults.specs.declared.found.FaultFound.{FaultFound}
use Rattle.mpw_geom.specs.declared.plane.Box2.{Box2}
use Rattle.mpw_records.specs.Words.{code_word}
use Rattle.mpw_firm_report.specs.Content.{Told}
use Rattle.mpw_firm_skipping.specs.Elements.{elements_of}
use Rattle.mpw_firm_skipping.specs.declared.span.ElementSpan.{ElementSpan}
use Rattle.mpw_firm_sources.specs.Sources.{Source, kept_text, padded, place_in, reached_place, reached_text}
use Rattle.mpw_firm_sources.specs.declared.seen.SeenFault.{SeenFault}

abbrev pub told_seen : SeenFault → Told
told_seen f = record {
  code = string_bytes f.code;
  byte = f.byte;
  structure = f.structure;
  area = f.area;
}

abbrev pub structure_in : List ℕ → Option ElementSpan → Option (List ℕ)
structure_in text None = None
structure_in text (Some e) = structure_of text e.structure

abbrev pub area_in : Read → Option ElementSpan → Option Box2
area_in r None = None
area_in r (Some e) = area_of r.unit r.text r.spans r.top e

-- A text with its elements, and the name of the top as its record has it. A unit that isn't read counts as 1 nm.
abbrev pub read_in : List ℕ → List ElementSpan → (top : List ℕ) → Read
read_in text spans top =
    record { unit = unwrap_or (unit_of text) 1; text = text; spans = spans; top = top }

-- A fault of a text, at a byte of the file, in the coordinates of the top.
abbrev pub told_at : (byte : ℕ) → Read → FaultFound → Told
told_at byte r f = record {
  code = code_word f.fault.code;
  byte = byte;
  structure = structure_in r.text f.element;
  area = area_in r f.element;
}

-- A fault of a source's text as it is read.
abbrev pub told_by : Source → Read → FaultFound → Told
told_by s r f = told_at (place_in s f.fault.offset) r f

-- All of them, in the coordinates of a structure of that name.
abbrev pub told_faults : Source → (top : List ℕ) → List Told
told_faults s top =
    map (told_by s (read_in (kept_text s) (elements_of (kept_text s)) (padded top)))
    (faults_of (kept_text s))

-- ---- the elements that are left out for their faults

-- One of the text from which they are left out.
abbrev pub told_left : Source → Read → FaultFound → Told
told_left s r f = told_at (reached_place s f.fault.offset) r f

-- Some of them.
abbrev pub told_left_of : Source → (top : List ℕ) → List FaultFound → List Told
told_left_of s top found =
    map (told_left s (read_in (reached_text s) (elements_of (reached_text s)) (padded top))) found

-- All of them, in order.
abbrev pub told_left_out : Source → (top : List ℕ) → List Told
told_left_out s top = told_left_of s top s.faulty
