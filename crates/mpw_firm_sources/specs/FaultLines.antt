-- The lines of faults, as they are printed.
use Rattle.std.specs.Prelude.{ℕ, ◌&&◌, nat_le, nat_lt, Bool, false, List, [], ◌++◌, codes, filter, Option, None, Some, if◌then◌else◌}
use Rattle.std.specs.List.{flat_map, list_any}
use Rattle.std.specs.Fmt.{decimal, signed_decimal}
use Rattle.mpw_firm_faults.specs.Details.{first_point, structure_of}
use Rattle.mpw_firm_faults.specs.Faults.{faults_of, unit_of}
use Rattle.mpw_firm_faults.specs.Lifting.{Read, point_of}
use Rattle.mpw_firm_faults.specs.declared.found.FaultFound.{FaultFound}
use Rattle.mpw_geom.specs.Names.{name_eq}
use Rattle.mpw_geom.specs.declared.plane.Layer.{Layer}
use Rattle.mpw_geom.specs.declared.plane.Point.{Point}
use Rattle.mpw_records.specs.Words.{fault_text}
use Rattle.mpw_records.specs.declared.fault.ReadFault.{ReadFault}
use Rattle.mpw_firm_skipping.specs.Elements.{elements_of}
use Rattle.mpw_firm_skipping.specs.declared.cut.Cut.{Cut}
use Rattle.mpw_firm_skipping.specs.declared.span.ElementSpan.{ElementSpan}
use Rattle.mpw_firm_sources.specs.Seen.{read_in, structure_in}
use Rattle.mpw_firm_sources.specs.Sources.{Source, kept_text, left_fault, left_text, moved_fault, padded, reached_fault, reached_text}
use Rattle.mpw_firm_sources.specs.declared.fault_line.FaultLine.{FaultLine}

-- ---- what a line shows of a fault

-- The layer of an element whose records have both numbers.
abbrev pub layer_by : Option ℕ → Option ℕ → Option Layer
layer_by None datatype = None
layer_by (Some layer) None = None
layer_by (Some layer) (Some datatype) = Some (record { layer = layer; datatype = datatype })

abbrev pub layer_in : Option ElementSpan → Option Layer
layer_in None = None
layer_in (Some e) = layer_by e.layer e.datatype

-- The first point of an element in nm, if the text's unit is known.
abbrev pub point_in : (unit : Option ℕ) → List ℕ → Option ElementSpan → Option Point
point_in None text element = None
point_in (Some unit) text None = None
point_in (Some unit) text (Some e) = first_point unit text e.points

-- The fault has its place in the file, and the element is one of that text.
abbrev pub line_of : List ℕ → ReadFault → Option ElementSpan → FaultLine
line_of text fault element = record {
  fault = fault;
  structure = structure_in text element;
  layer = layer_in element;
  point = point_in (unit_of text) text element;
}

-- ---- its text

unfoldable pub structure_text : Option (List ℕ) → List ℕ
structure_text None = []
structure_text (Some name) = codes " in " ++ name

unfoldable pub layer_text : Option Layer → List ℕ
layer_text None = []
layer_text (Some l) = codes ", layer " ++ (decimal l.layer ++ (codes "/" ++ decimal l.datatype))

unfoldable pub point_text : Option Point → List ℕ
point_text None = []
point_text (Some p) = codes ", at " ++ (signed_decimal p.x ++ (codes "," ++ signed_decimal p.y))

abbrev pub placed_text : FaultLine → List ℕ
placed_text f = (structure_text f.structure ++ layer_text f.layer) ++ point_text f.point

unfoldable pub joined_text : (file : List ℕ) → ReadFault → (placed lifted : List ℕ) → List ℕ
joined_text file fault placed lifted =
    codes "fault: "
    ++ (file ++ (codes ": " ++ (fault_text fault ++ (placed ++ (lifted ++ codes "\n")))))

-- After its element's place comes where that lies in a top.
abbrev pub line_text : (file : List ℕ) → FaultLine → (lifted : List ℕ) → List ℕ
line_text file f lifted = joined_text file f.fault (placed_text f) lifted

-- ---- the place of an element in a top

unfoldable pub top_text : (top : List ℕ) → Point → List ℕ
top_text top p =
    codes ", in "
    ++ (top ++ (codes " at " ++ (signed_decimal p.x ++ (codes "," ++ signed_decimal p.y))))

abbrev pub point_text_in : (top : List ℕ) → Option Point → List ℕ
point_text_in top None = []
point_text_in top (Some p) = top_text top p

abbrev pub is_name : Option (List ℕ) → List ℕ → Bool
is_name None top = false
is_name (Some name) top = name_eq name top

-- Nothing of an element of the top itself, nor of one whose point in the top isn't known.
abbrev pub element_lifted : Read → (top : List ℕ) → ElementSpan → List ℕ
element_lifted r top e =
    if is_name (structure_of r.text e.structure) top then []
    else point_text_in top (point_of r.unit r.text r.spans r.top e)

abbrev pub lifted_text : Read → (top : Option (List ℕ)) → Option ElementSpan → List ℕ
lifted_text r None element = []
lifted_text r (Some top) None = []
lifted_text r (Some top) (Some e) = element_lifted r top e

-- ---- the lines of a library as it is read

abbrev pub padded_for : Option (List ℕ) → List ℕ
padded_for None = []
padded_for (Some name) = padded name

abbrev pub read_by : Source → (top : Option (List ℕ)) → Read
read_by s top = read_in (kept_text s) (elements_of (kept_text s)) (padded_for top)

-- A fault that has its place in the file, of an element of that text.
abbrev pub below_line : (file : List ℕ) → Read → (top : Option (List ℕ)) → FaultFound → List ℕ
below_line file r top f =
    line_text file (line_of r.text f.fault f.element) (lifted_text r top f.element)

abbrev pub kept_line : (file : List ℕ) → Source → Read → (top : Option (List ℕ)) → FaultFound
    → List ℕ
kept_line file s r top f =
    line_text file (line_of r.text (moved_fault s f.fault) f.element) (lifted_text r top f.element)

abbrev pub kept_lines : (file : List ℕ) → Source → Read → (top : Option (List ℕ)) → List FaultFound
    → List ℕ
kept_lines file s r top faults = flat_map (kept_line file s r top) faults

-- All faults of its elements, under a top if there is one.
abbrev pub fault_lines : (file : List ℕ) → Source → (top : Option (List ℕ)) → List ℕ
fault_lines file s top = kept_lines file s (read_by s top) top (faults_of (kept_text s))

-- ---- those of the elements that are left out for their faults

abbrev pub reached_by : Source → (top : Option (List ℕ)) → Read
reached_by s top = read_in (reached_text s) (elements_of (reached_text s)) (padded_for top)

abbrev pub left_line : (file : List ℕ) → Source → Read → (top : Option (List ℕ)) → FaultFound
    → List ℕ
left_line file s r top f =
    line_text file (line_of r.text (reached_fault s f.fault) f.element)
    (lifted_text r top f.element)

abbrev pub left_lines : (file : List ℕ) → Source → Read → (top : Option (List ℕ)) → List FaultFound
    → List ℕ
left_lines file s r top faults = flat_map (left_line file s r top) faults

-- All of them, in the form in which the faults of a library as it is read are printed.
abbrev pub left_out_lines : (file : List ℕ) → Source → (top : Option (List ℕ)) → List ℕ
left_out_lines file s top = left_lines file s (reached_by s top) top s.faulty

-- ---- those of the structures that are left out

abbrev pub is_in : ℕ → Cut → Bool
is_in at cut = nat_le cut.start at && nat_lt at cut.end

abbrev pub is_cut : List Cut → FaultFound → Bool
is_cut cuts f = list_any (is_in f.fault.offset) cuts

abbrev pub cut_faults : Source → List FaultFound
cut_faults s = filter (is_cut s.structures) (faults_of (left_text s.skip s.text))

abbrev pub cut_line : (file : List ℕ) → Source → FaultFound → List ℕ
cut_line file s f =
    line_text file (line_of (left_text s.skip s.text) (left_fault s f.fault) f.element) []

abbrev pub cut_lines : (file : List ℕ) → Source → List FaultFound → List ℕ
cut_lines file s faults = flat_map (cut_line file s) faults
