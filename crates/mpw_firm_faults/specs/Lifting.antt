-- The position of an element in the coordinates of a top, by the references that lead to its structure.
use Rattle.std.specs.Prelude.{◌≡◌, ℕ, zero, suc, ◌^◌, ◌==◌, ◌&&◌, ◌||◌, nat_le, unsigned_abs, ℤ, Bool, true, List, [], ◌∷◌, filter, drop, Option, Some, None, option_map, option_and_then, Ok, Err, if◌then◌else◌}
use Rattle.mpw_elements.specs.Grammar.{element}
use Rattle.mpw_elements.specs.Reading.{Reading}
use Rattle.mpw_firm_faults.specs.Areas.{own_area}
use Rattle.mpw_firm_faults.specs.Details.{first_point}
use Rattle.mpw_firm_faults.specs.declared.lifting.Known.{Known}
use Rattle.mpw_firm_faults.specs.declared.way.Seen.{Seen}
use Rattle.mpw_firm_faults.specs.declared.lifting.Step.{Step}
use Rattle.mpw_firm_faults.specs.declared.way.Way.{Way}
use Rattle.mpw_geom.specs.Names.{name_eq}
use Rattle.mpw_geom.specs.Placing.{placed_point}
use Rattle.mpw_geom.specs.Plane.{box_at, box_between}
use Rattle.mpw_geom.specs.declared.placing.Placing.{Placing}
use Rattle.mpw_geom.specs.declared.plane.Box2.{Box2}
use Rattle.mpw_geom.specs.declared.plane.Point.{Point}
use Rattle.mpw_records.specs.Records.{RecordOutcome, outcomes_of}
use Rattle.mpw_records.specs.declared.kind.TheConstants.{AREF, ENDEL, SNAME, SREF}
use Rattle.mpw_firm_skipping.specs.Structures.{name_at}
use Rattle.mpw_firm_skipping.specs.declared.span.ElementSpan.{ElementSpan}
use Rattle.mpw_structures.specs.declared.element.Element.{Element}
use Rattle.mpw_structures.specs.declared.element.Element.TheVariants as elements
use Rattle.mpw_structures.specs.declared.element.Reference.{Reference}

-- ---- the references to a structure

-- The first SNAME of an element's records, up to its ENDEL.
unfoldable pub named_in : List RecordOutcome → Option (List ℕ)
named_in [] = None
named_in (Err fault ∷ rest) = None
named_in (Ok r ∷ rest) =
    if r.kind == SNAME then Some r.bytes else if r.kind == ENDEL then None else named_in rest

abbrev pub is_reference : ℕ → Bool
is_reference kind = (kind == SREF) || (kind == AREF)

-- An element may refer to the structure with that name: it does, or its target isn't found.
abbrev pub may_name : List ℕ → Option (List ℕ) → Bool
may_name name None = true
may_name name (Some other) = name_eq other name

abbrev pub refers : List ℕ → List ℕ → ElementSpan → Bool
refers text name e =
    is_reference e.kind && may_name name (named_in (outcomes_of (drop e.start text)))

-- ---- the placing of a reference

-- The placing of a reference without columns and rows.
abbrev pub single : Reference → Option Placing
single r =
    if (r.columns == 1) && (r.rows == 1) then Some (record { orient = r.orient; by = r.origin })
    else None

abbrev pub placing_by : Option Element → Option Placing
placing_by None = None
placing_by (Some (elements.Boundary b)) = None
placing_by (Some (elements.Path p)) = None
placing_by (Some (elements.Reference r)) = single r

abbrev pub placing_read : Reading (Option Element) → Option Placing
placing_read (Err fault) = None
placing_read (Ok read) = placing_by read.0

-- The placing of the element with which records begin, if it can be read.
abbrev pub placing_in : ℕ → List RecordOutcome → Option Placing
placing_in unit [] = None
placing_in unit (Err fault ∷ rest) = None
placing_in unit (Ok first ∷ rest) = placing_read (element unit first rest)

-- ---- one level up

abbrev pub is_near : ℤ → Bool
is_near z = nat_le (unsigned_abs z) (2 ^ 47)

abbrev pub are_near : Point → Bool
are_near p = is_near p.x && is_near p.y

abbrev pub low : Box2 → Point
low b = record { x = b.x0; y = b.y0 }

abbrev pub high : Box2 → Point
high b = record { x = b.x1; y = b.y1 }

-- A box placed, if it is near the origin, and the displacement too.
abbrev pub placed_area : Placing → Box2 → Option Box2
placed_area t b =
    if are_near t.by && are_near (low b) && are_near (high b)
    then Some (box_between (placed_point t (low b)) (placed_point t (high b)))
    else None

abbrev pub to_step : ℕ → Option Box2 → Option Step
to_step structure None = None
to_step structure (Some area) = Some (record { structure = structure; area = area })

abbrev pub above : Box2 → Option Way → Option Step
above area None = None
above area (Some w) = to_step w.structure (placed_area w.placing area)

abbrev pub to_way : ℕ → Option Placing → Option Way
to_way structure None = None
to_way structure (Some t) = Some (record { structure = structure; placing = t })

-- The only element of a list, if it has just one.
abbrev pub only : List ElementSpan → Option ElementSpan
only [] = None
only (e ∷ []) = Some e
only (e ∷ f ∷ rest) = None

abbrev pub way_by : ℕ → List ℕ → Option ElementSpan → Option Way
way_by unit text None = None
way_by unit text (Some e) =
    to_way e.structure (placing_in unit (outcomes_of (drop e.start text)))

-- The only reference that may lead to the structure whose STRNAME is at an offset, if its placing can be read.
abbrev pub way_from : ℕ → List ℕ → List ElementSpan → ℕ → Option Way
way_from unit text spans at =
    way_by unit text (only (filter (refers text (name_at text at)) spans))

abbrev pub step_from : ℕ → List ℕ → List ElementSpan → ℕ → Box2 → Option Step
step_from unit text spans at area = above area (way_from unit text spans at)

-- ---- what is known of a text

-- A text that is read, with its unit, its elements, and the name of the top as its record has it.
pub record Read : Type 0 where
  pub unit : ℕ
  pub text : List ℕ
  pub spans : List ElementSpan
  pub top : List ℕ

abbrev pub read_of : Seen → Read
read_of s = record { unit = s.unit; text = s.text.now; spans = s.spans.now; top = s.top.now }

abbrev pub IsKnown : Read → Known → Type 0
IsKnown r k = k.way ≡ way_from r.unit r.text r.spans k.at

-- ---- up to the top

-- At most `levels` levels up; none if a structure on the way isn't placed exactly once.
unfoldable pub lifted : (levels unit : ℕ) → List ℕ → List ElementSpan → (top : List ℕ) → ℕ → Box2
    → Option Box2
lifted zero unit text spans top at area =
    if name_eq (name_at text at) top then Some area else None
lifted (suc n) unit text spans top at area =
    if name_eq (name_at text at) top then Some area
    else option_and_then (λ s. lifted n unit text spans top s.structure s.area)
    (step_from unit text spans at area)

-- The box of an element's points in the top's coordinates, if its structure has at most 64 levels above it.
abbrev pub area_of : ℕ → List ℕ → List ElementSpan → (top : List ℕ) → ElementSpan → Option Box2
area_of unit text spans top e =
    option_and_then (lifted 64 unit text spans top e.structure) (own_area unit text e.points)

-- The same for its first point.
abbrev pub point_of : ℕ → List ℕ → List ElementSpan → (top : List ℕ) → ElementSpan → Option Point
point_of unit text spans top e =
    option_map low
    (option_and_then (λ p. lifted 64 unit text spans top e.structure (box_at p))
    (first_point unit text e.points))
