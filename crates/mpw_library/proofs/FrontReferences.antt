-- References refuse at the first record with which nothing continues.
use Rattle.std.proofs.Common.{◌≡◌, ℕ, Bool, true, false, eqb, List, Option, Some, None, Result, Ok, Err, refl}
use Rattle.mpw_geom.specs.declared.plane.Point.{Point}
use Rattle.mpw_geom.specs.declared.plane.Orient.{Orient}
use Rattle.mpw_geom.specs.declared.plane.Orient.TheVariants.{R0}
use Rattle.mpw_structures.specs.declared.element.Reference.{Reference}
use Rattle.mpw_records.specs.declared.fault.Code.TheVariants.{BadName, BadSize, Magnification, Angle, Columns, Pitch, Absolute}
use Rattle.mpw_records.specs.declared.fault.ReadFault.{ReadFault}
use Rattle.mpw_records.specs.declared.kind.TheConstants.{XY, ENDEL, SNAME, COLROW, STRANS, MAG, ANGLE}
use Rattle.mpw_records.specs.Records.{RawRecord, RecordOutcome}
use Rattle.mpw_real8.specs.Real.{real_value}
use Rattle.mpw_elements.specs.declared.values.Grid.{Grid}
use Rattle.mpw_elements.specs.Reading.{Reading, ◌>>=◌, is_skipped, field, expected, optional}
use Rattle.mpw_structures.specs.Coordinates.{no_point}
use Rattle.mpw_elements.specs.Values.{origin_of, name_of, mirrored_of, magnification_of, turns, turns_or_fault, turns_of, orient_of, counts_of, grid_or_fault, step_of, point_at, grid_of}
use Rattle.mpw_elements.specs.Grammar.{orientation, single, array}
use Rattle.mpw_library.proofs.Refusals.{Any, IsOfValue, done_local, done_completes, tested_local}
use Rattle.mpw_library.proofs.Fields.{Ahead, demanding, fielded, fielded_local, fielded_completes}
use Rattle.mpw_library.proofs.Options.{opting, branching_ahead, opting_ahead}
use Rattle.mpw_library.proofs.FrontShapes.{Whole, expected_then, expected_tested, demanded_tested, never, choice_own, ok_own}
use Rattle.mpw_library.proofs.Samples.{dot, dot_place, corner, corner_grid, last, sname, sname_name, colrow, colrow_counts, samples}

-- ---- faults of values

pub name_own : (r : RawRecord) → IsOfValue (name_of r)
unfolding name_of
name_own r = choice_own _ _ _ (ok_own _) (never BadName r (λ e. cc))

place_own : (unit : ℕ) (r : RawRecord) → IsOfValue (origin_of unit r)
unfolding origin_of
place_own unit r = choice_own _ _ _ (ok_own _) (never BadSize r (λ e. cc))

mirrored_own : (r : RawRecord) → IsOfValue (mirrored_of r)
unfolding mirrored_of
mirrored_own r = choice_own _ _ _ (ok_own _) (never Absolute r (λ e. cc))

magnification_own : (r : RawRecord) → IsOfValue (magnification_of r)
unfolding magnification_of
magnification_own r = choice_own _ _ _ (ok_own _) (never Magnification r (λ e. cc))

turns_own : (r : RawRecord) → IsOfValue (turns_of r)
turns_own r = go (turns (real_value r.bytes))
  where
    go : (o : Option ℕ) → IsOfValue (turns_or_fault o r)
    go (Some n) = ok_own n
    go None = never Angle r (λ e. cc)

counts_own : (r : RawRecord) → IsOfValue (counts_of r)
unfolding counts_of
counts_own r = choice_own _ _ _ (ok_own _) (never Columns r (λ e. cc))

grid_own : (unit columns rows : ℕ) (r : RawRecord) → IsOfValue (grid_of unit columns rows r)
unfolding grid_of
grid_own unit columns rows r =
    choice_own
    _ _ _ (go (point_at unit r.bytes 0)
    (step_of columns (point_at unit r.bytes 0) (point_at unit r.bytes 1))
    (step_of rows (point_at unit r.bytes 0) (point_at unit r.bytes 2))) (never BadSize r (λ e. cc))
  where
    go : (origin : Point) (c d : Option Point) → IsOfValue (grid_or_fault origin c d r)
    go origin (Some c) (Some d) = ok_own _
    go origin (Some c) None = never Pitch r (λ e. cc)
    go origin None d = never Pitch r (λ e. cc)

-- ---- orientations

abbrev orienting : {X : Type 0} → ℕ → (Orient → RawRecord → List RecordOutcome → Reading X)
    → RawRecord
    → List RecordOutcome → Reading X
orienting start K r rs = orientation start r rs >>= λ x. K x.0.0 x.0.1 x.1

module _ {X : Type 0} (start : ℕ) (K : Orient → RawRecord → List RecordOutcome → Reading X) where
  abbrev angle_at : Bool → RawRecord → List RecordOutcome → Reading X
  angle_at m = opting start ANGLE turns_of 0 (λ a. K (orient_of m a))

  abbrev magnified_at : Bool → RawRecord → List RecordOutcome → Reading X
  magnified_at m = opting start MAG magnification_of tt (λ (u : Unit {0}). angle_at m)

  -- what comes after STRANS
  abbrev turned : RawRecord → List RecordOutcome → Reading X
  turned r os = mirrored_of r >>= λ m. fielded start (magnified_at m) os

  abbrev oriented : (Orient × RawRecord) × List RecordOutcome → Reading X
  oriented x = K x.0.0 x.0.1 x.1

  turned_same : (r : RawRecord) → eqb r.kind STRANS ≡ true → (os : List RecordOutcome)
      → orienting start K r os ≡ turned r os
  unfolding orientation
  turned_same r h os = rw h (flags (mirrored_of r))
    where
      angles : (m : Bool) (t : Reading (ℕ × RawRecord))
          → ((t >>= λ angle. Ok ((orient_of m angle.0.0, angle.0.1), angle.1)) >>= oriented)
          ≡ (t >>= λ y. K (orient_of m y.0.0) y.0.1 y.1)
      angles m (Ok y) = refl
      angles m (Err f) = refl

      magnifications : (m : Bool) (t : Reading (Unit {0} × RawRecord))
          → ((t
          >>= λ magnification. optional start ANGLE turns_of 0 magnification.0.1 magnification.1
          >>= λ angle. Ok ((orient_of m angle.0.0, angle.0.1), angle.1)) >>= oriented)
          ≡ (t >>= λ x. angle_at m x.0.1 x.1)
      magnifications m (Ok x) = angles m (optional start ANGLE turns_of 0 x.0.1 x.1)
      magnifications m (Err f) = refl

      nexts : (m : Bool) (t : Reading RawRecord)
          → ((t >>= λ next. optional start MAG magnification_of tt next.0 next.1
          >>= λ magnification. optional start ANGLE turns_of 0 magnification.0.1 magnification.1
          >>= λ angle. Ok ((orient_of m angle.0.0, angle.0.1), angle.1)) >>= oriented)
          ≡ (t >>= λ n. magnified_at m n.0 n.1)
      nexts m (Ok n) = magnifications m (optional start MAG magnification_of tt n.0 n.1)
      nexts m (Err f) = refl

      flags : (t : Result Bool ReadFault)
          → ((t >>= λ m. field start os
          >>= λ next. optional start MAG magnification_of tt next.0 next.1
          >>= λ magnification. optional start ANGLE turns_of 0 magnification.0.1 magnification.1
          >>= λ angle. Ok ((orient_of m angle.0.0, angle.0.1), angle.1)) >>= oriented)
          ≡ (t >>= λ m. fielded start (magnified_at m) os)
      flags (Ok m) = nexts m (field start os)
      flags (Err f) = refl

  upright_same : (r : RawRecord) → eqb r.kind STRANS ≡ false → (os : List RecordOutcome)
      → orienting start K r os ≡ K R0 r os
  unfolding orientation
  upright_same r h os = rw h refl

  module _ (first : ℕ) (not_flags : eqb first STRANS ≡ false) (not_mag : eqb first MAG ≡ false)
      (not_angle : eqb first ANGLE ≡ false) (kept : is_skipped first ≡ false)
      (k : (o : Orient) → Ahead first (K o) Any) where
    angle_ahead : (m : Bool) → Ahead first (angle_at m) Any
    angle_ahead m =
        opting_ahead start ANGLE turns_of 0 (λ a. K (orient_of m a)) first turns_own refl not_angle
        kept (λ a. k (orient_of m a))

    magnified_ahead : (m : Bool) → Ahead first (magnified_at m) Any
    magnified_ahead m =
        opting_ahead start MAG magnification_of tt (λ (u : Unit {0}). angle_at m) first
        magnification_own refl not_mag kept (λ u. angle_ahead m)

    oriented_ahead : Ahead first (orienting start K) Any
    oriented_ahead =
        branching_ahead STRANS first (orienting start K) (K R0) turned turned_same upright_same
        (λ r. tested_local (λ m. fielded start (magnified_at m)) (mirrored_of r) (mirrored_own r)
        (λ m e. fielded_local start (magnified_at m) (magnified_ahead m) kept))
        refl not_flags (k R0)

-- ---- references

-- a name, an orientation, and what comes after them
module _ (start kind : ℕ)
    (at : List ℕ → Orient → RawRecord → List RecordOutcome → Reading Reference)
    (not_flags : eqb kind STRANS ≡ false) (not_mag : eqb kind MAG ≡ false)
    (not_angle : eqb kind ANGLE ≡ false) (kept : is_skipped kind ≡ false)
    (ahead : (name : List ℕ) (orient : Orient) → Ahead kind (at name orient) Any) where
  reference_named : (name : List ℕ) → Whole (fielded start (orienting start (at name)))
  reference_named name =
      let a =
      oriented_ahead start (at name) kind not_flags not_mag not_angle kept (ahead name) in
      record {
        local = fielded_local start (orienting start (at name)) a kept;
        begin = fielded_completes start (orienting start (at name)) a kept;
      }

  reference_whole : Whole (λ all. expected start SNAME all >>= λ sname. name_of sname.0
      >>= λ name. fielded start (orienting start (at name)) sname.1)
  reference_whole =
      expected_tested start SNAME sname samples.sname_is name_of
      _ (λ x name. fielded start (orienting start (at name))) name_own sname_name
      (λ x name e. reference_named name)

module _ (start unit : ℕ) where
  abbrev reference_end : Reference → List RecordOutcome → Reading Reference
  reference_end r all = expected start ENDEL all >>= λ x. Ok (r, x.1)

  reference_end_whole : (r : Reference) → Whole (reference_end r)
  reference_end_whole r =
      expected_then start ENDEL last samples.last_is (λ x all. Ok (r, all)) (λ x. done_local r)
      (done_completes r tt)

  abbrev single_made : List ℕ → Orient → Point → Reference
  single_made name orient origin = record {
    name = name;
    orient = orient;
    origin = origin;
    columns = 1;
    rows = 1;
    column_step = no_point;
    row_step = no_point;
  }

  abbrev single_at : List ℕ → Orient → RawRecord → List RecordOutcome → Reading Reference
  single_at name orient =
      demanding XY
      (λ x all. origin_of unit x >>= λ origin. reference_end (single_made name orient origin) all)

  single_ahead : (name : List ℕ) (orient : Orient) → Ahead XY (single_at name orient) Any
  single_ahead name orient =
      demanded_tested XY dot samples.dot_is (origin_of unit)
      _ (λ x origin. reference_end (single_made name orient origin)) (place_own unit)
      (dot_place unit) (λ x origin e. reference_end_whole (single_made name orient origin))

  pub single_whole : Whole (single start unit)
  unfolding single
  single_whole = reference_whole start XY single_at refl refl refl refl single_ahead

  -- ---- arrays

  abbrev array_made : List ℕ → Orient → ℕ × ℕ → Grid → Reference
  array_made name orient counts grid = record {
    name = name;
    orient = orient;
    origin = grid.origin;
    columns = counts.0;
    rows = counts.1;
    column_step = grid.column_step;
    row_step = grid.row_step;
  }

  abbrev grid_then : List ℕ → Orient → ℕ × ℕ → List RecordOutcome → Reading Reference
  grid_then name orient counts all =
      expected start XY all >>= λ x. grid_of unit counts.0 counts.1 x.0
      >>= λ grid. reference_end (array_made name orient counts grid) x.1

  grid_whole : (name : List ℕ) (orient : Orient) (counts : ℕ × ℕ)
      → Whole (grid_then name orient counts)
  grid_whole name orient counts =
      let g = corner_grid unit counts.0 counts.1 in
      expected_tested start XY corner samples.corner_is (grid_of unit counts.0 counts.1) g.0
      (λ x grid. reference_end (array_made name orient counts grid))
      (grid_own unit counts.0 counts.1) g.1
      (λ x grid e. reference_end_whole (array_made name orient counts grid))

  abbrev array_at : List ℕ → Orient → RawRecord → List RecordOutcome → Reading Reference
  array_at name orient =
      demanding COLROW (λ x all. counts_of x >>= λ counts. grid_then name orient counts all)

  array_ahead : (name : List ℕ) (orient : Orient) → Ahead COLROW (array_at name orient) Any
  array_ahead name orient =
      demanded_tested COLROW colrow samples.colrow_is counts_of _ (λ x counts. grid_then name orient counts)
      counts_own colrow_counts (λ x counts e. grid_whole name orient counts)

  pub array_whole : Whole (array start unit)
  unfolding array
  array_whole = reference_whole start COLROW array_at refl refl refl refl array_ahead
