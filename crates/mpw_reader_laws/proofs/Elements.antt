-- How far the readers of elements get.
use Rattle.std.proofs.Common.{◌≡◌, ℕ, ◌||◌, Bool, true, false, cond, eqb, ℤ, pos, List, [], ◌∷◌, Some, None, Result, Ok, Err, refl, ap, inr}
use Rattle.std.proofs.lemmas.Bool.{eqb-true}
use Rattle.mpw_geom.specs.declared.plane.Point.{Point}
use Rattle.mpw_geom.specs.declared.plane.Orient.{Orient}
use Rattle.mpw_geom.specs.declared.plane.Orient.TheVariants.{R0}
use Rattle.mpw_structures.specs.declared.element.Boundary.{Boundary}
use Rattle.mpw_structures.specs.declared.element.Path.{Path}
use Rattle.mpw_structures.specs.declared.element.Reference.{Reference}
use Rattle.mpw_structures.specs.declared.element.Element.TheVariants as elements
use Rattle.mpw_records.specs.declared.fault.Code.TheVariants.{Unexpected}
use Rattle.mpw_records.specs.declared.fault.ReadFault.{ReadFault}
use Rattle.mpw_records.specs.declared.kind.TheConstants.{ENDLIB, BOUNDARY, PATH, SREF, AREF, TEXT, LAYER, DATATYPE, WIDTH, XY, ENDEL, SNAME, COLROW, NODE, STRANS, MAG, ANGLE, PATHTYPE, BOX, BOXTYPE, BGNEXTN, ENDEXTN}
use Rattle.mpw_records.specs.Records.{RawRecord, RecordOutcome}
use Rattle.mpw_elements.specs.declared.values.Grid.{Grid}
use Rattle.mpw_elements.specs.Reading.{Reading, ◌>>=◌, fault_at, field, expected, optional}
use Rattle.mpw_structures.specs.Coordinates.{no_point}
use Rattle.mpw_elements.specs.Values.{short_of, corners_of, centre_of, origin_of, path_type_of, width_of, extension_of, lengthening, name_of, mirrored_of, magnification_of, turns_of, orient_of, counts_of, grid_of}
use Rattle.mpw_elements.specs.Grammar.{boundary, path, orientation, single, array, ignored, element}
use Rattle.mpw_reader_laws.specs.FirstFault.{IsFaultOf}
use Rattle.mpw_reader_laws.proofs.Progress.{Progress, Progresses, Held, as_progress, cons_progress, done_progress, err_progress, choice_progress, tested_progress, then_progress, demanding, held_demanded, fielded, fielded_progress, expected_progress, opting, held_optional}

-- ENDEL, and the value that was read
module _ (start : ℕ) {X : Type 0} (x : X) where
  abbrev ending : List RecordOutcome → Reading X
  ending all = expected start ENDEL all >>= λ last. Ok (x, last.1)

  ending_progress : (h : RawRecord) → Progresses ending h
  ending_progress h =
      expected_progress start ENDEL (λ last all. Ok (x, all)) refl (λ r k. done_progress x r) h

module _ (start unit : ℕ) where
  module _ (kind : ℕ) (inner : eqb ENDLIB kind ≡ false) where
    abbrev ring : RawRecord → RawRecord → List Point → Boundary
    ring l d corners = record {
      layer = record { layer = short_of l; datatype = short_of d };
      points = corners;
    }

    pub boundary_progress : (h : RawRecord) → Progresses (boundary start unit kind) h
    unfolding boundary
    boundary_progress h =
        expected_progress start LAYER
        (λ l all. expected start kind all >>= λ d. expected start XY d.1
        >>= λ xy. corners_of unit xy.0 >>= λ corners. ending start (ring l d.0 corners) xy.1) refl
        (λ l kl. expected_progress start kind
        (λ d all. expected start XY all >>= λ xy. corners_of unit xy.0
        >>= λ corners. ending start (ring l d corners) xy.1) inner
        (λ d kd. expected_progress start XY
        (λ xy all. corners_of unit xy >>= λ corners. ending start (ring l d corners) all) refl
        (λ xy kxy. tested_progress (corners_of unit xy) (λ corners. ending start (ring l d corners)) xy
        (λ f e. IsFaultOf.corners unit kxy e) (λ corners e. ending_progress start (ring l d corners) xy)) d) l) h

  abbrev line_made : RawRecord → RawRecord → ℕ → ℤ → ℤ → ℤ → List Point → Path
  line_made l d path_type width begin end centre = record {
    layer = record { layer = short_of l; datatype = short_of d };
    width = width;
    begin = lengthening path_type width begin;
    end = lengthening path_type width end;
    points = centre;
  }

  abbrev line_at : RawRecord → RawRecord → ℕ → ℤ → ℤ → ℤ → RawRecord → List RecordOutcome
      → Reading Path
  line_at l d t w g h =
      demanding XY
      (λ x all. centre_of unit x >>= λ centre. ending start (line_made l d t w g h centre) all)

  abbrev ends_at : RawRecord → RawRecord → ℕ → ℤ → ℤ → RawRecord → List RecordOutcome → Reading Path
  ends_at l d t w g = opting start ENDEXTN (extension_of unit) (pos 0) (λ h. line_at l d t w g h)

  abbrev begins_at : RawRecord → RawRecord → ℕ → ℤ → RawRecord → List RecordOutcome → Reading Path
  begins_at l d t w = opting start BGNEXTN (extension_of unit) (pos 0) (λ g. ends_at l d t w g)

  abbrev widened_at : RawRecord → RawRecord → ℕ → RawRecord → List RecordOutcome → Reading Path
  widened_at l d t = opting start WIDTH (width_of unit) (pos 0) (λ w. begins_at l d t w)

  abbrev typed_at : RawRecord → RawRecord → RawRecord → List RecordOutcome → Reading Path
  typed_at l d = opting start PATHTYPE path_type_of 0 (λ t. widened_at l d t)

  line_held : (l d : RawRecord) (t : ℕ) (w g h : ℤ) → Held (line_at l d t w g h)
  line_held l d t w g h =
      held_demanded XY
      (λ x all. centre_of unit x >>= λ centre. ending start (line_made l d t w g h centre) all) refl
      (λ x kx. tested_progress (centre_of unit x) (λ centre. ending start (line_made l d t w g h centre)) x
      (λ f e. IsFaultOf.centre unit kx e) (λ centre e. ending_progress start (line_made l d t w g h centre) x))

  typed_held : (l d : RawRecord) → Held (typed_at l d)
  typed_held l d =
      held_optional start PATHTYPE path_type_of 0 (λ t. widened_at l d t) refl
      (λ r k f e. IsFaultOf.path_type k e)
      (λ t. held_optional start WIDTH (width_of unit) (pos 0) (λ w. begins_at l d t w) refl
      (λ r k f e. IsFaultOf.width unit k e)
      (λ w. held_optional start BGNEXTN (extension_of unit) (pos 0) (λ g. ends_at l d t w g) refl
      (λ r k f e. absurd cc)
      (λ g. held_optional start ENDEXTN (extension_of unit) (pos 0) (λ h. line_at l d t w g h) refl
      (λ r k f e. absurd cc) (λ h. line_held l d t w g h))))

  pub path_progress : (h : RawRecord) → Progresses (path start unit) h
  unfolding path
  path_progress h =
      expected_progress start LAYER
      (λ l all. expected start DATATYPE all >>= λ d. fielded start (typed_at l d.0) d.1) refl
      (λ l kl. expected_progress start DATATYPE (λ d all. fielded start (typed_at l d) all) refl
      (λ d kd. fielded_progress start (typed_at l d) (typed_held l d) d) l) h

-- ---- orientations

module _ {X : Type 0} (start : ℕ) (K : Orient → RawRecord → List RecordOutcome → Reading X) where
  abbrev orienting : RawRecord → List RecordOutcome → Reading X
  orienting r rs = orientation start r rs >>= λ x. K x.0.0 x.0.1 x.1

  abbrev angle_at : Bool → RawRecord → List RecordOutcome → Reading X
  angle_at m = opting start ANGLE turns_of 0 (λ a. K (orient_of m a))

  abbrev magnified_at : Bool → RawRecord → List RecordOutcome → Reading X
  magnified_at m = opting start MAG magnification_of tt (λ (u : Unit {0}). angle_at m)

  -- what comes after STRANS
  abbrev turned : RawRecord → List RecordOutcome → Reading X
  turned r os = mirrored_of r >>= λ m. fielded start (magnified_at m) os

  abbrev oriented : (Orient × RawRecord) × List RecordOutcome → Reading X
  oriented x = K x.0.0 x.0.1 x.1

  abbrev angled : Bool → RawRecord → List RecordOutcome → Reading (Orient × RawRecord)
  angled m r rs =
      optional start ANGLE turns_of 0 r rs
      >>= λ angle. Ok ((orient_of m angle.0.0, angle.0.1), angle.1)

  abbrev magnified : Bool → RawRecord → List RecordOutcome → Reading (Orient × RawRecord)
  magnified m r rs = optional start MAG magnification_of tt r rs >>= λ x. angled m x.0.1 x.1

  abbrev flagged : List RecordOutcome → Bool → Reading (Orient × RawRecord)
  flagged rs m = field start rs >>= λ next. magnified m next.0 next.1

  angles : (m : Bool) (t : Reading (ℕ × RawRecord))
      → ((t >>= λ angle. Ok ((orient_of m angle.0.0, angle.0.1), angle.1)) >>= oriented)
      ≡ (t >>= λ y. K (orient_of m y.0.0) y.0.1 y.1)
  angles m (Ok y) = refl
  angles m (Err f) = refl

  magnifications : (m : Bool) (t : Reading (Unit {0} × RawRecord))
      → ((t >>= λ x. angled m x.0.1 x.1) >>= oriented) ≡ (t >>= λ x. angle_at m x.0.1 x.1)
  magnifications m (Ok x) = angles m (optional start ANGLE turns_of 0 x.0.1 x.1)
  magnifications m (Err f) = refl

  nexts : (m : Bool) (t : Reading RawRecord)
      → ((t >>= λ next. magnified m next.0 next.1) >>= oriented)
      ≡ (t >>= λ n. magnified_at m n.0 n.1)
  nexts m (Ok n) = magnifications m (optional start MAG magnification_of tt n.0 n.1)
  nexts m (Err f) = refl

  flags : (rs : List RecordOutcome) (t : Result Bool ReadFault)
      → ((t >>= flagged rs) >>= oriented) ≡ (t >>= λ m. fielded start (magnified_at m) rs)
  flags rs (Ok m) = nexts m (field start rs)
  flags rs (Err f) = refl

  magnified_held : (m : Bool) → ((o : Orient) → Held (K o)) → Held (magnified_at m)
  magnified_held m k =
      held_optional start MAG magnification_of tt (λ (u : Unit {0}). angle_at m) refl
      (λ r k f e. IsFaultOf.magnification k e)
      (λ u. held_optional start ANGLE turns_of 0 (λ a. K (orient_of m a)) refl
      (λ r k f e. IsFaultOf.angle k e)
      (λ a. k (orient_of m a)))

  abbrev either : Bool → RawRecord → List RecordOutcome → Reading (Orient × RawRecord)
  either b r rs = cond b (mirrored_of r >>= flagged rs) (Ok ((R0, r), rs))

  orienting_held : ((o : Orient) → Held (K o)) → Held orienting
  unfolding orientation
  orienting_held k = record {
    progress = λ r. go r (eqb r.kind STRANS) refl;
    refuses = λ e os is.
        let other : eqb e.kind STRANS ≡ false = ap (λ (k : ℕ). eqb k STRANS) is in
        rw other ((k R0).refuses e os is);
  }
    where
      go : (r : RawRecord) (b : Bool) → eqb r.kind STRANS ≡ b
          → Progresses (λ rs. either b r rs >>= oriented) r
      go r true p = λ rs.
          as_progress (λ rs. either true r rs >>= oriented) (turned r) r rs
          (λ os. flags os (mirrored_of r))
          (tested_progress (mirrored_of r) (λ m. fielded start (magnified_at m)) r
          (λ f e. IsFaultOf.flags (eqb-true r.kind STRANS p) e)
          (λ m e. fielded_progress start (magnified_at m) (magnified_held m k) r) rs)
      go r false p = (k R0).progress r

-- ---- references

module _ (start unit : ℕ) where
  -- a name, an orientation, and what comes after them
  module _ (at : List ℕ → Orient → RawRecord → List RecordOutcome → Reading Reference)
      (held : (name : List ℕ) (orient : Orient) → Held (at name orient)) where
    reference_progress : (h : RawRecord) → Progresses (λ all. expected start SNAME all
        >>= λ sname. name_of sname.0 >>= λ name. fielded start (orienting start (at name)) sname.1)
        h
    reference_progress h =
        expected_progress start SNAME
        (λ sname all. name_of sname >>= λ name. fielded start (orienting start (at name)) all) refl
        (λ sname ksname. tested_progress (name_of sname)
        (λ name. fielded start (orienting start (at name))) sname (λ f e. IsFaultOf.name (inr ksname) e)
        (λ name e. fielded_progress start (orienting start (at name))
        (orienting_held start (at name) (held name)) sname)) h

  abbrev single_made : List ℕ → Orient → Point → Reference
  single_made name orient origin = record {
    name = name;
    orient = orient;
    origin = origin;
    columns = 1;
    rows = 1;
    column_step = no_point;
    row_step = no_point;
  }

  abbrev single_at : List ℕ → Orient → RawRecord → List RecordOutcome → Reading Reference
  single_at name orient =
      demanding XY
      (λ x all. origin_of unit x >>= λ origin. ending start (single_made name orient origin) all)

  pub single_progress : (h : RawRecord) → Progresses (single start unit) h
  unfolding single
  single_progress =
      reference_progress single_at
      (λ name orient. held_demanded XY
      (λ x all. origin_of unit x >>= λ origin. ending start (single_made name orient origin) all)
      refl
      (λ x kx. tested_progress (origin_of unit x)
      (λ origin. ending start (single_made name orient origin)) x (λ f e. IsFaultOf.origin unit kx e)
      (λ origin e. ending_progress start (single_made name orient origin) x)))

  abbrev array_made : List ℕ → Orient → ℕ × ℕ → Grid → Reference
  array_made name orient counts grid = record {
    name = name;
    orient = orient;
    origin = grid.origin;
    columns = counts.0;
    rows = counts.1;
    column_step = grid.column_step;
    row_step = grid.row_step;
  }

  abbrev gridded : List ℕ → Orient → ℕ × ℕ → RawRecord → List RecordOutcome → Reading Reference
  gridded name orient counts x all =
      grid_of unit counts.0 counts.1 x
      >>= λ grid. ending start (array_made name orient counts grid) all

  abbrev counted : List ℕ → Orient → RawRecord → List RecordOutcome → Reading Reference
  counted name orient x all =
      counts_of x >>= λ counts. expected start XY all >>= λ xy. gridded name orient counts xy.0 xy.1

  pub array_progress : (h : RawRecord) → Progresses (array start unit) h
  unfolding array
  array_progress =
      reference_progress (λ name orient. demanding COLROW (counted name orient))
      (λ name orient. held_demanded COLROW (counted name orient) refl
      (λ x kx. tested_progress (counts_of x)
      (λ counts all. expected start XY all >>= λ xy. gridded name orient counts xy.0 xy.1) x
      (λ f e. IsFaultOf.counts kx e)
      (λ counts e. expected_progress start XY (gridded name orient counts) refl
      (λ xy kxy. tested_progress (grid_of unit counts.0 counts.1 xy)
      (λ grid. ending start (array_made name orient counts grid)) xy
      (λ f e. IsFaultOf.grid unit counts.0 counts.1 kxy e)
      (λ grid e. ending_progress start (array_made name orient counts grid) xy)) x)))

-- ---- texts, nodes and elements

pub ignored_progress : (start : ℕ) (h : RawRecord) → Progresses (ignored start) h
unfolding ignored
ignored_progress start h [] = Progress.waits (λ g os. refl) (λ e os is. rw is refl)
ignored_progress start h (r ∷ rs) =
    go (eqb r.kind ENDEL) (eqb r.kind ENDLIB) refl refl (ignored_progress start r rs)
  where
    go : (a b : Bool) → eqb r.kind ENDEL ≡ a → eqb r.kind ENDLIB ≡ b
        → Progress (ignored start) r rs → Progress (ignored start) h (r ∷ rs)
    go true b p q more =
        cons_progress (ignored start) (λ os. Ok (tt, os)) h r rs (λ os. rw p refl)
        (done_progress tt r rs)
    go false true p q more =
        cons_progress (ignored start) (λ os. Err (fault_at Unexpected r)) h r rs
        (λ os. rw (p, q) refl) (err_progress (fault_at Unexpected r) r (IsFaultOf.misplaced refl) rs)
    go false false p q more =
        cons_progress (ignored start) (ignored start) h r rs (λ os. rw (p, q) refl) more

-- the value of a reader, mapped by a function
pub mapped_progress : {V X : Type 0} (P : List RecordOutcome → Reading V) (f : V → X)
    (h : RawRecord) → Progresses P h → Progresses (λ all. P all >>= λ x. Ok (f x.0, x.1)) h
mapped_progress P f h p =
    then_progress P (λ v all. Ok (f v, all)) h p (λ v g. done_progress (f v) g)

pub element_progress : (unit : ℕ) (r : RawRecord) → Progresses (element unit r) r
unfolding element
element_progress unit r =
    choice_progress (eqb r.kind BOUNDARY) _ _ r
    (mapped_progress (boundary r.offset unit DATATYPE) (λ x. Some (elements.Boundary x)) r
    (boundary_progress r.offset unit DATATYPE refl r))
    (choice_progress (eqb r.kind BOX) _ _ r
    (mapped_progress (boundary r.offset unit BOXTYPE) (λ x. Some (elements.Boundary x)) r
    (boundary_progress r.offset unit BOXTYPE refl r))
    (choice_progress (eqb r.kind PATH) _ _ r
    (mapped_progress (path r.offset unit) (λ x. Some (elements.Path x)) r
    (path_progress r.offset unit r))
    (choice_progress (eqb r.kind SREF) _ _ r
    (mapped_progress (single r.offset unit) (λ x. Some (elements.Reference x)) r
    (single_progress r.offset unit r))
    (choice_progress (eqb r.kind AREF) _ _ r
    (mapped_progress (array r.offset unit) (λ x. Some (elements.Reference x)) r
    (array_progress r.offset unit r))
    (choice_progress (eqb r.kind TEXT || eqb r.kind NODE) _ _ r
    (mapped_progress (ignored r.offset) (λ x. None) r (ignored_progress r.offset r))
    (err_progress (fault_at Unexpected r) r (IsFaultOf.misplaced refl)))))))

pub element_refuses : (unit : ℕ) (e : RawRecord) (os : List RecordOutcome) → e.kind ≡ ENDLIB
    → element unit e os ≡ Err (fault_at Unexpected e)
unfolding element
element_refuses unit e os is = rw is refl
