-- Boundaries and paths refuse at the first record with which nothing continues.
use Rattle.std.proofs.Common.{◌≡◌, ℕ, ◌≤◌, Bool, true, false, cond, ℤ, pos, List, [], Result, Ok, Err, refl, ap}
use Rattle.mpw_geom.specs.declared.plane.Point.{Point}
use Rattle.mpw_structures.specs.declared.element.Boundary.{Boundary}
use Rattle.mpw_structures.specs.declared.element.Path.{Path}
use Rattle.mpw_records.specs.declared.fault.Code.{Code}
use Rattle.mpw_records.specs.declared.fault.Code.TheVariants.{Unexpected, NotManhattan, RoundPath, OddWidth, PointPath}
use Rattle.mpw_records.specs.declared.fault.ReadFault.{ReadFault}
use Rattle.mpw_records.specs.declared.kind.TheConstants.{LAYER, DATATYPE, WIDTH, XY, ENDEL, PATHTYPE, BGNEXTN, ENDEXTN}
use Rattle.mpw_records.specs.Records.{RawRecord, RecordOutcome}
use Rattle.mpw_elements.specs.Reading.{Reading, ◌>>=◌, fault_at, expected}
use Rattle.mpw_elements.specs.Values.{short_of, corners_of, centre_of, path_type_of, width_of, extension_of, lengthening}
use Rattle.mpw_elements.specs.Grammar.{boundary, path}
use Rattle.mpw_library.proofs.Refusals.{unexpected_at, Completes, Local, Any, IsOfValue, then_local, then_completes, done_local, done_completes, tested_local, tested_completes}
use Rattle.mpw_library.proofs.Fields.{Ahead, demanding, demanding_ahead, IsSample, expected_local, expected_completes, fielded, fielded_local, fielded_completes}
use Rattle.mpw_library.proofs.Options.{opting, opting_ahead}
use Rattle.mpw_library.proofs.Samples.{layer, datatype, dot, dot_corners, segment, segment_centre, last, samples}

-- ---- readers that can always begin

pub record Whole {V : Type 0} (P : List RecordOutcome → Reading V) : Type 0 where
  pub local : Local P Any
  pub begin : Completes P Any []

pub done_whole : {V : Type 0} (v : V) → Whole (λ all. Ok (v, all))
done_whole v = record { local = done_local v; begin = done_completes v tt }

-- a reader, and what it does with its value
pub then_whole : {V X : Type 0} (P : List RecordOutcome → Reading V) (Q : V → List RecordOutcome
    → Reading X)
    → Whole P → ((v : V) → Whole (Q v)) → Whole (λ all. P all >>= λ x. Q x.0 x.1)
then_whole P Q p q = record {
  local = then_local P Q p.local (λ v. (q v).local) (λ v good. (q v).begin);
  begin = then_completes P Q [] p.begin (q p.begin.value).begin;
}

module _ (start kind : ℕ) (c : RawRecord) (s : IsSample kind c) {X : Type 0} where
  -- a record of a type, and what comes after it
  pub expected_then : (Q : RawRecord → List RecordOutcome → Reading X)
      → ((d : RawRecord) → Local (Q d) Any) → Completes (Q c) Any []
      → Whole (λ all. expected start kind all >>= λ x. Q x.0 x.1)
  expected_then Q q begin = record {
    local = then_local (expected start kind) Q (expected_local start kind c s) q go;
    begin =
        then_completes (expected start kind) Q [] (expected_completes start kind c s)
        (go (expected_completes start kind c s).value (expected_completes start kind c s).good);
  }
    where
      go : (d : RawRecord) → d ≡ c → Completes (Q d) Any []
      go d e = rw e begin

  -- and a test of its value
  pub expected_tested : {W : Type 0} (t : RawRecord → Result W ReadFault) (w : W)
      (Q : RawRecord → W → List RecordOutcome → Reading X)
      → ((d : RawRecord) → IsOfValue (t d)) → t c ≡ Ok w
      → ((d : RawRecord) (w : W) → t d ≡ Ok w → Whole (Q d w))
      → Whole (λ all. expected start kind all >>= λ x. t x.0 >>= λ w. Q x.0 w x.1)
  expected_tested t w Q own e q =
      expected_then (λ d all. t d >>= λ w. Q d w all)
      (λ d. tested_local (Q d) (t d) (own d) (λ w h. (q d w h).local))
      (tested_completes (Q c) (t c) w e (q c w e).begin)

-- a record that was read ahead, a test of its value, and what comes after it
pub demanded_tested : (kind : ℕ) (c : RawRecord) → IsSample kind c
    → {W X : Type 0} (t : RawRecord → Result W ReadFault) (w : W)
    (Q : RawRecord → W → List RecordOutcome → Reading X)
    → ((d : RawRecord) → IsOfValue (t d)) → t c ≡ Ok w
    → ((d : RawRecord) (w : W) → t d ≡ Ok w → Whole (Q d w))
    → Ahead kind (demanding kind (λ d all. t d >>= λ w. Q d w all)) Any
demanded_tested kind c s t w Q own e q =
    demanding_ahead kind (λ d all. t d >>= λ w. Q d w all) c s.kind_is s.formed s.inner
    (λ d. tested_local (Q d) (t d) (own d) (λ w h. (q d w h).local))
    (tested_completes (Q c) (t c) w e (q c w e).begin)

-- ---- faults of values

pub never : {W : Type 0} (code : Code) (r : RawRecord) → (code ≡ Unexpected → ⊥)
    → IsOfValue {W = W} (Err (fault_at code r))
never code r other offset e = let same : fault_at code r ≡ unexpected_at offset = cc in
    other (ap (λ (f : ReadFault). f.code) same)

pub choice_own : {W : Type 0} (b : Bool) (t u : Result W ReadFault) → IsOfValue t → IsOfValue u
    → IsOfValue (cond b t u)
choice_own true t u p q = p
choice_own false t u p q = q

pub ok_own : {W : Type 0} (w : W) → IsOfValue (Ok w)
ok_own w offset e = cc

corners_own : (unit : ℕ) (r : RawRecord) → IsOfValue (corners_of unit r)
unfolding corners_of
corners_own unit r = choice_own _ _ _ (ok_own _) (never NotManhattan r (λ e. cc))

centre_own : (unit : ℕ) (r : RawRecord) → IsOfValue (centre_of unit r)
unfolding centre_of
centre_own unit r =
    choice_own _ _ _ (never PointPath r (λ e. cc))
    (choice_own _ _ _ (ok_own _) (never NotManhattan r (λ e. cc)))

path_type_own : (r : RawRecord) → IsOfValue (path_type_of r)
unfolding path_type_of
path_type_own r = choice_own _ _ _ (ok_own _) (never RoundPath r (λ e. cc))

width_own : (unit : ℕ) (r : RawRecord) → IsOfValue (width_of unit r)
unfolding width_of
width_own unit r = choice_own _ _ _ (ok_own _) (never OddWidth r (λ e. cc))

-- ---- boundaries

module _ (start unit : ℕ) where
  module _ (kind : ℕ) where
    abbrev corners_then : RawRecord → RawRecord → List Point → List RecordOutcome → Reading Boundary
    corners_then l d corners all = expected start ENDEL all >>= λ x. Ok (
      record {
        layer = record { layer = short_of l; datatype = short_of d };
        points = corners;
      },
      x.1,
    )

    abbrev ring_then : RawRecord → RawRecord → List RecordOutcome → Reading Boundary
    ring_then l d all =
        expected start XY all >>= λ x. corners_of unit x.0
        >>= λ corners. corners_then l d corners x.1

    abbrev ring_of : RawRecord → List RecordOutcome → Reading Boundary
    ring_of l all = expected start kind all >>= λ x. ring_then l x.0 x.1

    corners_whole : (l d : RawRecord) (corners : List Point) → Whole (corners_then l d corners)
    corners_whole l d corners =
        let made : Boundary = record {
          layer = record { layer = short_of l; datatype = short_of d };
          points = corners;
        } in
        expected_then start ENDEL last samples.last_is (λ x all. Ok (made, all)) (λ x. done_local made)
        (done_completes made tt)

    ring_whole : (l d : RawRecord) → Whole (ring_then l d)
    ring_whole l d =
        expected_tested start XY dot samples.dot_is (corners_of unit)
        _ (λ x corners. corners_then l d corners) (corners_own unit) (dot_corners unit)
        (λ x corners e. corners_whole l d corners)

    pub boundary_whole : (c : RawRecord) → IsSample kind c → Whole (boundary start unit kind)
    unfolding boundary
    boundary_whole c s =
        expected_then start LAYER layer samples.layer_is ring_of (λ l. (of l).local) (of layer).begin
      where
        of : (l : RawRecord) → Whole (ring_of l)
        of l =
            expected_then start kind c s (ring_then l) (λ d. (ring_whole l d).local)
            (ring_whole l c).begin

  -- ---- paths

  abbrev line_end : Path → List RecordOutcome → Reading Path
  line_end p all = expected start ENDEL all >>= λ x. Ok (p, x.1)

  line_end_whole : (p : Path) → Whole (line_end p)
  line_end_whole p =
      expected_then start ENDEL last samples.last_is (λ x all. Ok (p, all)) (λ x. done_local p)
      (done_completes p tt)

  abbrev line_made : RawRecord → RawRecord → ℕ → ℤ → ℤ → ℤ → List Point → Path
  line_made l d path_type width begin end centre = record {
    layer = record { layer = short_of l; datatype = short_of d };
    width = width;
    begin = lengthening path_type width begin;
    end = lengthening path_type width end;
    points = centre;
  }

  abbrev line_at : RawRecord → RawRecord → ℕ → ℤ → ℤ → ℤ → RawRecord → List RecordOutcome
      → Reading Path
  line_at l d t w g h =
      demanding XY
      (λ x all. centre_of unit x >>= λ centre. line_end (line_made l d t w g h centre) all)

  abbrev ends_at : RawRecord → RawRecord → ℕ → ℤ → ℤ → RawRecord → List RecordOutcome → Reading Path
  ends_at l d t w g = opting start ENDEXTN (extension_of unit) (pos 0) (λ h. line_at l d t w g h)

  abbrev begins_at : RawRecord → RawRecord → ℕ → ℤ → RawRecord → List RecordOutcome → Reading Path
  begins_at l d t w = opting start BGNEXTN (extension_of unit) (pos 0) (λ g. ends_at l d t w g)

  abbrev width_at : RawRecord → RawRecord → ℕ → RawRecord → List RecordOutcome → Reading Path
  width_at l d t = opting start WIDTH (width_of unit) (pos 0) (λ w. begins_at l d t w)

  abbrev type_at : RawRecord → RawRecord → RawRecord → List RecordOutcome → Reading Path
  type_at l d = opting start PATHTYPE path_type_of 0 (λ t. width_at l d t)

  module _ (some : 1 ≤ unit) where
    line_ahead : (l d : RawRecord) (t : ℕ) (w g h : ℤ) → Ahead XY (line_at l d t w g h) Any
    line_ahead l d t w g h =
        demanded_tested XY segment samples.segment_is (centre_of unit)
        _ (λ x centre. line_end (line_made l d t w g h centre)) (centre_own unit)
        (segment_centre unit some) (λ x centre e. line_end_whole (line_made l d t w g h centre))

    ends_ahead : (l d : RawRecord) (t : ℕ) (w g : ℤ) → Ahead XY (ends_at l d t w g) Any
    ends_ahead l d t w g =
        opting_ahead start ENDEXTN (extension_of unit) (pos 0) (λ h. line_at l d t w g h) XY
        (λ r. ok_own _) refl refl refl (λ h. line_ahead l d t w g h)

    begins_ahead : (l d : RawRecord) (t : ℕ) (w : ℤ) → Ahead XY (begins_at l d t w) Any
    begins_ahead l d t w =
        opting_ahead start BGNEXTN (extension_of unit) (pos 0) (λ g. ends_at l d t w g) XY
        (λ r. ok_own _) refl refl refl (λ g. ends_ahead l d t w g)

    width_ahead : (l d : RawRecord) (t : ℕ) → Ahead XY (width_at l d t) Any
    width_ahead l d t =
        opting_ahead start WIDTH (width_of unit) (pos 0) (λ w. begins_at l d t w) XY
        (width_own unit) refl refl refl (λ w. begins_ahead l d t w)

    type_ahead : (l d : RawRecord) → Ahead XY (type_at l d) Any
    type_ahead l d =
        opting_ahead start PATHTYPE path_type_of 0 (λ t. width_at l d t) XY path_type_own refl refl
        refl (λ t. width_ahead l d t)

    abbrev line_of : RawRecord → List RecordOutcome → Reading Path
    line_of l all = expected start DATATYPE all >>= λ d. fielded start (type_at l d.0) d.1

    line_whole : (l : RawRecord) → Whole (line_of l)
    line_whole l =
        expected_then start DATATYPE datatype samples.datatype_is (λ d. fielded start (type_at l d))
        (λ d. fielded_local start (type_at l d) (type_ahead l d) refl)
        (fielded_completes start (type_at l datatype) (type_ahead l datatype) refl)

    pub path_whole : Whole (path start unit)
    unfolding path
    path_whole =
        expected_then start LAYER layer samples.layer_is line_of (λ l. (line_whole l).local)
        (line_whole layer).begin
