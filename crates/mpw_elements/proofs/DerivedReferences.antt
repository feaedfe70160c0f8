-- A reference is read exactly if the records derive it.
use Rattle.std.proofs.Common.{◌≡◌, ℕ, false, eqb, List, [], ◌∷◌, ◌++◌, Ok, refl, ap, subst, ◌∙◌, inl, inr}
use Rattle.std.proofs.lemmas.Bool.{eqb-true}
use Rattle.mpw_structures.specs.declared.element.Reference.{Reference}
use Rattle.mpw_records.specs.declared.kind.TheConstants.{XY, ENDEL, SNAME, COLROW, STRANS, MAG, ANGLE}
use Rattle.mpw_records.specs.Records.{RawRecord, RecordOutcome}
use Rattle.mpw_geom.specs.declared.plane.Orient.{Orient}
use Rattle.mpw_geom.specs.declared.plane.Orient.TheVariants.{R0}
use Rattle.mpw_elements.specs.Reading.{Reading, ◌>>=◌, field, demanded, expected, optional}
use Rattle.mpw_structures.specs.Coordinates.{no_point}
use Rattle.mpw_elements.specs.Values.{origin_of, name_of, mirrored_of, magnification_of, turns_of, orient_of, counts_of, grid_of}
use Rattle.mpw_elements.specs.Grammar.{orientation, single, array}
use Rattle.mpw_elements.specs.Derivation.{IsField, DerivesOrient, DerivesSingle, DerivesArray, records_then, Begins}
use Rattle.mpw_elements.proofs.DerivedFields.{regroup3, regroup4, bind_ok, ok_is, chosen, records_both, parts_both, field_sound, field_complete, demanded_complete, ahead_sound, expected_sound, kind_of, expected_complete, BeginsAhead, optional_sound, field_ahead, Ahead, is_among, not_among, equals, optional_complete}

orientation_sound : (start : ℕ) (all : List RecordOutcome) (next : RawRecord × List RecordOutcome)
    → field start all ≡ Ok next
    → (x : (Orient × RawRecord) × List RecordOutcome) → orientation start next.0 next.1 ≡ Ok x
    → BeginsAhead start all (x.0.1, x.1) (λ rs. DerivesOrient rs x.0.0)
unfolding orientation
orientation_sound start all next read x e =
    elim (chosen (eqb next.0.kind STRANS) _ _ (Ok x) e) [
      | inl p ↦
          let m = bind_ok (mirrored_of next.0) _ x p.1 in
          let n = bind_ok (field start next.1) _ x m.2 in
          let g = bind_ok (optional start MAG magnification_of tt n.0.0 n.0.1) _ x n.2 in
          let a = bind_ok (optional start ANGLE turns_of 0 g.0.0.1 g.0.1) _ x g.2 in
          let h = field_sound start all next read in
          let lg = optional_sound start MAG magnification_of tt next.1 n.0 n.1 g.0 g.1 in
          let la =
          optional_sound start ANGLE turns_of 0 lg.rest (g.0.0.1, g.0.1) lg.ahead a.0 a.1 in
          subst (λ (y : (Orient × RawRecord) × List RecordOutcome).
          BeginsAhead start all (y.0.1, y.1) (λ rs. DerivesOrient rs y.0.0))
          {x = ((orient_of m.0 a.0.0.0, a.0.0.1), a.0.1)}
          (ok_is ((orient_of m.0 a.0.0.0, a.0.0.1), a.0.1) x a.2) (record {
            rest = la.rest;
            begins = record {
              records = h.records ++ lg.begins.records ++ la.begins.records;
              parts = parts_both all lg.rest la.rest (h.records ++ lg.begins.records)
                  la.begins.records (parts_both all next.1 lg.rest h.records lg.begins.records
                  h.parts lg.begins.parts) la.begins.parts;
              told = DerivesOrient.turned {magnifications = lg.begins.records}
                  {angles = la.begins.records} {angle = a.0.0.0}
                  (subst (λ (k : ℕ). IsField k h.records next.0) (eqb-true _ _ p.0) h.told) m.1
                  lg.begins.told la.begins.told;
            };
            ahead = la.ahead;
          })
      | inr p ↦
          subst (λ (y : (Orient × RawRecord) × List RecordOutcome).
          BeginsAhead start all (y.0.1, y.1) (λ rs. DerivesOrient rs y.0.0))
          (ok_is ((R0, next.0), next.1) x p.1) (record {
            rest = all;
            begins = record { records = []; parts = refl; told = DerivesOrient.upright };
            ahead = read;
          })
    ]

-- the record ahead of an orientation, and the result of reading from there
record OrientAhead (start : ℕ) (orient : Orient) (all : List RecordOutcome)
    (next : RawRecord × List RecordOutcome) : Type 0 where
  before : RawRecord × List RecordOutcome
  ahead : field start all ≡ Ok before
  reads : orientation start before.0 before.1 ≡ Ok ((orient, next.0), next.1)

orientation_complete : {rs : List RawRecord} {orient : Orient} → DerivesOrient rs orient
    → (start : ℕ) (rest : List RecordOutcome) (next : RawRecord × List RecordOutcome) (kind : ℕ)
    → is_among (kind ∷ []) STRANS ≡ false → is_among (ANGLE ∷ kind ∷ []) MAG ≡ false
    → is_among (kind ∷ []) ANGLE ≡ false → Ahead start rest next (kind ∷ [])
    → OrientAhead start orient (records_then rs rest) next
unfolding orientation
orientation_complete DerivesOrient.upright start rest next kind not_strans not_mag not_angle a =
    record {
      before = next;
      ahead = a.reads;
      reads = rw (not_among (kind ∷ []) next.0.kind STRANS a.among not_strans) refl;
    }
orientation_complete (DerivesOrient.turned {flags = fs} {magnifications = ms} {angles = ns}
    {strans = r} d m g n) start rest next kind not_strans not_mag not_angle a =
    let fn = optional_complete n start rest next (kind ∷ []) refl not_angle a in
    let fm = optional_complete g start (records_then ns rest) fn.before (ANGLE ∷ kind ∷ []) refl
    not_mag fn.ahead in
    record {
      before = (r, records_then ms (records_then ns rest));
      ahead = ap (field start) (regroup3 fs ms ns rest)
          ∙ field_complete d start (records_then ms (records_then ns rest)) refl;
      reads = rw (equals r.kind STRANS (kind_of d), m, fm.ahead.reads, fm.reads, fn.reads) refl;
    }

-- single from XY on
abbrev single_end : (start unit : ℕ) (name : List ℕ) (orient : Orient) → RawRecord
    → List RecordOutcome → Reading Reference
single_end start unit name orient next rs = do
  xy ← demanded XY next
  origin ← origin_of unit xy
  last ← expected start ENDEL rs
  Ok (
    record {
      name = name;
      orient = orient;
      origin = origin;
      columns = 1;
      rows = 1;
      column_step = no_point;
      row_step = no_point;
    },
    last.1,
  )

-- a reference whose rest is read in this way, after its name and its orientation, is derived
abbrev IsEndSound : ℕ → (List ℕ → Orient → RawRecord → List RecordOutcome → Reading Reference)
    → (List RawRecord → Reference → Type 0) → Type 0
IsEndSound start end D =
    (o1 o2 o3 : List RecordOutcome) (sname : RawRecord) (name : List ℕ) (orient : Orient)
    (next : RawRecord) (rs : List RecordOutcome) (x : Reference × List RecordOutcome)
    → Begins o1 o2 (λ rs. IsField SNAME rs sname) → name_of sname ≡ Ok name
    → Begins o2 o3 (λ rs. DerivesOrient rs orient) → field start o3 ≡ Ok (next, rs)
    → end name orient next rs ≡ Ok x → Begins o1 x.1 (λ rs. D rs x.0)

-- what comes before the rest of a reference is read in the same way for one instance and for an array
reference_sound : (start : ℕ)
    (end : List ℕ → Orient → RawRecord → List RecordOutcome → Reading Reference)
    (D : List RawRecord → Reference → Type 0)
    → IsEndSound start end D
    → (all : List RecordOutcome) (x : Reference × List RecordOutcome)
    → (expected start SNAME all >>= λ sname. name_of sname.0 >>= λ name. field start sname.1
    >>= λ next. orientation start next.0 next.1 >>= λ orient. end name orient.0.0 orient.0.1
    orient.1) ≡ Ok x → Begins all x.1 (λ rs. D rs x.0)
reference_sound start end D sound all x e =
    let a = bind_ok (expected start SNAME all)
    (λ sname. name_of sname.0 >>= λ name. field start sname.1
    >>= λ next. orientation start next.0 next.1 >>= λ orient. end name orient.0.0 orient.0.1
    orient.1) x e in
    let v = bind_ok (name_of a.0.0) (λ name. field start a.0.1
    >>= λ next. orientation start next.0 next.1 >>= λ orient. end name orient.0.0 orient.0.1
    orient.1) x a.2 in
    let n = bind_ok (field start a.0.1) (λ next. orientation start next.0 next.1
    >>= λ orient. end v.0 orient.0.0 orient.0.1 orient.1) x v.2 in
    let o = bind_ok (orientation start n.0.0 n.0.1)
    (λ orient. end v.0 orient.0.0 orient.0.1 orient.1) x n.2 in
    let lo = orientation_sound start a.0.1 n.0 n.1 o.0 o.1 in
    sound all a.0.1 lo.rest a.0.0 v.0 o.0.0.0 o.0.0.1 o.0.1 x
    (expected_sound start SNAME all a.0 a.1) v.1 lo.begins lo.ahead o.2

single_end_sound : (start unit : ℕ)
    → IsEndSound start (single_end start unit) (DerivesSingle unit)
single_end_sound start unit o1 o2 o3 sname name orient next rs x a is o n e =
    let c = bind_ok (demanded XY next) _ x e in
    let v = bind_ok (origin_of unit c.0) _ x c.2 in
    let l = bind_ok (expected start ENDEL rs) _ x v.2 in
    let lc = ahead_sound start XY o3 (next, rs) c.0 n c.1 in
    let ll = expected_sound start ENDEL rs l.0 l.1 in
    let made : Reference = record {
      name = name;
      orient = orient;
      origin = v.0;
      columns = 1;
      rows = 1;
      column_step = no_point;
      row_step = no_point;
    } in
    subst (λ (y : Reference × List RecordOutcome). Begins o1 y.1 (λ rs. DerivesSingle unit rs y.0))
    {x = (made, l.0.1)} (ok_is (made, l.0.1) x l.2) (record {
      records = a.records ++ o.records ++ lc.records ++ ll.records;
      parts = parts_both o1 rs l.0.1 (a.records ++ o.records ++ lc.records) ll.records
          (parts_both o1 o3 rs (a.records ++ o.records) lc.records
          (parts_both o1 o2 o3 a.records o.records a.parts o.parts) lc.parts) ll.parts;
      told = DerivesSingle.single a.told is o.told lc.told v.1 ll.told;
    })

pub single_sound : (start unit : ℕ) (all : List RecordOutcome) (x : Reference × List RecordOutcome)
    → single start unit all ≡ Ok x → Begins all x.1 (λ rs. DerivesSingle unit rs x.0)
unfolding single
single_sound start unit all x e =
    reference_sound start (single_end start unit) (DerivesSingle unit)
    (single_end_sound start unit) all x e

pub single_complete : {unit : ℕ} {rs : List RawRecord} {r : Reference} → DerivesSingle unit rs r
    → (start : ℕ) (rest : List RecordOutcome)
    → single start unit (records_then rs rest) ≡ Ok (r, rest)
unfolding single
single_complete {unit = unit} (DerivesSingle.single {names = ns} {turns = ts} {xys = xs}
    {lasts = zs} {xy = r} a is o x c l) start rest =
    let after_xy : List RecordOutcome = records_then zs rest in
    let after_orient : List RecordOutcome = records_then xs after_xy in
    let fo = orientation_complete o start after_orient (r, after_xy) XY refl refl refl
    (field_ahead x start after_xy refl) in
    ap (single start unit) (regroup4 ns ts xs zs rest)
    ∙ rw (
      expected_complete a start (records_then ts after_orient) refl,
      is,
      fo.ahead,
      fo.reads,
      demanded_complete XY r (kind_of x),
      c,
      expected_complete l start rest refl,
    ) refl

-- array from COLROW on
abbrev array_end : (start unit : ℕ) (name : List ℕ) (orient : Orient) → RawRecord
    → List RecordOutcome → Reading Reference
array_end start unit name orient next rs = do
  colrow ← demanded COLROW next
  counts ← counts_of colrow
  xy ← expected start XY rs
  grid ← grid_of unit counts.0 counts.1 xy.0
  last ← expected start ENDEL xy.1
  Ok (
    record {
      name = name;
      orient = orient;
      origin = grid.origin;
      columns = counts.0;
      rows = counts.1;
      column_step = grid.column_step;
      row_step = grid.row_step;
    },
    last.1,
  )

array_end_sound : (start unit : ℕ)
    → IsEndSound start (array_end start unit) (DerivesArray unit)
array_end_sound start unit o1 o2 o3 sname name orient next rs x a is o n e =
    let c = bind_ok (demanded COLROW next) _ x e in
    let k = bind_ok (counts_of c.0) _ x c.2 in
    let y = bind_ok (expected start XY rs) _ x k.2 in
    let g = bind_ok (grid_of unit k.0.0 k.0.1 y.0.0) _ x y.2 in
    let l = bind_ok (expected start ENDEL y.0.1) _ x g.2 in
    let lc = ahead_sound start COLROW o3 (next, rs) c.0 n c.1 in
    let ly = expected_sound start XY rs y.0 y.1 in
    let ll = expected_sound start ENDEL y.0.1 l.0 l.1 in
    let made : Reference = record {
      name = name;
      orient = orient;
      origin = g.0.origin;
      columns = k.0.0;
      rows = k.0.1;
      column_step = g.0.column_step;
      row_step = g.0.row_step;
    } in
    let p3 = parts_both o1 o2 o3 a.records o.records a.parts o.parts in
    let p4 = parts_both o1 o3 rs (a.records ++ o.records) lc.records p3 lc.parts in
    let p5 = parts_both o1 rs y.0.1 (a.records ++ o.records ++ lc.records) ly.records p4 ly.parts in
    subst (λ (z : Reference × List RecordOutcome). Begins o1 z.1 (λ rs. DerivesArray unit rs z.0))
    {x = (made, l.0.1)} (ok_is (made, l.0.1) x l.2) (record {
      records = a.records ++ o.records ++ lc.records ++ ly.records ++ ll.records;
      parts = parts_both o1 y.0.1 l.0.1 (a.records ++ o.records ++ lc.records ++ ly.records)
          ll.records p5 ll.parts;
      told = DerivesArray.array a.told is o.told lc.told k.1 ly.told g.1 ll.told;
    })

pub array_sound : (start unit : ℕ) (all : List RecordOutcome) (x : Reference × List RecordOutcome)
    → array start unit all ≡ Ok x → Begins all x.1 (λ rs. DerivesArray unit rs x.0)
unfolding array
array_sound start unit all x e =
    reference_sound start (array_end start unit) (DerivesArray unit) (array_end_sound start unit)
    all x e

regroup5 : (a b c d e : List RawRecord) (rest : List RecordOutcome)
    → records_then (a ++ b ++ c ++ d ++ e) rest ≡ records_then a
    (records_then b (records_then c (records_then d (records_then e rest))))
regroup5 a b c d e rest = simp records_both

pub array_complete : {unit : ℕ} {rs : List RawRecord} {r : Reference} → DerivesArray unit rs r
    → (start : ℕ) (rest : List RecordOutcome)
    → array start unit (records_then rs rest) ≡ Ok (r, rest)
unfolding array
array_complete {unit = unit} (DerivesArray.array {names = ns} {turns = ts} {colrows = cs} {xys = xs}
    {lasts = zs} {colrow = r} a is o c k x g l) start rest =
    let after_xy : List RecordOutcome = records_then zs rest in
    let after_colrow : List RecordOutcome = records_then xs after_xy in
    let after_orient : List RecordOutcome = records_then cs after_colrow in
    let fo = orientation_complete o start after_orient (r, after_colrow) COLROW refl refl refl
    (field_ahead c start after_colrow refl) in
    ap (array start unit) (regroup5 ns ts cs xs zs rest)
    ∙ rw (
      expected_complete a start (records_then ts after_orient) refl,
      is,
      fo.ahead,
      fo.reads,
      demanded_complete COLROW r (kind_of c),
      k,
      expected_complete x start after_xy refl,
      g,
      expected_complete l start rest refl,
    ) refl
