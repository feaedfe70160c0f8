-- A boundary and a path are read exactly if the records derive them.
use Rattle.std.proofs.Common.{◌≡◌, ℕ, pos, false, List, [], ◌∷◌, ◌++◌, Ok, refl, ap, subst, ◌∙◌}
use Rattle.mpw_structures.specs.declared.element.Boundary.{Boundary}
use Rattle.mpw_structures.specs.declared.element.Path.{Path}
use Rattle.mpw_records.specs.declared.kind.TheConstants.{LAYER, DATATYPE, WIDTH, XY, ENDEL, PATHTYPE, BGNEXTN, ENDEXTN}
use Rattle.mpw_records.specs.Records.{RawRecord, RecordOutcome}
use Rattle.std.specs.Prelude.{ℤ}
use Rattle.mpw_geom.specs.declared.plane.Point.{Point}
use Rattle.mpw_elements.specs.Reading.{Reading, ◌>>=◌, is_skipped, field, demanded, expected, optional}
use Rattle.mpw_elements.specs.Values.{short_of, corners_of, centre_of, path_type_of, width_of, extension_of, lengthening}
use Rattle.mpw_elements.specs.Grammar.{boundary, path}
use Rattle.mpw_elements.specs.Derivation.{IsField, IsOptional, DerivesBoundary, DerivesPath, records_then, Begins}
use Rattle.mpw_elements.proofs.DerivedFields.{regroup4, bind_ok, ok_is, records_both, parts_both, demanded_complete, ahead_sound, expected_sound, kind_of, expected_complete, optional_sound, field_ahead, optional_complete}

pub boundary_sound : (start unit kind : ℕ) (all : List RecordOutcome)
    (x : Boundary × List RecordOutcome) → boundary start unit kind all ≡ Ok x
    → Begins all x.1 (λ rs. DerivesBoundary unit kind rs x.0)
unfolding boundary
boundary_sound start unit kind all x e =
    let a = bind_ok (expected start LAYER all) _ x e in
    let b = bind_ok (expected start kind a.0.1) _ x a.2 in
    let c = bind_ok (expected start XY b.0.1) _ x b.2 in
    let v = bind_ok (corners_of unit c.0.0) _ x c.2 in
    let l = bind_ok (expected start ENDEL c.0.1) _ x v.2 in
    let la = expected_sound start LAYER all a.0 a.1 in
    let lb = expected_sound start kind a.0.1 b.0 b.1 in
    let lc = expected_sound start XY b.0.1 c.0 c.1 in
    let ll = expected_sound start ENDEL c.0.1 l.0 l.1 in
    let made : Begins all l.0.1 (λ rs. DerivesBoundary unit kind rs
    (record {
      layer = record { layer = short_of a.0.0; datatype = short_of b.0.0 };
      points = v.0;
    })) = record {
      records = la.records ++ lb.records ++ lc.records ++ ll.records;
      parts = parts_both _ _ _ _ _ (parts_both _ _ _ _ _ (parts_both _ _ _ _ _ la.parts lb.parts)
          lc.parts) ll.parts;
      told = DerivesBoundary.boundary la.told lb.told lc.told v.1 ll.told;
    } in
    subst (λ (y : Boundary × List RecordOutcome).
    Begins all y.1 (λ rs. DerivesBoundary unit kind rs y.0))
    {x = (
      record {
        layer = record { layer = short_of a.0.0; datatype = short_of b.0.0 };
        points = v.0;
      },
      l.0.1,
    )} (ok_is _ x l.2) made

pub boundary_complete : {unit kind : ℕ} {rs : List RawRecord} {b : Boundary}
    → DerivesBoundary unit kind rs b → (start : ℕ) (rest : List RecordOutcome)
    → is_skipped kind ≡ false → boundary start unit kind (records_then rs rest) ≡ Ok (b, rest)
unfolding boundary
boundary_complete {unit = unit} {kind = kind}
    (DerivesBoundary.boundary {layers = ls} {datatypes = ds} {xys = xs} {lasts = es} a d x c l)
    start rest h =
    let after_xy : List RecordOutcome = records_then es rest in
    let after_datatype : List RecordOutcome = records_then xs after_xy in
    ap (boundary start unit kind) (regroup4 ls ds xs es rest)
    ∙ rw (
      expected_complete a start (records_then ds after_datatype) refl,
      expected_complete d start after_datatype h,
      expected_complete x start after_xy refl,
      c,
      expected_complete l start rest refl,
    ) refl

-- ---- paths

path_parts : (unit : ℕ) (o1 o2 o3 o4 o5 o6 o7 o8 o9 : List RecordOutcome)
    (layer datatype xy last : RawRecord) (path_type : ℕ) (width begin end : ℤ) (centre : List Point)
    → Begins o1 o2 (λ rs. IsField LAYER rs layer)
    → Begins o2 o3 (λ rs. IsField DATATYPE rs datatype)
    → Begins o3 o4 (λ rs. IsOptional PATHTYPE path_type_of 0 rs path_type)
    → Begins o4 o5 (λ rs. IsOptional WIDTH (width_of unit) (pos 0) rs width)
    → Begins o5 o6 (λ rs. IsOptional BGNEXTN (extension_of unit) (pos 0) rs begin)
    → Begins o6 o7 (λ rs. IsOptional ENDEXTN (extension_of unit) (pos 0) rs end)
    → Begins o7 o8 (λ rs. IsField XY rs xy) → centre_of unit xy ≡ Ok centre
    → Begins o8 o9 (λ rs. IsField ENDEL rs last)
    → Begins o1 o9 (λ rs. DerivesPath unit rs
    (record {
      layer = record { layer = short_of layer; datatype = short_of datatype };
      width = width;
      begin = lengthening path_type width begin;
      end = lengthening path_type width
          end;
      points = centre;
    }))
path_parts unit o1 o2 o3 o4 o5 o6 o7 o8 o9 layer datatype xy last path_type width begin end centre a
    b t w g h c v l =
    let p2 = parts_both o1 o2 o3 a.records b.records a.parts b.parts in
    let p3 = parts_both o1 o3 o4 (a.records ++ b.records) t.records p2 t.parts in
    let p4 = parts_both o1 o4 o5 (a.records ++ b.records ++ t.records) w.records p3 w.parts in
    let p5 = parts_both o1 o5 o6 (a.records ++ b.records ++ t.records ++ w.records) g.records p4
    g.parts in
    let p6 = parts_both o1 o6 o7 (a.records ++ b.records ++ t.records ++ w.records ++ g.records)
    h.records p5 h.parts in
    let p7 = parts_both o1 o7 o8 (a.records ++ b.records ++ t.records ++ w.records ++ g.records
    ++ h.records) c.records p6 c.parts in
    record {
      records = a.records ++ b.records ++ t.records ++ w.records ++ g.records ++ h.records
          ++ c.records ++ l.records;
      parts = parts_both o1 o8 o9 (a.records ++ b.records ++ t.records ++ w.records ++ g.records
          ++ h.records ++ c.records) l.records p7 l.parts;
      told = DerivesPath.path a.told b.told t.told w.told g.told h.told c.told v l.told;
    }

-- path from XY on
abbrev path_end : (start unit : ℕ) (layer datatype : RawRecord) (path_type : ℕ)
    (width begin end : ℤ) → RawRecord → List RecordOutcome → Reading Path
path_end start unit layer datatype path_type width begin end next rs = do
  xy ← demanded XY next
  centre ← centre_of unit xy
  last ← expected start ENDEL rs
  Ok (
    record {
      layer = record { layer = short_of layer; datatype = short_of datatype };
      width = width;
      begin = lengthening path_type width begin;
      end = lengthening path_type width end;
      points = centre;
    },
    last.1,
  )

path_end_sound : (start unit : ℕ) (o1 o2 o3 o4 o5 o6 o7 : List RecordOutcome)
    (layer datatype : RawRecord) (path_type : ℕ) (width begin end : ℤ) (next : RawRecord)
    (rs : List RecordOutcome) (x : Path × List RecordOutcome)
    → Begins o1 o2 (λ rs. IsField LAYER rs layer)
    → Begins o2 o3 (λ rs. IsField DATATYPE rs datatype)
    → Begins o3 o4 (λ rs. IsOptional PATHTYPE path_type_of 0 rs path_type)
    → Begins o4 o5 (λ rs. IsOptional WIDTH (width_of unit) (pos 0) rs width)
    → Begins o5 o6 (λ rs. IsOptional BGNEXTN (extension_of unit) (pos 0) rs begin)
    → Begins o6 o7 (λ rs. IsOptional ENDEXTN (extension_of unit) (pos 0) rs end)
    → field start o7 ≡ Ok (next, rs)
    → path_end start unit layer datatype path_type width begin end next rs ≡ Ok x
    → Begins o1 x.1 (λ rs. DerivesPath unit rs x.0)
path_end_sound start unit o1 o2 o3 o4 o5 o6 o7 layer datatype path_type width begin end next rs x a
    b t w g h n e =
    let c = bind_ok (demanded XY next) _ x e in
    let v = bind_ok (centre_of unit c.0) _ x c.2 in
    let l = bind_ok (expected start ENDEL rs) _ x v.2 in
    let made : Path = record {
      layer = record { layer = short_of layer; datatype = short_of datatype };
      width = width;
      begin = lengthening path_type width begin;
      end = lengthening path_type width end;
      points = v.0;
    } in
    subst (λ (y : Path × List RecordOutcome). Begins o1 y.1 (λ rs. DerivesPath unit rs y.0))
    {x = (made, l.0.1)} (ok_is (made, l.0.1) x l.2) (
    path_parts unit o1 o2 o3 o4 o5 o6 o7 rs l.0.1 layer datatype c.0 l.0.0 path_type width begin end
    v.0 a b t w g h
    (ahead_sound start XY o7 (next, rs) c.0 n c.1)
    v.1
    (expected_sound start ENDEL rs l.0 l.1))

-- path after DATATYPE
abbrev path_rest : (start unit : ℕ) (layer datatype : RawRecord) → RawRecord × List RecordOutcome
    → Reading Path
path_rest start unit layer datatype next = do
  path_type ← optional start PATHTYPE path_type_of 0 next.0 next.1
  width ← optional start WIDTH (width_of unit) (pos 0) path_type.0.1 path_type.1
  begin ← optional start BGNEXTN (extension_of unit) (pos 0) width.0.1 width.1
  end ← optional start ENDEXTN (extension_of unit) (pos 0) begin.0.1 begin.1
  path_end start unit layer datatype path_type.0.0 width.0.0 begin.0.0 end.0.0 end.0.1 end.1

path_rest_sound : (start unit : ℕ) (o1 o2 o3 : List RecordOutcome) (layer datatype : RawRecord)
    (next : RawRecord × List RecordOutcome) (x : Path × List RecordOutcome)
    → Begins o1 o2 (λ rs. IsField LAYER rs layer)
    → Begins o2 o3 (λ rs. IsField DATATYPE rs datatype)
    → field start o3 ≡ Ok next
    → path_rest start unit layer datatype next ≡ Ok x
    → Begins o1 x.1 (λ rs. DerivesPath unit rs x.0)
path_rest_sound start unit o1 o2 o3 layer datatype next x a b n e =
    let t = bind_ok (optional start PATHTYPE path_type_of 0 next.0 next.1)
    (λ path_type. optional start WIDTH (width_of unit) (pos 0) path_type.0.1 path_type.1
    >>= λ width. optional start BGNEXTN (extension_of unit) (pos 0) width.0.1 width.1
    >>= λ begin. optional start ENDEXTN (extension_of unit) (pos 0) begin.0.1 begin.1
    >>= λ end. path_end start unit layer datatype path_type.0.0 width.0.0 begin.0.0 end.0.0
    end.0.1 end.1) x e in
    let w = bind_ok (optional start WIDTH (width_of unit) (pos 0) t.0.0.1 t.0.1)
    (λ width. optional start BGNEXTN (extension_of unit) (pos 0) width.0.1 width.1
    >>= λ begin. optional start ENDEXTN (extension_of unit) (pos 0) begin.0.1 begin.1
    >>= λ end. path_end start unit layer datatype t.0.0.0 width.0.0 begin.0.0 end.0.0 end.0.1
    end.1) x t.2 in
    let g = bind_ok (optional start BGNEXTN (extension_of unit) (pos 0) w.0.0.1 w.0.1)
    (λ begin. optional start ENDEXTN (extension_of unit) (pos 0) begin.0.1 begin.1
    >>= λ end. path_end start unit layer datatype t.0.0.0 w.0.0.0 begin.0.0 end.0.0 end.0.1
    end.1) x w.2 in
    let h = bind_ok (optional start ENDEXTN (extension_of unit) (pos 0) g.0.0.1 g.0.1)
    (λ end. path_end start unit layer datatype t.0.0.0 w.0.0.0 g.0.0.0 end.0.0 end.0.1 end.1) x
    g.2 in
    let lt = optional_sound start PATHTYPE path_type_of 0 o3 next n t.0 t.1 in
    let lw = optional_sound start WIDTH (width_of unit) (pos 0) lt.rest (t.0.0.1, t.0.1) lt.ahead
    w.0 w.1 in
    let lg = optional_sound start BGNEXTN (extension_of unit) (pos 0) lw.rest (w.0.0.1, w.0.1)
    lw.ahead g.0 g.1 in
    let lh = optional_sound start ENDEXTN (extension_of unit) (pos 0) lg.rest (g.0.0.1, g.0.1)
    lg.ahead h.0 h.1 in
    path_end_sound start unit o1 o2 o3 lt.rest lw.rest lg.rest lh.rest layer datatype t.0.0.0
    w.0.0.0 g.0.0.0 h.0.0.0 h.0.0.1 h.0.1 x a b lt.begins lw.begins lg.begins lh.begins lh.ahead
    h.2

pub path_sound : (start unit : ℕ) (all : List RecordOutcome) (x : Path × List RecordOutcome)
    → path start unit all ≡ Ok x → Begins all x.1 (λ rs. DerivesPath unit rs x.0)
unfolding path
path_sound start unit all x e =
    let a = bind_ok (expected start LAYER all) (λ layer. expected start DATATYPE layer.1
    >>= λ datatype. field start datatype.1 >>= path_rest start unit layer.0 datatype.0) x e in
    let b = bind_ok (expected start DATATYPE a.0.1) (λ datatype. field start datatype.1
    >>= path_rest start unit a.0.0 datatype.0) x a.2 in
    let n = bind_ok (field start b.0.1) (path_rest start unit a.0.0 b.0.0) x b.2 in
    path_rest_sound start unit all a.0.1 b.0.1 a.0.0 b.0.0 n.0 x
    (expected_sound start LAYER all a.0 a.1) (expected_sound start DATATYPE a.0.1 b.0 b.1) n.1
    n.2

regroup8 : (a b c d e f g h : List RawRecord) (rest : List RecordOutcome)
    → records_then (a ++ b ++ c ++ d ++ e ++ f ++ g ++ h) rest ≡ records_then a
    (records_then b (records_then c (records_then d
    (records_then e (records_then f (records_then g (records_then h rest)))))))
regroup8 a b c d e f g h rest = simp records_both

pub path_complete : {unit : ℕ} {rs : List RawRecord} {p : Path} → DerivesPath unit rs p
    → (start : ℕ) (rest : List RecordOutcome)
    → path start unit (records_then rs rest) ≡ Ok (p, rest)
unfolding path
path_complete {unit = unit} (DerivesPath.path {layers = ls} {datatypes = ds} {types = ts}
    {widths = ws} {begins = bs} {ends = es} {xys = xs} {lasts = zs} {xy = r} a d t w b e x c l)
    start rest =
    let after_xy : List RecordOutcome = records_then zs rest in
    let after_end : List RecordOutcome = records_then xs after_xy in
    let after_begin : List RecordOutcome = records_then es after_end in
    let after_width : List RecordOutcome = records_then bs after_begin in
    let after_type : List RecordOutcome = records_then ws after_width in
    let after_datatype : List RecordOutcome = records_then ts after_type in
    let fe = optional_complete e start after_end (r, after_xy) (XY ∷ []) refl refl
    (field_ahead x start after_xy refl) in
    let fb =
    optional_complete b start after_begin fe.before (ENDEXTN ∷ XY ∷ []) refl refl fe.ahead in
    let fw = optional_complete w start after_width fb.before (BGNEXTN ∷ ENDEXTN ∷ XY ∷ []) refl refl
    fb.ahead in
    let ft = optional_complete t start after_type fw.before (WIDTH ∷ BGNEXTN ∷ ENDEXTN ∷ XY ∷ [])
    refl refl fw.ahead in
    ap (path start unit) (regroup8 ls ds ts ws bs es xs zs rest)
    ∙ rw (
      expected_complete a start (records_then ds after_datatype) refl,
      expected_complete d start after_datatype refl,
      ft.ahead.reads,
      ft.reads,
      fw.reads,
      fb.reads,
      fe.reads,
      demanded_complete XY r (kind_of x),
      c,
      expected_complete l start rest refl,
    ) refl
