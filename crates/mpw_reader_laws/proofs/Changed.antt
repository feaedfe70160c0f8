-- What is reported of a good text that is cut off, or in which a record is changed.
use Rattle.std.proofs.Common.{Bool, true, false, cond, eqb, ltb, ◌||◌}
use Rattle.std.proofs.Common.{◌≡◌, ℕ, ◌+◌, ◌-◌, ◌*◌, ◌%◌, ◌<◌, ◌≤◌, List, [], ◌∷◌, ◌++◌, length, map, drop, take, Option, Some, Result, Ok, Err, refl, sym, ap, subst, ◌∙◌, inl, inr, arith, length-drop, length-take, take-append-drop, take-take}
use Rattle.std.specs.Prelude.{◌⊎◌, slice_index}
use Rattle.std.proofs.lemmas.Bool.{le-ltb, lt-ltb, ltb-true, ltb-false}
use Rattle.std.proofs.lemmas.List.{append-nil, drop-append-le, take-append-le, drop_all, take_all}
use Rattle.mpw_structures.specs.declared.structures.Structure.{Structure}
use Rattle.mpw_records.specs.declared.fault.Code.{Code}
use Rattle.mpw_records.specs.declared.fault.Code.TheVariants.{Short, BadLength}
use Rattle.mpw_records.specs.declared.fault.ReadFault.{ReadFault}
use Rattle.mpw_records.specs.declared.kind.TheConstants.{ENDLIB}
use Rattle.mpw_records.specs.Format.{data_fault}
use Rattle.mpw_records.specs.Records.{RawRecord, RecordOutcome, told_length, first_fault, record_of, unless_fault, front, outcomes_of, outcomes_from}
use Rattle.mpw_records.proofs.Fronts.{step_ok, step_err}
use Rattle.mpw_elements.specs.Derivation.{records_then}
use Rattle.mpw_elements.proofs.DerivedFields.{records_both, equals}
use Rattle.mpw_library.specs.Grammar.{library, library_of}
use Rattle.mpw_library.specs.Derivation.{DerivesLibrary, IsTextOf}
use Rattle.mpw_library.proofs.DerivedLibrary.{libraries_are_derived}
use Rattle.mpw_reader_laws.specs.Changed.{HasRecord, IsRefused, ChangedRecordsAreTold, IsCutShort, IsCutBehind, FrontsAreShort, with_length, LengthsAreTested}
use Rattle.mpw_reader_laws.proofs.Libraries.{Course, whole, library_course}
use Rattle.mpw_reader_laws.proofs.Items.{Tells}
use Rattle.mpw_reader_laws.proofs.Texts.{checks, is_odd, passed, told_same, RecordAt, record_at, place, place_behind, behind_record, onward, some_behind, Stands, stands, front_same, records_same}

-- before the first record
abbrev pub nothing_yet : RawRecord
nothing_yet = record { offset = 0; kind = 0; data_type = 0; bytes = [] }

-- ENDLIB is the last of a text's records
pub nothing_behind : (text : List ℕ) (taken : List RawRecord) (e : RawRecord)
    (after : List RawRecord) (o : RecordOutcome) (rest : List RecordOutcome) → e.kind ≡ ENDLIB
    → outcomes_of text ≡ records_then (taken ++ e ∷ after) (o ∷ rest) → ⊥
nothing_behind text taken e after o rest last parts =
    let s =
    stands text 0 taken (Ok e) (records_then after (o ∷ rest)) (omega arith)
    (parts ∙ records_both taken (e ∷ after) (o ∷ rest)) in
    let b =
    behind_record text (place 0 taken) e (records_then after (o ∷ rest)) s.within s.tail in
    let k = onward (eqb e.kind ENDLIB) _ (records_then after (o ∷ rest)) b.others
    (some_behind after o rest) in
    let f = sym k.0 ∙ equals e.kind ENDLIB last in cc

pub read_so : (os : List RecordOutcome) (told : Result (List Structure) ReadFault)
    → Tells whole os told → library os ≡ told
read_so os told t = t (length os) (omega arith)

-- the reader of a good text waits after each front of its records
pub waits_there : (text : List ℕ) (ss : List Structure) (before : List RawRecord)
    (o : RecordOutcome) (rest : List RecordOutcome) → library_of text ≡ Ok ss
    → outcomes_of text ≡ records_then before (o ∷ rest)
    → (g : ReadFault) (os : List RecordOutcome)
    → library (records_then before (Err g ∷ os)) ≡ Err g
waits_there text ss before o rest good parts g os = go (library_course nothing_yet before)
  where
    go : Course whole nothing_yet before → library (records_then before (Err g ∷ os)) ≡ Err g
    go (Course.inside a b) = read_so (records_then before (Err g ∷ os)) (Err g) (a g os)
    go (Course.between a b x c) = read_so (records_then before (Err g ∷ os)) (Err g) (a g os)
    go (Course.fails first after is f at e) =
        let k =
        sym good ∙ ap library (parts ∙ ap (λ (l : List RawRecord). records_then l (o ∷ rest)) is
        ∙ records_both first after (o ∷ rest))
        ∙ read_so (records_then first (records_then after (o ∷ rest))) (Err f)
        (e (records_then after (o ∷ rest))) in
        absurd cc
    go (Course.ends taken after e is last x k) =
        absurd
        (nothing_behind text taken e after o rest last
        (parts ∙ ap (λ (l : List RawRecord). records_then l (o ∷ rest)) is))

-- where a record of a text begins
pub record_starts : (text : List ℕ) (r : RawRecord) (h : HasRecord text r)
    → Stands text 0 h.before (Ok r) h.behind × RecordAt text (place 0 h.before) r
record_starts text r h =
    let s = stands text 0 h.before (Ok r) h.behind (omega arith) h.parts in
    (s, record_at text (place 0 h.before) r s.within s.is)

-- the records before are those of the good text
pub changed_parts : (text changed : List ℕ) (r : RawRecord) (has : HasRecord text r)
    → take r.offset changed ≡ take r.offset text
    → outcomes_of changed ≡ records_then has.before (outcomes_from changed r.offset)
changed_parts text changed r has same =
    let s = record_starts text r has in
    let q : r.offset ≡ place 0 has.before = s.1.offset in
    let cut : take r.offset text ++ drop r.offset text ≡ text = take-append-drop r.offset text in
    let other : take r.offset text ++ drop r.offset changed ≡ changed =
    ap (λ (l : List ℕ). l ++ drop r.offset changed) (sym same)
    ∙ take-append-drop r.offset changed in
    let long = length-take r.offset text in
    let within = s.0.within in
    let records =
    records_same (take r.offset text) (drop r.offset text) (drop r.offset changed) 0 has.before
    (Ok r) has.behind (omega arith)
    (ap (λ (l : List ℕ). outcomes_of l) cut ∙ has.parts) (omega (arith, q, long, within)) in
    subst (λ (l : List ℕ). outcomes_of l ≡ records_then has.before (outcomes_from l r.offset))
    other
    (subst (λ (p : ℕ). outcomes_from (take r.offset text ++ drop r.offset changed) 0
    ≡ records_then has.before (outcomes_from (take r.offset text ++ drop r.offset changed) p))
    (sym q) records)

pub changed_records_are_told : ChangedRecordsAreTold
changed_records_are_told text changed ss r fault good has same there =
    ap library
    (changed_parts text changed r has same
    ∙ ap (records_then has.before) (step_err changed r.offset fault there))
    ∙ waits_there text ss has.before (Ok r) has.behind good has.parts fault []

-- ---- a text cut off

pub told_there : (bytes : List ℕ) (offset : ℕ) (code : Code) → first_fault bytes ≡ Some code
    → unless_fault (first_fault bytes) (record_of offset bytes)
    ≡ Err (record { code = code; offset = offset })
told_there bytes offset code e =
    ap (λ (o : Option Code). unless_fault o (record_of offset bytes)) e

short_checks : (short odd past : Bool) (rest : Option Code) → short ≡ false → odd ≡ false
    → past ≡ true → checks short odd past rest ≡ Some Short
short_checks short odd past rest a b c = rw (a, b, c) refl

too_short : (short odd past : Bool) (rest : Option Code) → short ≡ true
    → checks short odd past rest ≡ Some Short
too_short short odd past rest a = rw a refl

bad_checks : (short odd past : Bool) (rest : Option Code) → short ≡ false → odd ≡ true
    → checks short odd past rest ≡ Some BadLength
bad_checks short odd past rest a b = rw (a, b) refl

module _ (bytes : List ℕ) where
  is_short : length bytes < 4 → first_fault bytes ≡ Some Short
  is_short lt =
      too_short (ltb (length bytes) 4) (is_odd (told_length bytes))
      (ltb (length bytes) (told_length bytes))
      (data_fault (slice_index bytes 2) (slice_index bytes 3) (told_length bytes - 4))
      (lt-ltb (length bytes) 4 lt)

  is_past : 4 ≤ length bytes → is_odd (told_length bytes) ≡ false
      → length bytes < told_length bytes → first_fault bytes ≡ Some Short
  is_past le even lt =
      short_checks (ltb (length bytes) 4) (is_odd (told_length bytes))
      (ltb (length bytes) (told_length bytes))
      (data_fault (slice_index bytes 2) (slice_index bytes 3) (told_length bytes - 4))
      (le-ltb (length bytes) 4 le) even (lt-ltb (length bytes) (told_length bytes) lt)

  is_bad : 4 ≤ length bytes → is_odd (told_length bytes) ≡ true
      → first_fault bytes ≡ Some BadLength
  is_bad le odd =
      bad_checks (ltb (length bytes) 4) (is_odd (told_length bytes))
      (ltb (length bytes) (told_length bytes))
      (data_fault (slice_index bytes 2) (slice_index bytes 3) (told_length bytes - 4))
      (le-ltb (length bytes) 4 le) odd

front_short : (text : List ℕ) (q : ℕ) (r : RawRecord) (n : ℕ) → RecordAt text q r → q ≤ n
    → n < q + (4 + length r.bytes) → front (take n text) q ≡ Err (record {
      code = Short;
      offset = q;
    })
front_short text q r n a le lt =
    told_there (drop q (take n text)) q Short (go (ltb (length (drop q (take n text))) 4) refl)
  where
    bytes : List ℕ
    bytes = drop q (take n text)

    long : length bytes ≡ n - q
    long =
        let w = a.within in
        let t = length-take n text in omega (arith, length-drop q (take n text), t, w, lt)

    together : drop q text ≡ bytes ++ drop n text
    together =
        let w = a.within in
        let t = length-take n text in
        ap (drop q) (sym (take-append-drop n text))
        ∙ drop-append-le q (take n text) (drop n text) (omega (arith, t, w, lt, le))

    go : (b : Bool) → ltb (length bytes) 4 ≡ b → first_fault bytes ≡ Some Short
    go true e = is_short bytes (ltb-true (length bytes) 4 e)
    go false e =
        let four = ltb-false (length bytes) 4 e in
        let told : told_length (drop q text) ≡ told_length bytes =
        ap told_length together ∙ told_same bytes (drop n text) four in
        let even = (passed (drop q text) a.no_fault).not_odd in
        let t = a.told in
        is_past bytes four (ap is_odd (sym told) ∙ even) (omega (arith, told, t, long, lt, le))

-- ---- the record that a place is in

record Found (p : ℕ) (rs : List RawRecord) (n : ℕ) : Type 0 where
  before : List RawRecord
  r : RawRecord
  after : List RawRecord
  is : rs ≡ before ++ r ∷ after
  begins : place p before ≤ n
  ends : n < place p before + (4 + length r.bytes)

find_record : (p : ℕ) (rs : List RawRecord) (n : ℕ) → p ≤ n → (place p rs ≤ n) ⊎ Found p rs n
find_record p [] n le = inl le
find_record p (r ∷ rs) n le =
    go (ltb n (p + (4 + length r.bytes))) refl (λ k. find_record (p + (4 + length r.bytes)) rs n k)
  where
    go : (b : Bool) → ltb n (p + (4 + length r.bytes)) ≡ b
        → (p + (4 + length r.bytes) ≤ n → (place (p + (4 + length r.bytes)) rs ≤ n)
        ⊎ Found (p + (4 + length r.bytes)) rs n)
        → (place p (r ∷ rs) ≤ n) ⊎ Found p (r ∷ rs) n
    go true e more = inr (record {
      before = [];
      r = r;
      after = rs;
      is = refl;
      begins = le;
      ends = ltb-true n (p + (4 + length r.bytes)) e;
    })
    go false e more =
        elim (more (ltb-false n (p + (4 + length r.bytes)) e)) [
          | inl k ↦ inl k
          | inr f ↦ inr (record {
            before = r ∷ f.before;
            r = f.r;
            after = f.after;
            is = ap (λ (l : List RawRecord). r ∷ l) f.is;
            begins = f.begins;
            ends = f.ends;
          })
        ]

-- ---- the last record of a good text

record Closed (rs : List RawRecord) : Type 0 where
  before : List RawRecord
  end : RawRecord
  is : rs ≡ before ++ end ∷ []
  last : end.kind ≡ ENDLIB

closed : {rs : List RawRecord} {ss : List Structure} → DerivesLibrary rs ss → Closed rs
closed (DerivesLibrary.library {header = header} {begin = begin} end {to_name = ns}
    {to_units = us} {rs = rs} k1 k2 a b u d apart k3) = record {
      before = header ∷ begin ∷ ns ++ us ++ rs;
      end = end;
      is = refl;
      last = k3;
    }

pub all_ok : (rs : List RawRecord) → map (λ r. Ok r) rs ≡ records_then rs []
all_ok [] = refl
all_ok (r ∷ rs) = ap (λ (os : List RecordOutcome). Ok r ∷ os) (all_ok rs)

-- a record of a good text, by its index among them
has_record : (text : List ℕ) (rs before : List RawRecord) (r : RawRecord) (after : List RawRecord)
    → outcomes_of text ≡ map (λ r. Ok r) rs → rs ≡ before ++ r ∷ after → HasRecord text r
has_record text rs before r after whole is = record {
  before = before;
  behind = records_then after [];
  parts =
      whole ∙ all_ok rs ∙ ap (λ (l : List RawRecord). records_then l []) is
      ∙ records_both before (r ∷ after) [];
}

module _ (text : List ℕ) (ss : List Structure) (n : ℕ) (good : library_of text ≡ Ok ss)
    (t : IsTextOf text ss) where
  cut_short : Found 0 t.records n → IsCutShort text n
  unfolding has_record
  cut_short f =
      let has = has_record text t.records f.before f.r f.after t.whole f.is in
      let s = record_starts text f.r has in
      let q : f.r.offset ≡ place 0 f.before = s.1.offset in
      let b = f.begins in
      let e = f.ends in
      let at : RecordAt text f.r.offset f.r =
      subst (λ (p : ℕ). RecordAt text p f.r) (sym q) s.1 in
      record {
        r = f.r;
        has = has;
        begins = omega (arith, q, b);
        ends = omega (arith, q, e);
        short =
            changed_records_are_told text (take n text) ss f.r
            (record { code = Short; offset = f.r.offset }) good has
            (take-take f.r.offset n text (omega (arith, q, b)))
            (front_short text f.r.offset f.r n at (omega (arith, q, b)) (omega (arith, q, e)));
      }

  cut_behind : Closed t.records → place 0 t.records ≤ n → IsCutBehind text n ss
  unfolding has_record
  cut_behind c le =
      let has = has_record text t.records c.before c.end [] t.whole c.is in
      let s = record_starts text c.end has in
      let q : c.end.offset ≡ place 0 c.before = s.1.offset in
      let w = s.1.within in
      let to_end : place 0 t.records ≡ place 0 c.before + (4 + length c.end.bytes) =
      ap (place 0) c.is ∙ place_behind 0 c.before (c.end ∷ []) in
      let long = length-take n text in
      let cut : take n text ++ drop n text ≡ text = take-append-drop n text in
      let none : take n text ++ [] ≡ take n text = append-nil (take n text) in
      let records =
      records_same (take n text) (drop n text) [] 0 c.before (Ok c.end) [] (omega arith)
      (ap (λ (l : List ℕ). outcomes_of l) cut ∙ has.parts)
      (omega (arith, long, w, to_end, le)) in
      let one_long = ap length cut in
      let stands_there =
      front_same (take n text) (drop n text) [] (place 0 c.before) c.end
      (omega (arith, one_long, w))
      (ap (λ (l : List ℕ). front l (place 0 c.before)) cut ∙ s.0.is)
      (omega (arith, long, w, to_end, le)) in
      let none_long = ap length none in
      let last_step =
      step_ok (take n text ++ []) (place 0 c.before) c.end
      (omega (arith, none_long, long, w, to_end, le)) stands_there in
      let last : eqb c.end.kind ENDLIB ≡ true = equals c.end.kind ENDLIB c.last in
      let ended : outcomes_from (take n text ++ []) (place 0 c.before) ≡ Ok c.end ∷ [] =
      last_step
      ∙ ap (λ (b : Bool). Ok c.end ∷ cond b []
      (outcomes_from (take n text ++ []) (place 0 c.before + (4 + length c.end.bytes)))) last in
      let all : outcomes_of (take n text) ≡ outcomes_of text =
      ap (λ (l : List ℕ). outcomes_of l) (sym none) ∙ records
      ∙ ap (records_then c.before) ended ∙ sym has.parts in
      record {
        r = c.end;
        has = has;
        last = c.last;
        ends = omega (arith, q, to_end, le);
        same = ap library all ∙ good;
      }

pub fronts_are_short : FrontsAreShort
fronts_are_short text ss n good =
    let t = (libraries_are_derived text ss).0 good in
    elim (find_record 0 t.records n (omega arith)) [
      | inl le ↦ inr (cut_behind text ss n good t (closed t.derived) le)
      | inr f ↦ inl (cut_short text ss n good t f)
    ]

-- ---- another length

module _ (text : List ℕ) (ss : List Structure) (r : RawRecord) (high low : ℕ)
    (good : library_of text ≡ Ok ss) (has : HasRecord text r) where
  abbrev others : List ℕ
  others = drop (r.offset + 2) text

  abbrev changed : List ℕ
  changed = with_length text r.offset high low

  within : r.offset + 4 ≤ length text
  within =
      let s = record_starts text r has in
      let q = s.1.offset in
      let w = s.1.within in omega (arith, q, w)

  long : length (take r.offset text) ≡ r.offset
  long = let w = within in omega (arith, length-take r.offset text, w)

  there : drop r.offset changed ≡ high ∷ low ∷ others
  there =
      drop-append-le r.offset (take r.offset text) (high ∷ low ∷ others) (omega (arith, long))
      ∙ ap (λ (l : List ℕ). l ++ high ∷ low ∷ others)
      (drop_all r.offset (take r.offset text) (omega (arith, long)))

  same : take r.offset changed ≡ take r.offset text
  same =
      take-append-le r.offset (take r.offset text) (high ∷ low ∷ others) (omega (arith, long))
      ∙ take_all r.offset (take r.offset text) (omega (arith, long))

  four : 4 ≤ length (high ∷ low ∷ others)
  four = let w = within in omega (arith, length-drop (r.offset + 2) text, w)

  refused : (code : Code) → first_fault (high ∷ low ∷ others) ≡ Some code
      → IsRefused changed code r.offset
  refused code e =
      changed_records_are_told text changed ss r (record { code = code; offset = r.offset }) good
      has same
      (told_there (drop r.offset changed) r.offset code (ap first_fault there ∙ e))

  spelled : told_length (high ∷ low ∷ others) ≡ high * 256 + low
  spelled = omega arith

odd_of : (told : ℕ) → (told < 4) ⊎ (told % 2 ≡ 1) → is_odd told ≡ true
odd_of told (inl lt) = ap (λ (b : Bool). b || eqb (told % 2) 1) (lt-ltb told 4 lt)
odd_of told (inr e) = or_true (ltb told 4) (eqb (told % 2) 1) (equals (told % 2) 1 e)
  where
    or_true : (a b : Bool) → b ≡ true → (a || b) ≡ true
    or_true true b e = refl
    or_true false b e = e

even_of : (told : ℕ) → 4 ≤ told → told % 2 ≡ 0 → is_odd told ≡ false
even_of told le e =
    ap (λ (b : Bool). b || eqb (told % 2) 1) (le-ltb told 4 le)
    ∙ ap (λ (n : ℕ). eqb n 1) e

pub lengths_are_tested : LengthsAreTested
lengths_are_tested text ss r high low good has = (
  λ odd.
      let told = spelled text ss r high low good has in
      refused text ss r high low good has BadLength
      (is_bad (high ∷ low ∷ drop (r.offset + 2) text) (four text ss r high low good has)
      (ap is_odd told ∙ odd_of (high * 256 + low) odd)),
  λ le even lt.
      let told = spelled text ss r high low good has in
      let w = within text ss r high low good has in
      refused text ss r high low good has Short
      (is_past (high ∷ low ∷ drop (r.offset + 2) text) (four text ss r high low good has)
      (ap is_odd told ∙ even_of (high * 256 + low) le even)
      (omega (arith, told, lt, w, length-drop (r.offset + 2) text))),
)
