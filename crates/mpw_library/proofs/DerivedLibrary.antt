-- A library is read exactly if its records derive it.
use Rattle.std.proofs.Common.{◌≡◌, ℕ, zero, suc, ◌+◌, Bool, true, false, eqb, ◌||◌, ◌&&◌, not, List, [], ◌∷◌, ◌++◌, length, map, drop, Ok, Err, refl, sym, ap, subst, ◌∙◌, inl, inr}
use Rattle.std.proofs.lemmas.Bool.{eqb-true}
use Rattle.mpw_structures.specs.declared.structures.Structure.{Structure}
use Rattle.mpw_records.specs.declared.kind.TheConstants.{HEADER, BGNLIB, LIBNAME, UNITS, ENDLIB}
use Rattle.mpw_records.specs.Records.{RawRecord, RecordOutcome, told_length, front, is_last, outcomes, outcomes_of}
use Rattle.std.specs.Prelude.{Result, IfOk}
use Rattle.mpw_elements.specs.Reading.{◌>>=◌, GivesValue}
use Rattle.mpw_elements.specs.declared.fault.ReadError.{ReadError}
use Rattle.mpw_elements.specs.Derivation.{Behind, records_then, Begins}
use Rattle.mpw_elements.proofs.DerivedFields.{bind_ok, ok_is, chosen, equals, records_both, parts_both}
use Rattle.mpw_library.specs.Grammar.{next_is, unit_of, ends_head, up_to, head, all_structures, library, library_of}
use Rattle.mpw_library.specs.Derivation.{is_aside, HaveNamesApart, DerivesLibrary, IsTextOf, LibrariesAreDerived, OneDerivation}
use Rattle.mpw_library.proofs.DerivedStructures.{StructuresIn, structures_sound, structures_complete, shorter}
use Rattle.mpw_library.proofs.DerivedItems.{next_is_sound, next_is_complete}

-- ---- the head

-- what is skipped in search of a record of one type, where a record of another type is not allowed
record PassesOver (passed : ℕ → Bool) (wanted unwanted : ℕ) : Type 0 where
  over : (k : ℕ) → eqb k wanted ≡ false → (eqb k unwanted || ends_head k) ≡ false → passed k ≡ true
  not_wanted : (k : ℕ) → passed k ≡ true → eqb k wanted ≡ false
  not_refused : (k : ℕ) → passed k ≡ true → (eqb k unwanted || ends_head k) ≡ false

up_to_sound : (passed : ℕ → Bool) (wanted unwanted : ℕ) → PassesOver passed wanted unwanted
    → (all : List RecordOutcome) (x : RawRecord × List RecordOutcome)
    → up_to wanted unwanted all ≡ Ok x → Begins all x.1 (λ rs. Behind passed wanted rs x.0)
unfolding up_to
up_to_sound passed wanted unwanted p [] x e = absurd cc
up_to_sound passed wanted unwanted p (Err f ∷ all) x e = absurd cc
up_to_sound passed wanted unwanted p (Ok r ∷ all) x e =
    elim (chosen (eqb r.kind wanted) _ _ (Ok x) e) [
      | inl a ↦ subst (λ (y : RawRecord × List RecordOutcome).
          Begins (Ok r ∷ all) y.1 (λ rs. Behind passed wanted rs y.0)) (ok_is (r, all) x a.1)
          (record { records = r ∷ []; parts = refl; told = Behind.here (eqb-true _ _ a.0) })
      | inr a ↦ elim (chosen (eqb r.kind unwanted || ends_head r.kind) _ _ (Ok x) a.1) [
        | inl b ↦ absurd (let h = b.1 in cc)
        | inr b ↦
            let h = up_to_sound passed wanted unwanted p all x b.1 in
            record {
              records = r ∷ h.records;
              parts = ap (λ (os : List RecordOutcome). Ok r ∷ os)
                  h.parts;
              told = Behind.over (p.over r.kind a.0 b.0) h.told;
            }
      ]
    ]

up_to_complete : {passed : ℕ → Bool} {wanted : ℕ} {rs : List RawRecord} {r : RawRecord}
    → Behind passed wanted rs r → (unwanted : ℕ) → PassesOver passed wanted unwanted
    → (rest : List RecordOutcome) → up_to wanted unwanted (records_then rs rest) ≡ Ok (r, rest)
unfolding up_to
up_to_complete {wanted = wanted} {r = r} (Behind.here e) unwanted p rest =
    rw (equals r.kind wanted e) refl
up_to_complete (Behind.over {s = s} k d) unwanted p rest =
    rw (p.not_wanted s.kind k, p.not_refused s.kind k) (up_to_complete d unwanted p rest)

aside_of : (a b c : Bool) → a ≡ false → (b || c) ≡ false → (not a && not b && not c) ≡ true
aside_of true b c p q = absurd cc
aside_of false true c p q = absurd cc
aside_of false false true p q = absurd cc
aside_of false false false p q = refl

aside_is : (a b c : Bool) → (not a && not b && not c) ≡ true → (a ≡ false) × (b ≡ false)
    × (c ≡ false)
aside_is true b c p = absurd cc
aside_is false true c p = absurd cc
aside_is false false true p = absurd cc
aside_is false false false p = (refl, refl, refl)

swapped : (a b c : Bool) → (not a && not b && not c) ≡ (not b && not a && not c)
swapped true true c = refl
swapped true false c = refl
swapped false true c = refl
swapped false false c = refl

neither : (b c : Bool) → b ≡ false → c ≡ false → (b || c) ≡ false
neither b c p q = rw (p, q) refl

to_libname : PassesOver is_aside LIBNAME UNITS
to_libname = record {
  over = λ k p q. aside_of (eqb k LIBNAME) (eqb k UNITS) (ends_head k) p q;
  not_wanted = λ k h. (aside_is (eqb k LIBNAME) (eqb k UNITS) (ends_head k) h).0;
  not_refused = λ k h. let a = aside_is (eqb k LIBNAME) (eqb k UNITS) (ends_head k) h in
      neither (eqb k UNITS) (ends_head k) a.1 a.2;
}

to_units : PassesOver is_aside UNITS LIBNAME
to_units = record {
  over = λ k p q. swapped (eqb k LIBNAME) (eqb k UNITS) (ends_head k)
      ∙ aside_of (eqb k UNITS) (eqb k LIBNAME) (ends_head k) p q;
  not_wanted = λ k h. (aside_is (eqb k LIBNAME) (eqb k UNITS) (ends_head k) h).1;
  not_refused = λ k h. let a = aside_is (eqb k LIBNAME) (eqb k UNITS) (ends_head k) h in
      neither (eqb k LIBNAME) (ends_head k) a.0 a.2;
}

-- the records of a head
pub record HeadIn (all : List RecordOutcome) (x : ℕ × List RecordOutcome) : Type 0 where
  pub rest : List RecordOutcome
  pub libname : RawRecord
  pub units : RawRecord
  pub to_name : Begins all rest (λ rs. Behind is_aside LIBNAME rs libname)
  pub to_unit : Begins rest x.1 (λ rs. Behind is_aside UNITS rs units)
  pub unit : unit_of units ≡ Ok x.0

pub head_sound : (all : List RecordOutcome) (x : ℕ × List RecordOutcome) → head all ≡ Ok x
    → HeadIn all x
unfolding head
head_sound all x e =
    let a = bind_ok (up_to LIBNAME UNITS all) _ x e in
    let b = bind_ok (up_to UNITS LIBNAME a.0.1) _ x a.2 in
    let u = bind_ok (unit_of b.0.0) _ x b.2 in
    subst (HeadIn all) (ok_is (u.0, b.0.1) x u.2) (record {
      rest = a.0.1;
      libname = a.0.0;
      units = b.0.0;
      to_name = up_to_sound is_aside LIBNAME UNITS to_libname all a.0 a.1;
      to_unit = up_to_sound is_aside UNITS LIBNAME to_units a.0.1 b.0 b.1;
      unit = u.1;
    })

head_complete : {to_name to_unit : List RawRecord} {libname units : RawRecord} {unit : ℕ}
    → Behind is_aside LIBNAME to_name libname → Behind is_aside UNITS to_unit units
    → unit_of units ≡ Ok unit
    → (rest : List RecordOutcome) → head (records_then to_name (records_then to_unit rest))
    ≡ Ok (unit, rest)
unfolding head
head_complete {to_unit = us} a b u rest =
    rw (
      up_to_complete a UNITS to_libname (records_then us rest),
      up_to_complete b LIBNAME to_units
          rest,
      u,
    ) refl

-- ---- the library

-- the records of a library, and what comes after ENDLIB
pub record LibraryIn (all : List RecordOutcome) (x : List Structure × List RecordOutcome) :
    Type 0 where
  pub before_end : List RawRecord
  pub end : RawRecord
  pub parts : all ≡ records_then before_end (Ok end ∷ x.1)
  pub last : end.kind ≡ ENDLIB
  pub derived : DerivesLibrary (before_end ++ end ∷ []) x.0

pub library_parts : (o1 o2 o3 o4 : List RecordOutcome) (header begin : RawRecord) (unit : ℕ)
    (ss : List Structure)
    → o1 ≡ Ok header ∷ o2 → header.kind ≡ HEADER → o2 ≡ Ok begin ∷ o3 → begin.kind ≡ BGNLIB
    → HeadIn o3 (unit, o4) → (rest : List RecordOutcome) → StructuresIn unit [] o4 (ss, rest)
    → LibraryIn o1 (ss, rest)
library_parts o1 o2 o3 o4 header begin unit ss p1 k1 p2 k2 h rest found =
    let s = found.in_order in
    let a : o3 ≡ records_then (h.to_name.records ++ h.to_unit.records ++ s.records)
    (Ok s.end ∷ rest) = parts_both o3 o4 (Ok s.end ∷ rest)
    (h.to_name.records ++ h.to_unit.records) s.records
    (parts_both o3 h.rest o4 h.to_name.records h.to_unit.records h.to_name.parts
    h.to_unit.parts) s.parts in
    subst (λ (l : List Structure). LibraryIn o1 (l, rest)) (sym s.total) (record {
      before_end = header ∷ begin ∷ h.to_name.records ++ h.to_unit.records ++ s.records;
      end = s.end;
      parts = p1 ∙ ap (λ (os : List RecordOutcome). Ok header ∷ os)
          (p2 ∙ ap (λ (os : List RecordOutcome). Ok begin ∷ os) a);
      last = s.last;
      derived = DerivesLibrary.library s.end k1 k2 h.to_name.told h.to_unit.told h.unit s.derived
          (subst HaveNamesApart s.total (found.apart tt)) s.last;
    })

library_sound : (all : List RecordOutcome) (ss : List Structure) → library all ≡ Ok ss
    → (rest : List RecordOutcome) × LibraryIn all (ss, rest)
unfolding library
library_sound all ss e =
    let a = bind_ok (next_is HEADER all) (λ header. next_is BGNLIB header.1
    >>= λ begin. head begin.1 >>= λ unit. all_structures unit.0 unit.1
    >>= λ structures. Ok structures.0) ss e in
    let b = bind_ok (next_is BGNLIB a.0.1)
    (λ begin. head begin.1 >>= λ unit. all_structures unit.0 unit.1
    >>= λ structures. Ok structures.0) ss a.2 in
    let u = bind_ok (head b.0.1) (λ unit. all_structures unit.0 unit.1
    >>= λ structures. Ok structures.0) ss b.2 in
    let s = bind_ok (all_structures u.0.0 u.0.1) (λ structures. Ok structures.0) ss u.2 in
    let pa = next_is_sound HEADER all a.0 a.1 in
    let pb = next_is_sound BGNLIB a.0.1 b.0 b.1 in
    let h = head_sound b.0.1 u.0 u.1 in (
      s.0.1,
      subst (λ (l : List Structure). LibraryIn all (l, s.0.1)) {x = s.0.0}
          (ok_is s.0.0 ss s.2) (library_parts all a.0.1 b.0.1 u.0.1 a.0.0 b.0.0 u.0.0 s.0.0 pa.0
          pa.1
          pb.0 pb.1 h s.0.1 (structures_sound (length u.0.1) u.0.0 [] u.0.1 s.0 s.1)),
    )

pub library_complete : {rs : List RawRecord} {ss : List Structure} → DerivesLibrary rs ss
    → (rest : List RecordOutcome) → library (records_then rs rest) ≡ Ok ss
unfolding library
library_complete {ss = ss} (DerivesLibrary.library {header = header} {begin = begin} end
    {to_name = ns} {to_units = us} {rs = rs} {unit = unit} k1 k2 a b u d apart k3) rest =
    let after_head : List RecordOutcome = records_then rs (Ok end ∷ rest) in
    let after_begin : List RecordOutcome = records_then ns (records_then us after_head) in
    let regrouped : records_then (ns ++ us ++ rs ++ end ∷ []) rest ≡ after_begin =
    records_both (ns ++ us ++ rs) (end ∷ []) rest ∙ records_both (ns ++ us) rs (Ok end ∷ rest)
    ∙ records_both ns us after_head in
    ap (λ (os : List RecordOutcome). library (Ok header ∷ Ok begin ∷ os)) regrouped
    ∙ rw (
      next_is_complete HEADER header (Ok begin ∷ after_begin) k1,
      next_is_complete BGNLIB begin
          after_begin k2,
      head_complete a b u after_head,
      structures_complete d (length after_head) []
          end rest k3 apart (shorter rs (Ok end) rest),
    ) refl

-- ---- the text

head_is : (o p : RecordOutcome) (os ps : List RecordOutcome) → o ∷ os ≡ p ∷ ps → (o ≡ p) × (os ≡ ps)
head_is o p os ps e = (cc, cc)

not_empty : (rs : List RawRecord) (end : RawRecord) (rest : List RecordOutcome)
    → [] ≡ records_then rs (Ok end ∷ rest) → ⊥
not_empty [] end rest e = cc
not_empty (r ∷ rs) end rest e = cc

-- nothing is read after ENDLIB
last_record : (most : ℕ) (text : List ℕ) (offset : ℕ) (rs : List RawRecord) (end : RawRecord)
    (rest : List RecordOutcome) → end.kind ≡ ENDLIB
    → outcomes most text offset ≡ records_then rs (Ok end ∷ rest) → rest ≡ []
unfolding outcomes
last_record zero text offset rs end rest k e = absurd (not_empty rs end rest e)
last_record (suc most) text offset [] end rest k e =
    let h = head_is (front text offset) (Ok end) _ rest e in
    let last : is_last (front text offset) ≡ true = ap is_last h.0 ∙ equals end.kind ENDLIB k in
    sym h.1 ∙ rw last refl
last_record (suc most) text offset (r ∷ rs) end rest k e =
    let h = head_is (front text offset) (Ok r) _ (records_then rs (Ok end ∷ rest)) e in
    elim (chosen (is_last (front text offset)) []
    (outcomes most text (offset + told_length (drop offset text)))
    (records_then rs (Ok end ∷ rest)) h.1) [
      | inl p ↦ absurd (not_empty rs end rest p.1)
      | inr p ↦ last_record most text (offset + told_length (drop offset text)) rs end rest k p.1
    ]

all_ok : (rs : List RawRecord) → records_then rs [] ≡ map (λ r. Ok r) rs
all_ok [] = refl
all_ok (r ∷ rs) = ap (λ (os : List RecordOutcome). Ok r ∷ os) (all_ok rs)

text_of : (text : List ℕ) (ss : List Structure) (rest : List RecordOutcome)
    → LibraryIn (outcomes_of text) (ss, rest) → IsTextOf text ss
text_of text ss rest h =
    let nothing : rest ≡ [] = last_record (suc (length text)) text 0 h.before_end h.end rest h.last
    h.parts in
    record {
      records = h.before_end ++ h.end ∷ [];
      whole = h.parts ∙ ap (λ (os : List RecordOutcome). records_then h.before_end (Ok h.end ∷ os))
          nothing ∙ sym (records_both h.before_end (h.end ∷ []) [])
          ∙ all_ok (h.before_end ++ h.end ∷ []);
      derived = h.derived;
    }

pub libraries_are_derived : LibrariesAreDerived
libraries_are_derived text ss = (
  λ e. let h = library_sound (outcomes_of text) ss e in text_of text ss h.0 h.1,
  λ h. ap library (h.whole ∙ sym (all_ok h.records)) ∙ library_complete h.derived [],
)

pub derived_once : OneDerivation
derived_once rs ss others d e =
    ok_is ss others (sym (library_complete d []) ∙ library_complete e [])

-- what reading gives is what the syntax derives
pub text_of_read : (text : List ℕ) (result : Result (List Structure) ReadError)
    → GivesValue (λ ss. ss) result (library_of text) → IfOk result (IsTextOf text)
text_of_read text (Ok ss) e = (libraries_are_derived text ss).0 e
text_of_read text (Err e) f = tt
