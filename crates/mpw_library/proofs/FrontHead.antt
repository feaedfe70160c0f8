-- What comes before the structures of a library refuses at the first record with which nothing
-- continues.
use Rattle.std.proofs.Common.{◌≡◌, ℕ, zero, suc, ◌+◌, ◌≤◌, Bool, true, false, cond, eqb, ◌||◌, List, [], ◌∷◌, drop, Option, Some, None, Ok, Err, refl, sym, ap, ◌∙◌, arith}
use Rattle.std.specs.List.{find, range_with_len}
use Rattle.std.proofs.lemmas.Bool.{eqb-true}
use Rattle.mpw_records.specs.declared.fault.Code.TheVariants.{Unexpected, Unit as BadUnit}
use Rattle.mpw_records.specs.declared.fault.ReadFault.{ReadFault}
use Rattle.mpw_records.specs.declared.kind.TheConstants.{HEADER, BGNLIB, LIBNAME, UNITS, ENDLIB}
use Rattle.mpw_records.specs.Format.{data_fault}
use Rattle.mpw_records.specs.Records.{RawRecord, RecordOutcome}
use Rattle.std.specs.Prelude.{ℤ, pos, negsuc}
use Rattle.mpw_real8.specs.Real.{real_value, first_near, nanometres, is_nanometres}
use Rattle.mpw_elements.specs.Reading.{Reading, ◌>>=◌, fault_at}
use Rattle.mpw_elements.proofs.DerivedFields.{bind_ok}
use Rattle.mpw_library.specs.Fronts.{is_formed}
use Rattle.mpw_library.specs.Grammar.{next_is, unit_or_fault, unit_of, ends_head, up_to, head, all_structures, library}
use Rattle.mpw_library.proofs.DerivedLibrary.{HeadIn, head_sound}
use Rattle.mpw_library.proofs.DerivedItems.{next_is_sound}
use Rattle.mpw_library.proofs.Refusals.{unexpected_at, IsEnded, Completes, Refuses, Reads, Local, Any, IsOfValue, then_local, then_completes, done_local, done_completes, tested_local, tested_completes}
use Rattle.mpw_library.proofs.Fields.{cons_reads, cons_refuses, here_refuses, cons_completes}
use Rattle.mpw_library.proofs.FrontShapes.{never, ok_own}
use Rattle.mpw_library.proofs.FrontStructures.{next_completes, next_local}
use Rattle.mpw_library.proofs.Samples.{sample}

-- ---- the head

or_right : (a b : Bool) → (a || b) ≡ false → b ≡ false
or_right true b e = absurd cc
or_right false b e = e

inside_head : (kind : ℕ) → ends_head kind ≡ false → eqb kind ENDLIB ≡ false
inside_head kind e = go (eqb kind ENDLIB) refl
  where
    go : (b : Bool) → eqb kind ENDLIB ≡ b → eqb kind ENDLIB ≡ false
    go true p = absurd (let k = sym e ∙ ap ends_head (eqb-true _ _ p) in cc)
    go false p = p

module _ (wanted unwanted : ℕ) (c : RawRecord) (is : c.kind ≡ wanted)
    (same_kind : eqb c.kind wanted ≡ true) (formed : is_formed c ≡ true)
    (inner : eqb wanted ENDLIB ≡ false) where
  wanted_same : (r : RawRecord) → eqb r.kind wanted ≡ true → (os : List RecordOutcome)
      → up_to wanted unwanted (Ok r ∷ os) ≡ Ok (r, os)
  unfolding up_to
  wanted_same r h os = rw h refl

  refused_same : (r : RawRecord) → eqb r.kind wanted ≡ false
      → (eqb r.kind unwanted || ends_head r.kind) ≡ true → (os : List RecordOutcome)
      → up_to wanted unwanted (Ok r ∷ os) ≡ Err (fault_at Unexpected r)
  unfolding up_to
  refused_same r h k os = rw (h, k) refl

  aside_same : (r : RawRecord) → eqb r.kind wanted ≡ false
      → (eqb r.kind unwanted || ends_head r.kind) ≡ false → (os : List RecordOutcome)
      → up_to wanted unwanted (Ok r ∷ os) ≡ up_to wanted unwanted os
  unfolding up_to
  aside_same r h k os = rw (h, k) refl

  up_to_completes : Completes (up_to wanted unwanted) (λ d. d ≡ c) []
  up_to_completes =
      cons_completes (up_to wanted unwanted) (λ os. Ok (c, os)) c formed (wanted_same c same_kind)
      (done_completes c refl)

  up_to_reads : (all : List RecordOutcome) (x : RawRecord × List RecordOutcome)
      → up_to wanted unwanted all ≡ Ok x → Reads (up_to wanted unwanted) all x
  unfolding up_to
  up_to_reads [] x e = absurd cc
  up_to_reads (Err f ∷ all) x e = absurd cc
  up_to_reads (Ok r ∷ all) x e =
      go (eqb r.kind wanted) (eqb r.kind unwanted || ends_head r.kind) refl refl
      (λ f. up_to_reads all x f)
    where
      go : (a b : Bool) → eqb r.kind wanted ≡ a → (eqb r.kind unwanted || ends_head r.kind) ≡ b
          → (up_to wanted unwanted all ≡ Ok x → Reads (up_to wanted unwanted) all x)
          → Reads (up_to wanted unwanted) (Ok r ∷ all) x
      go true b p q more =
          cons_reads (up_to wanted unwanted) (λ os. Ok (r, os)) r all x (wanted_same r p)
          (ap (λ (n : ℕ). eqb n ENDLIB) (eqb-true _ _ p) ∙ inner)
          ((done_local {Best = Any} r).reads all x (sym (wanted_same r p all) ∙ e))
      go false true p q more = absurd (let k = sym (refused_same r p q all) ∙ e in cc)
      go false false p q more =
          cons_reads (up_to wanted unwanted) (up_to wanted unwanted) r all x (aside_same r p q)
          (inside_head r.kind (or_right (eqb r.kind unwanted) (ends_head r.kind) q))
          (more (sym (aside_same r p q all) ∙ e))

  up_to_fails : (all : List RecordOutcome) (offset : ℕ) → IsEnded all
      → up_to wanted unwanted all ≡ Err (unexpected_at offset)
      → Refuses (up_to wanted unwanted) (λ d. d ≡ c) all offset
  unfolding up_to
  up_to_fails [] offset h e = absurd h
  up_to_fails (Err f ∷ all) offset h e = absurd (h cc)
  up_to_fails (Ok r ∷ all) offset h e =
      go (eqb r.kind wanted) (eqb r.kind unwanted || ends_head r.kind) refl refl
      (λ k f. up_to_fails all offset k f)
    where
      go : (a b : Bool) → eqb r.kind wanted ≡ a → (eqb r.kind unwanted || ends_head r.kind) ≡ b
          → (IsEnded all → up_to wanted unwanted all ≡ Err (unexpected_at offset)
          → Refuses (up_to wanted unwanted) (λ d. d ≡ c) all offset)
          → Refuses (up_to wanted unwanted) (λ d. d ≡ c) (Ok r ∷ all) offset
      go true b p q more = absurd (let k = sym (wanted_same r p all) ∙ e in cc)
      go false true p q more =
          let same : fault_at Unexpected r ≡ unexpected_at offset = let k =
          sym (refused_same r p q all) ∙ e in cc in
          here_refuses (up_to wanted unwanted) r all offset (ap (λ (z : ReadFault). z.offset) same)
          up_to_completes (refused_same r p q)
      go false false p q more =
          cons_refuses (up_to wanted unwanted) (up_to wanted unwanted) r all offset
          (aside_same r p q)
          (more (h (inside_head r.kind (or_right (eqb r.kind unwanted) (ends_head r.kind) q)))
          (sym (aside_same r p q all) ∙ e))

  up_to_local : Local (up_to wanted unwanted) (λ d. d ≡ c)
  up_to_local = record { reads = up_to_reads; fails = up_to_fails }

-- the name LB, and a unit of 1 nm
abbrev libname : RawRecord
libname = sample LIBNAME 6 (76 ∷ 66 ∷ [])

abbrev units : RawRecord
units =
    sample UNITS 5
    (0x3E ∷ 0x41 ∷ 0x89 ∷ 0x37 ∷ 0x4B ∷ 0xC6 ∷ 0xA7 ∷ 0xF0 ∷ 0x39 ∷ 0x44 ∷ 0xB8 ∷ 0x2F ∷ 0xA0 ∷ 0x9B
    ∷ 0x5A ∷ 0x54 ∷ [])

libname_formed : is_formed libname ≡ true
unfolding data_fault
libname_formed = refl

units_formed : is_formed units ≡ true
unfolding data_fault
units_formed = refl

units_unit : unit_of units ≡ Ok 1
unfolding unit_of first_near
units_unit = refl

unit_own : (r : RawRecord) → IsOfValue (unit_of r)
unfolding unit_of
unit_own r = go (nanometres (real_value (drop 8 r.bytes)))
  where
    go : (o : Option ℕ) → IsOfValue (unit_or_fault o r)
    go (Some u) = ok_own u
    go None = never BadUnit r (λ e. cc)

abbrev unit_then : RawRecord → List RecordOutcome → Reading ℕ
unit_then r all = unit_of r >>= λ unit. Ok (unit, all)

abbrev units_then : RawRecord → List RecordOutcome → Reading ℕ
units_then r all = up_to UNITS LIBNAME all >>= λ units. unit_then units.0 units.1

unit_local : (r : RawRecord) → Local (unit_then r) Any
unit_local r =
    tested_local (λ (u : ℕ) all. Ok (u, all)) (unit_of r) (unit_own r) (λ u e. done_local u)

unit_completes : (r : RawRecord) → r ≡ units → Completes (unit_then r) Any []
unit_completes r e =
    rw e
    (tested_completes (λ (u : ℕ) all. Ok (u, all)) (unit_of units) 1 units_unit
    (done_completes 1 tt))

units_local : (r : RawRecord) → Local (units_then r) Any
units_local r =
    then_local (up_to UNITS LIBNAME) unit_then
    (up_to_local UNITS LIBNAME units refl refl units_formed refl) unit_local unit_completes

units_completes : (r : RawRecord) → Completes (units_then r) Any []
units_completes r =
    let c = up_to_completes UNITS LIBNAME units refl refl units_formed refl in
    then_completes (up_to UNITS LIBNAME) unit_then [] c (unit_completes c.value c.good)

head_local : Local head Any
unfolding head
head_local =
    then_local (up_to LIBNAME UNITS) units_then
    (up_to_local LIBNAME UNITS libname refl refl libname_formed refl) units_local
    (λ r e. units_completes r)

head_completes : Completes head Any []
unfolding head
head_completes =
    let c = up_to_completes LIBNAME UNITS libname refl refl libname_formed refl in
    then_completes (up_to LIBNAME UNITS) units_then [] c (units_completes c.value)

-- a unit is at least 1 nm
found_from : (test : ℕ → Bool) (from count x : ℕ) → find test (range_with_len from count) ≡ Some x
    → from ≤ x
found_from test from zero x e = absurd cc
found_from test from (suc count) x e = go (test from) e (λ f. found_from test (from + 1) count x f)
  where
    go : (b : Bool) → cond b (Some from) (find test (range_with_len (from + 1) count)) ≡ Some x
        → (find test (range_with_len (from + 1) count) ≡ Some x → from + 1 ≤ x) → from ≤ x
    go true f more = let same : from ≡ x = cc in omega (arith, same)
    go false f more = let k = more f in omega (arith, k)

near_some : (v : ℤ) (x : ℕ) → nanometres v ≡ Some x → 1 ≤ x
unfolding first_near
near_some (pos value) x e = found_from (is_nanometres value) 1 1000 x e
near_some (negsuc below) x e = absurd cc

pub unit_some : (r : RawRecord) (unit : ℕ) → unit_of r ≡ Ok unit → 1 ≤ unit
unfolding unit_of
unit_some r unit e = go (nanometres (real_value (drop 8 r.bytes))) refl e
  where
    go : (o : Option ℕ) → nanometres (real_value (drop 8 r.bytes)) ≡ o → unit_or_fault o r ≡ Ok unit
        → 1 ≤ unit
    go (Some u) is f = let same : u ≡ unit = cc in
        near_some (real_value (drop 8 r.bytes)) unit (is ∙ ap Some same)
    go None is f = absurd cc

-- ---- from HEADER to the head's end

abbrev header : RawRecord
header = sample HEADER 2 (0 ∷ 3 ∷ [])

abbrev bgnlib : RawRecord
bgnlib = sample BGNLIB 2 []

header_formed : is_formed header ≡ true
unfolding data_fault
header_formed = refl

bgnlib_formed : is_formed bgnlib ≡ true
unfolding data_fault
bgnlib_formed = refl

abbrev pub begun : RawRecord → List RecordOutcome → Reading ℕ
begun r all = next_is BGNLIB all >>= λ begin. head begin.1

abbrev pub opening : List RecordOutcome → Reading ℕ
opening all = next_is HEADER all >>= λ header. begun header.0 header.1

pub opening_local : Local opening Any
opening_local =
    let b = next_completes BGNLIB bgnlib refl bgnlib_formed refl in
    then_local (next_is HEADER) begun (next_local HEADER header refl header_formed refl)
    (λ r. then_local (next_is BGNLIB) (λ d. head) (next_local BGNLIB bgnlib refl bgnlib_formed refl)
    (λ d. head_local) (λ d e. head_completes))
    (λ r e. then_completes (next_is BGNLIB) (λ d. head) [] b head_completes)

pub library_is : (all : List RecordOutcome)
    → library all
    ≡ (opening all >>= λ unit. all_structures unit.0 unit.1 >>= λ structures. Ok structures.0)
unfolding library
library_is all = outer (next_is HEADER all)
  where
    inner : (t : Reading RawRecord)
        → (t >>= λ begin. head begin.1 >>= λ unit. all_structures unit.0 unit.1
        >>= λ structures. Ok structures.0)
        ≡ ((t >>= λ begin. head begin.1) >>= λ unit. all_structures unit.0 unit.1
        >>= λ structures. Ok structures.0)
    inner (Ok x) = refl
    inner (Err f) = refl

    outer : (t : Reading RawRecord)
        → (t >>= λ header. next_is BGNLIB header.1 >>= λ begin. head begin.1
        >>= λ unit. all_structures unit.0 unit.1 >>= λ structures. Ok structures.0)
        ≡ ((t >>= λ header. begun header.0 header.1) >>= λ unit. all_structures unit.0 unit.1
        >>= λ structures. Ok structures.0)
    outer (Ok x) = inner (next_is BGNLIB x.1)
    outer (Err f) = refl

-- the records of an opening
pub record OpeningIn (all : List RecordOutcome) (x : ℕ × List RecordOutcome) : Type 0 where
  pub first : RawRecord
  pub second : RawRecord
  pub behind_first : List RecordOutcome
  pub behind_second : List RecordOutcome
  pub first_part : all ≡ Ok first ∷ behind_first
  pub first_is : first.kind ≡ HEADER
  pub second_part : behind_first ≡ Ok second ∷ behind_second
  pub second_is : second.kind ≡ BGNLIB
  pub head_in : HeadIn behind_second x

pub opening_sound : (all : List RecordOutcome) (x : ℕ × List RecordOutcome) → opening all ≡ Ok x
    → OpeningIn all x
opening_sound all x e =
    let a = bind_ok (next_is HEADER all) (λ header. begun header.0 header.1) x e in
    let b = bind_ok (next_is BGNLIB a.0.1) (λ begin. head begin.1) x a.2 in
    let pa = next_is_sound HEADER all a.0 a.1 in
    let pb = next_is_sound BGNLIB a.0.1 b.0 b.1 in
    record {
      first = a.0.0;
      second = b.0.0;
      behind_first = a.0.1;
      behind_second = b.0.1;
      first_part = pa.0;
      first_is = pa.1;
      second_part = pb.0;
      second_is = pb.1;
      head_in = head_sound b.0.1 x b.2;
    }
