-- The records of texts that begin with the same bytes.
use Rattle.std.proofs.Common.{◌≡◌, ℕ, ◌+◌, ◌-◌, ◌%◌, ◌≤◌, Bool, true, false, cond, eqb, ltb, ◌||◌, List, [], ◌∷◌, ◌++◌, length, drop, Option, Some, None, Result, Ok, Err, refl, sym, ap, subst, ◌∙◌, arith, length-drop, length-append, length-take}
use Rattle.std.specs.Prelude.{slice_index, slice_range}
use Rattle.std.proofs.lemmas.Bool.{le-ltb}
use Rattle.std.proofs.lemmas.List.{drop-append-le, take-append-le}
use Rattle.mpw_records.specs.declared.fault.Code.{Code}
use Rattle.mpw_records.specs.declared.fault.Code.TheVariants.{Short, BadLength}
use Rattle.mpw_records.specs.declared.fault.ReadFault.{ReadFault}
use Rattle.mpw_records.specs.declared.kind.TheConstants.{ENDLIB}
use Rattle.mpw_records.specs.Format.{data_fault}
use Rattle.mpw_records.specs.Records.{RawRecord, RecordOutcome, told_length, first_fault, record_of, unless_fault, front, outcomes, outcomes_from}
use Rattle.mpw_records.proofs.Fronts.{Fits, fits_of, step_ok}
use Rattle.mpw_elements.specs.Derivation.{records_then}

-- ---- what the bytes begin with

-- the tests of a record, with those of the data after them
abbrev pub checks : (short odd past : Bool) → Option Code → Option Code
checks short odd past rest =
    cond short (Some Short) (cond odd (Some BadLength) (cond past (Some Short) rest))

pub record Passes (short odd past : Bool) (rest : Option Code) : Type 0 where
  pub not_short : short ≡ false
  pub not_odd : odd ≡ false
  pub not_past : past ≡ false
  pub no_fault : rest ≡ None

passes : (short odd past : Bool) (rest : Option Code) → checks short odd past rest ≡ None
    → Passes short odd past rest
passes true odd past rest e = absurd cc
passes false true past rest e = absurd cc
passes false false true rest e = absurd cc
passes false false false rest e = record {
  not_short = refl;
  not_odd = refl;
  not_past = refl;
  no_fault = e;
}

abbrev pub is_odd : ℕ → Bool
is_odd told = ltb told 4 || eqb (told % 2) 1

pub passed : (bytes : List ℕ) → first_fault bytes ≡ None
    → Passes (ltb (length bytes) 4) (is_odd (told_length bytes))
    (ltb (length bytes) (told_length bytes))
    (data_fault (slice_index bytes 2) (slice_index bytes 3) (told_length bytes - 4))
passed bytes e = passes _ _ _ _ e

-- four bytes that two texts begin with
pub record Headed (bytes : List ℕ) : Type 0 where
  pub a : ℕ
  pub b : ℕ
  pub c : ℕ
  pub d : ℕ
  pub others : List ℕ
  pub is : bytes ≡ a ∷ b ∷ c ∷ d ∷ others

pub headed : (bytes : List ℕ) → 4 ≤ length bytes → Headed bytes
headed [] le = absurd (omega (arith, le))
headed (a ∷ []) le = absurd (omega (arith, le))
headed (a ∷ b ∷ []) le = absurd (omega (arith, le))
headed (a ∷ b ∷ c ∷ []) le = absurd (omega (arith, le))
headed (a ∷ b ∷ c ∷ d ∷ others) le =
    record { a = a; b = b; c = c; d = d; others = others; is = refl }

pub told_same : (bytes more : List ℕ) → 4 ≤ length bytes
    → told_length (bytes ++ more) ≡ told_length bytes
told_same bytes more le = let h = headed bytes le in rw h.is refl

pub record SameRecord (offset : ℕ) (xs ys : List ℕ) : Type 0 where
  pub none : first_fault ys ≡ None
  pub same : record_of offset ys ≡ record_of offset xs

checks_none : {short odd past : Bool} {rest : Option Code} → Passes short odd past rest
    → checks short odd past rest ≡ None
checks_none p = rw (p.not_short, p.not_odd, p.not_past, p.no_fault) refl

module _ (offset a b c d : ℕ) (others : List ℕ) where
  abbrev begun : List ℕ → List ℕ
  begun more = a ∷ b ∷ c ∷ d ∷ others ++ more

  abbrev told : ℕ
  told = told_length (a ∷ b ∷ c ∷ d ∷ others)

  cons_same : (more rest : List ℕ) → first_fault (begun more) ≡ None
      → told ≤ length (a ∷ b ∷ c ∷ d ∷ others)
      → SameRecord offset (begun more) (begun rest)
  cons_same more rest e le =
      let p = passed (begun more) e in
      let long = length-append others rest in
      let within : told - 4 ≤ length others = omega (arith, le) in
      record {
        none = checks_none {short = ltb (length (begun rest)) 4} {odd = is_odd told}
            {past = ltb (length (begun rest)) told} {rest = data_fault c d (told - 4)} (record {
              not_short = le-ltb (length (begun rest)) 4 (omega arith);
              not_odd = p.not_odd;
              not_past = le-ltb (length (begun rest)) told (omega (arith, le, long));
              no_fault = p.no_fault;
            });
        same = ap of (take-append-le (told - 4) others rest within
            ∙ sym (take-append-le (told - 4) others more within));
      }
    where
      of : List ℕ → RawRecord
      of bytes = record { offset = offset; kind = c; data_type = d; bytes = bytes }

-- if a record is within what two texts begin with, both begin with it
pub record_same : (offset : ℕ) (bytes more others : List ℕ) → first_fault (bytes ++ more) ≡ None
    → told_length (bytes ++ more) ≤ length bytes
    → SameRecord offset (bytes ++ more) (bytes ++ others)
record_same offset bytes more others e le =
    let f = fits_of (bytes ++ more) e in
    let four : 4 ≤ length bytes = omega (arith, f.header, le) in
    go (headed bytes four) (subst (λ (n : ℕ). n ≤ length bytes) (told_same bytes more four) le)
  where
    go : Headed bytes → told_length bytes ≤ length bytes
        → SameRecord offset (bytes ++ more) (bytes ++ others)
    go h within =
        subst (λ (l : List ℕ). SameRecord offset (l ++ more) (l ++ others)) (sym h.is)
        (cons_same offset h.a h.b h.c h.d h.others more others
        (subst (λ (l : List ℕ). first_fault (l ++ more) ≡ None) h.is e)
        (subst (λ (l : List ℕ). told_length l ≤ length l) h.is within))

-- ---- the records of a text, one after another

pub record RecordAt (text : List ℕ) (p : ℕ) (r : RawRecord) : Type 0 where
  pub offset : r.offset ≡ p
  pub no_fault : first_fault (drop p text) ≡ None
  pub told : told_length (drop p text) ≡ 4 + length r.bytes
  pub within : p + (4 + length r.bytes) ≤ length text

sized : (bytes : List ℕ) (told : ℕ) → Fits told (length bytes)
    → length (slice_range bytes 4 told) ≡ told - 4
sized bytes told f = simp (length-take, length-drop) (omega (arith, f.header, f.whole))

pub record_at : (text : List ℕ) (p : ℕ) (r : RawRecord) → p ≤ length text → front text p ≡ Ok r
    → RecordAt text p r
record_at text p r le e = go (first_fault (drop p text)) refl e
  where
    go : (o : Option Code) → first_fault (drop p text) ≡ o
        → unless_fault o (record_of p (drop p text)) ≡ Ok r → RecordAt text p r
    go (Some code) is f = absurd cc
    go None is f =
        let same : record_of p (drop p text) ≡ r = cc in
        let fits = fits_of (drop p text) is in
        let long : length (slice_range (drop p text) 4 (told_length (drop p text)))
        ≡ told_length (drop p text) - 4 =
        sized (drop p text) (told_length (drop p text)) fits in
        let size : length r.bytes ≡ told_length (drop p text) - 4 =
        sym (ap (λ (s : RawRecord). length s.bytes) same) ∙ long in
        record {
          offset = sym (ap (λ (s : RawRecord). s.offset) same);
          no_fault = is;
          told = omega (arith, size, fits.header);
          within = omega (arith, size, fits.header, fits.whole, length-drop p text, le);
        }

pub fault_offset : (text : List ℕ) (p : ℕ) (f : ReadFault) → front text p ≡ Err f → f.offset ≡ p
fault_offset text p f e = go (first_fault (drop p text)) e
  where
    go : (o : Option Code) → unless_fault o (record_of p (drop p text)) ≡ Err f → f.offset ≡ p
    go None k = absurd cc
    go (Some code) k =
        let same : record { code = code; offset = p } ≡ f = cc in
        sym (ap (λ (g : ReadFault). g.offset) same)

-- where the text after these records begins
abbrev pub place : ℕ → List RawRecord → ℕ
place p [] = p
place p (r ∷ rs) = place (p + (4 + length r.bytes)) rs

pub place_grows : (p : ℕ) (rs : List RawRecord) → p + length rs ≤ place p rs
place_grows p [] = omega arith
place_grows p (r ∷ rs) =
    let h = place_grows (p + (4 + length r.bytes)) rs in omega (arith, h)

pub place_behind : (p : ℕ) (xs ys : List RawRecord) → place p (xs ++ ys) ≡ place (place p xs) ys
place_behind p [] ys = refl
place_behind p (x ∷ xs) ys = place_behind (p + (4 + length x.bytes)) xs ys

first_is : (text : List ℕ) (p : ℕ) (o : RecordOutcome) (os : List RecordOutcome)
    → outcomes_from text p ≡ o ∷ os → front text p ≡ o
unfolding outcomes
first_is text p o os e = cc

-- nothing is read after ENDLIB, and after another record what is there
pub record Behind (text : List ℕ) (p : ℕ) (r : RawRecord) (os : List RecordOutcome) : Type 0 where
  pub at : RecordAt text p r
  pub is : front text p ≡ Ok r
  pub others : cond (eqb r.kind ENDLIB) [] (outcomes_from text (p + (4 + length r.bytes))) ≡ os

pub behind_record : (text : List ℕ) (p : ℕ) (r : RawRecord) (os : List RecordOutcome)
    → p ≤ length text → outcomes_from text p ≡ Ok r ∷ os → Behind text p r os
behind_record text p r os le e =
    let is = first_is text p (Ok r) os e in
    record {
      at = record_at text p r le is;
      is = is;
      others = tails (sym (step_ok text p r le is) ∙ e);
    }
  where
    tails : {xs ys : List RecordOutcome} → Ok r ∷ xs ≡ Ok r ∷ ys → xs ≡ ys
    tails k = cc

pub some_behind : (rs : List RawRecord) (o : RecordOutcome) (os : List RecordOutcome)
    → [] ≡ records_then rs (o ∷ os) → ⊥
some_behind [] o os e = cc
some_behind (r ∷ rs) o os e = cc

-- a record with something after it is not ENDLIB
pub onward : (last : Bool) (xs ys : List RecordOutcome) → cond last [] xs ≡ ys → ([] ≡ ys → ⊥)
    → (last ≡ false) × (xs ≡ ys)
onward true xs ys e some = absurd (some e)
onward false xs ys e some = (refl, e)

pub record Stands (text : List ℕ) (p : ℕ) (before : List RawRecord) (o : RecordOutcome)
    (rest : List RecordOutcome) : Type 0 where
  pub within : place p before ≤ length text
  pub is : front text (place p before) ≡ o
  pub tail : outcomes_from text (place p before) ≡ o ∷ rest

pub stands : (text : List ℕ) (p : ℕ) (before : List RawRecord) (o : RecordOutcome)
    (rest : List RecordOutcome) → p ≤ length text
    → outcomes_from text p ≡ records_then before (o ∷ rest) → Stands text p before o rest
stands text p [] o rest le e = record { within = le; is = first_is text p o rest e; tail = e }
stands text p (r ∷ rs) o rest le e =
    let b = behind_record text p r (records_then rs (o ∷ rest)) le e in
    let k =
    onward (eqb r.kind ENDLIB) (outcomes_from text (p + (4 + length r.bytes)))
    (records_then rs (o ∷ rest)) b.others (some_behind rs o rest) in
    let s = stands text (p + (4 + length r.bytes)) rs o rest b.at.within k.1 in
    record { within = s.within; is = s.is; tail = s.tail }

-- ---- two texts that begin with the same bytes

module _ (front_bytes more others : List ℕ) where
  abbrev one : List ℕ
  one = front_bytes ++ more

  abbrev other : List ℕ
  other = front_bytes ++ others

  -- a record in those bytes is in both
  pub front_same : (p : ℕ) (r : RawRecord) → p ≤ length one → front one p ≡ Ok r
      → p + (4 + length r.bytes) ≤ length front_bytes → front other p ≡ Ok r
  front_same p r le e within =
      let a = record_at one p r le e in
      let d = drop-append-le p front_bytes more (omega (arith, within)) in
      let f = drop-append-le p front_bytes others (omega (arith, within)) in
      let l = length-drop p front_bytes in
      let s =
      record_same p (drop p front_bytes) more others
      (ap first_fault (sym d) ∙ a.no_fault)
      (subst (λ (bytes : List ℕ). told_length bytes ≤ length (drop p front_bytes)) d
      (omega (arith, a.told, l, within))) in
      ap (λ (bytes : List ℕ). unless_fault (first_fault bytes) (record_of p bytes)) f
      ∙ rw (s.none, s.same)
      (ap (λ (bytes : List ℕ). record_told (record_of p bytes)) (sym d)
      ∙ told_of (first_fault (drop p one)) (record_of p (drop p one)) r a.no_fault e)
    where
      record_told : RawRecord → Result RawRecord ReadFault
      record_told x = Ok x

      told_of : (o : Option Code) (x y : RawRecord) → o ≡ None → unless_fault o x ≡ Ok y
          → record_told x ≡ Ok y
      told_of None x y is k = k
      told_of (Some code) x y is k = absurd cc

  pub records_same : (p : ℕ) (before : List RawRecord) (o : RecordOutcome)
      (rest : List RecordOutcome) → p ≤ length one
      → outcomes_from one p ≡ records_then before (o ∷ rest)
      → place p before ≤ length front_bytes
      → outcomes_from other p ≡ records_then before (outcomes_from other (place p before))
  records_same p [] o rest le e within = refl
  records_same p (r ∷ rs) o rest le e within =
      let b = behind_record one p r (records_then rs (o ∷ rest)) le e in
      let k =
      onward (eqb r.kind ENDLIB) (outcomes_from one (p + (4 + length r.bytes)))
      (records_then rs (o ∷ rest)) b.others (some_behind rs o rest) in
      let g = place_grows (p + (4 + length r.bytes)) rs in
      let long = length-append front_bytes others in
      let is =
      front_same p r le b.is (omega (arith, g, within)) in
      let s =
      records_same (p + (4 + length r.bytes)) rs o rest b.at.within k.1 within in
      step_ok other p r (omega (arith, g, within, long)) is
      ∙ rw k.0 (ap (λ (os : List RecordOutcome). Ok r ∷ os) s)
