-- Readers that refuse at the first record with which nothing continues, and how they follow each
-- other.
use Rattle.std.proofs.Common.{◌≡◌, ℕ, true, false, eqb, List, [], ◌∷◌, ◌++◌, Result, Ok, Err, refl, sym, ap, subst, ◌∙◌, inl, inr}
use Rattle.std.specs.Prelude.{◌⊎◌}
use Rattle.std.specs.List.{list_all}
use Rattle.std.proofs.lemmas.List.Folds.{list_all-append}
use Rattle.mpw_records.specs.declared.fault.Code.TheVariants.{Unexpected}
use Rattle.mpw_records.specs.declared.fault.ReadFault.{ReadFault}
use Rattle.mpw_records.specs.declared.kind.TheConstants.{ENDLIB}
use Rattle.mpw_records.specs.Records.{RawRecord, RecordOutcome}
use Rattle.mpw_elements.specs.Reading.{Reading, ◌>>=◌, fault_at}
use Rattle.mpw_elements.specs.Derivation.{records_then}
use Rattle.mpw_elements.proofs.DerivedFields.{bind_ok, ok_is, records_both, parts_both}
use Rattle.mpw_library.specs.Fronts.{is_formed}

abbrev pub unexpected_at : ℕ → ReadFault
unexpected_at offset = record { code = Unexpected; offset = offset }

-- records up to ENDLIB, or up to a fault other than their order
abbrev pub IsEnded : List RecordOutcome → Type 0
IsEnded [] = ⊥
IsEnded (Err f ∷ all) = f.code ≡ Unexpected → ⊥
IsEnded (Ok r ∷ all) = eqb r.kind ENDLIB ≡ false → IsEnded all

-- records continue to what a reader reads
pub record Completes {V : Type 0} (P : List RecordOutcome → Reading V) (Good : V → Type 0)
    (before : List RawRecord) : Type 0 where
  pub behind : List RawRecord
  pub formed : list_all is_formed behind ≡ true
  pub value : V
  pub good : Good value
  pub reads : (rest : List RecordOutcome)
      → P (records_then (before ++ behind) rest) ≡ Ok (value, rest)

-- a reader refuses a record, whatever comes after it, and what comes before it continues
pub record Refuses {V : Type 0} (P : List RecordOutcome → Reading V) (Good : V → Type 0)
    (all : List RecordOutcome) (offset : ℕ) : Type 0 where
  pub before : List RawRecord
  pub refused : RawRecord
  pub rest : List RecordOutcome
  pub parts : all ≡ records_then before (Ok refused ∷ rest)
  pub stands : refused.offset ≡ offset
  pub goes_on : Completes P Good before
  pub refuses : (rest : List RecordOutcome)
      → P (records_then before (Ok refused ∷ rest)) ≡ Err (fault_at Unexpected refused)

-- a reader reads these records, whatever comes after them
pub record Reads {V : Type 0} (P : List RecordOutcome → Reading V) (all : List RecordOutcome)
    (x : V × List RecordOutcome) : Type 0 where
  pub records : List RawRecord
  pub parts : all ≡ records_then records x.1
  pub same : (rest : List RecordOutcome) → P (records_then records rest) ≡ Ok (x.0, rest)
  pub ended : IsEnded all → IsEnded x.1

-- the same records continue with another reader
pub goes_on_by : {V : Type 0} {P Q : List RecordOutcome → Reading V} {Good Best : V → Type 0}
    {front before : List RawRecord} (c : Completes P Good front) → Best c.value
    → ((rest : List RecordOutcome) → Q (records_then (before ++ c.behind) rest) ≡ Ok (c.value, rest))
    → Completes Q Best before
goes_on_by c good reads = record {
  behind = c.behind;
  formed = c.formed;
  value = c.value;
  good = good;
  reads = reads;
}

-- and another reader refuses the same record
pub refuses_by : {V X : Type 0} {P : List RecordOutcome → Reading V}
    {Q : List RecordOutcome → Reading X} {Good : V → Type 0} {Best : X → Type 0}
    {all : List RecordOutcome} {offset : ℕ} (r : Refuses P Good all offset)
    → Completes Q Best r.before
    → ((rest : List RecordOutcome)
    → Q (records_then r.before (Ok r.refused ∷ rest)) ≡ Err (fault_at Unexpected r.refused))
    → Refuses Q Best all offset
refuses_by r goes_on refuses = record {
  before = r.before;
  refused = r.refused;
  rest = r.rest;
  parts = r.parts;
  stands = r.stands;
  goes_on = goes_on;
  refuses = refuses;
}

pub record Local {V : Type 0} (P : List RecordOutcome → Reading V) (Good : V → Type 0) :
    Type 0 where
  pub reads : (all : List RecordOutcome) (x : V × List RecordOutcome) → P all ≡ Ok x → Reads P all x
  pub fails : (all : List RecordOutcome) (offset : ℕ) → IsEnded all
      → P all ≡ Err (unexpected_at offset)
      → Refuses P Good all offset

-- any value
abbrev pub Any : {V : Type 0} → V → Type 0
Any v = Unit {0}

-- ---- faults

abbrev failed : {A : Type 0} → ReadFault → Result A ReadFault
failed f = Err f

pub fault_is : {A B : Type 0} (f g : ReadFault) → failed {A = A} f ≡ failed {A = A} g
    → failed {A = B} f ≡ failed {A = B} g
fault_is f g e = let same : f ≡ g = cc in ap (λ h. Err h) same

pub bind_err : {A B : Type 0} (r : Result A ReadFault) (f : A → Result B ReadFault) (d : ReadFault)
    → (r >>= f) ≡ Err d
    → (r ≡ Err d) ⊎ ((x : A) × (r ≡ Ok x) × (f x ≡ Err d))
bind_err (Ok x) f d e = inr (x, refl, e)
bind_err {A = A} {B = B} (Err g) f d e = inl (fault_is {A = B} {B = A} g d e)

-- a test of a value whose fault is never that of a record's position
abbrev pub IsOfValue : {W : Type 0} → Result W ReadFault → Type 0
IsOfValue t = (offset : ℕ) → t ≡ Err (unexpected_at offset) → ⊥

-- ---- one reader after another

pub both_formed : (xs ys : List RawRecord) → list_all is_formed xs ≡ true
    → list_all is_formed ys ≡ true → list_all is_formed (xs ++ ys) ≡ true
both_formed xs ys p q = list_all-append is_formed xs ys ∙ rw (p, q) refl

pub front_then : (xs ys zs : List RawRecord) (rest : List RecordOutcome)
    → records_then (xs ++ (ys ++ zs)) rest ≡ records_then (xs ++ ys) (records_then zs rest)
front_then xs ys zs rest =
    records_both xs (ys ++ zs) rest ∙ ap (records_then xs) (records_both ys zs rest)
    ∙ sym (records_both xs ys (records_then zs rest))

pub behind_then : (xs ys zs : List RawRecord) (rest : List RecordOutcome)
    → records_then ((xs ++ ys) ++ zs) rest ≡ records_then xs (records_then (ys ++ zs) rest)
behind_then xs ys zs rest =
    records_both (xs ++ ys) zs rest ∙ records_both xs ys (records_then zs rest)
    ∙ ap (records_then xs) (sym (records_both ys zs rest))

abbrev pub then_reader : {V X : Type 0} → (List RecordOutcome → Reading V)
    → (V → List RecordOutcome → Reading X) → List RecordOutcome → Reading X
then_reader P Q all = P all >>= λ x. Q x.0 x.1

module _ {V X : Type 0} (P : List RecordOutcome → Reading V) (Q : V → List RecordOutcome
    → Reading X) where
  then_reads : (all : List RecordOutcome) (v : V × List RecordOutcome) (x : X × List RecordOutcome)
      → Reads P all v
      → Reads (Q v.0) v.1 x → Reads (then_reader P Q) all x
  then_reads all v x p q = record {
    records = p.records ++ q.records;
    parts = parts_both all v.1 x.1 p.records q.records p.parts q.parts;
    same = λ rest.
        ap (then_reader P Q) (records_both p.records q.records rest)
        ∙ ap (λ (y : Reading V). y >>= λ x. Q x.0 x.1) (p.same (records_then q.records rest))
        ∙ q.same rest;
    ended = λ h. q.ended (p.ended h);
  }

  module _ {Best : X → Type 0} where
    second_refuses : (all : List RecordOutcome) (offset : ℕ) (v : V × List RecordOutcome)
        → Reads P all v
        → Refuses (Q v.0) Best v.1 offset → Refuses (then_reader P Q) Best all offset
    second_refuses all offset v p q = record {
      before = p.records ++ q.before;
      refused = q.refused;
      rest = q.rest;
      parts = parts_both all v.1 (Ok q.refused ∷ q.rest) p.records q.before p.parts q.parts;
      stands = q.stands;
      goes_on =
          goes_on_by q.goes_on q.goes_on.good
          (λ rest. ap (then_reader P Q) (behind_then p.records q.before q.goes_on.behind rest)
          ∙ ap (λ (y : Reading V). y >>= λ x. Q x.0 x.1)
          (p.same (records_then (q.before ++ q.goes_on.behind) rest))
          ∙ q.goes_on.reads rest);
      refuses = λ rest.
          ap (then_reader P Q) (records_both p.records q.before (Ok q.refused ∷ rest))
          ∙ ap (λ (y : Reading V). y >>= λ x. Q x.0 x.1)
          (p.same (records_then q.before (Ok q.refused ∷ rest)))
          ∙ q.refuses rest;
    }

    module _ {Good : V → Type 0} where
      pub then_completes : (before : List RawRecord) (c : Completes P Good before)
          → Completes (Q c.value) Best [] → Completes (then_reader P Q) Best before
      then_completes before c d = record {
        behind = c.behind ++ d.behind;
        formed = both_formed c.behind d.behind c.formed d.formed;
        value = d.value;
        good = d.good;
        reads = λ rest.
            ap (then_reader P Q) (front_then before c.behind d.behind rest)
            ∙ ap (λ (y : Reading V). y >>= λ x. Q x.0 x.1) (c.reads (records_then d.behind rest))
            ∙ d.reads rest;
      }

      first_refuses : (all : List RecordOutcome) (offset : ℕ)
          → ((v : V) → Good v → Completes (Q v) Best []) → Refuses P Good all offset
          → Refuses (then_reader P Q) Best all offset
      first_refuses all offset begin p =
          refuses_by p
          (then_completes p.before p.goes_on (begin p.goes_on.value p.goes_on.good))
          (λ rest. ap (λ (y : Reading V). y >>= λ x. Q x.0 x.1) (p.refuses rest))

      pub then_local : Local P Good → ((v : V) → Local (Q v) Best)
          → ((v : V) → Good v → Completes (Q v) Best []) → Local (then_reader P Q) Best
      then_local p q begin = record {
        reads = λ all x e.
            let a = bind_ok (P all) (λ x. Q x.0 x.1) x e in
            then_reads all a.0 x (p.reads all a.0 a.1) ((q a.0.0).reads a.0.1 x a.2);
        fails =
            λ all offset h e. elim (bind_err (P all) (λ x. Q x.0 x.1) (unexpected_at offset) e) [
              | inl f ↦ first_refuses all offset begin (p.fails all offset h f)
              | inr a ↦
                  let r = p.reads all a.0 a.1 in
                  second_refuses all offset a.0 r ((q a.0.0).fails a.0.1 offset (r.ended h) a.2)
            ];
      }

-- ---- no records, and tests of a value

module _ {X : Type 0} {Best : X → Type 0} where
  pub done_local : (v : X) → Local (λ all. Ok (v, all)) Best
  done_local v = record {
    reads = λ all x e. subst (Reads (λ all. Ok (v, all)) all) (ok_is (v, all) x e) (record {
      records = [];
      parts = refl;
      same = λ rest. refl;
      ended = λ h. h;
    });
    fails = λ all offset h e. absurd (let f = e in cc);
  }

  pub done_completes : (v : X) → Best v → Completes (λ all. Ok (v, all)) Best []
  done_completes v good = record {
    behind = [];
    formed = refl;
    value = v;
    good = good;
    reads = λ rest. refl;
  }

  module _ {W : Type 0} (Q : W → List RecordOutcome → Reading X) where
    pub tested_local : (t : Result W ReadFault) → IsOfValue t
        → ((w : W) → t ≡ Ok w → Local (Q w) Best) → Local (λ all. t >>= λ w. Q w all) Best
    tested_local (Ok w) own q = q w refl
    tested_local (Err f) own q = record {
      reads = λ all x e. absurd (let g = e in cc);
      fails =
          λ all offset h e. absurd
          (own offset (fault_is {A = X × List RecordOutcome} {B = W} f (unexpected_at offset) e));
    }

    pub tested_completes : (t : Result W ReadFault) (w : W) → t ≡ Ok w → Completes (Q w) Best []
        → Completes (λ all. t >>= λ w. Q w all) Best []
    tested_completes t w e c = goes_on_by c c.good (λ rest. rw e (c.reads rest))
