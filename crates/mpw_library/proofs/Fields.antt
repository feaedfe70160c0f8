-- Readers that read a record, and refuse it if it isn't allowed in its position.
use Rattle.std.proofs.Common.{◌≡◌, ℕ, Bool, true, false, cond, eqb, List, [], ◌∷◌, ◌++◌, Ok, Err, refl, sym, ap, subst, ◌∙◌, inl, inr}
use Rattle.std.proofs.lemmas.Bool.{eqb-true}
use Rattle.mpw_records.specs.declared.fault.Code.TheVariants.{Unexpected}
use Rattle.mpw_records.specs.declared.fault.ReadFault.{ReadFault}
use Rattle.mpw_records.specs.declared.kind.TheConstants.{ENDLIB}
use Rattle.mpw_records.specs.Records.{RawRecord, RecordOutcome}
use Rattle.mpw_elements.specs.Reading.{Reading, ◌>>=◌, fault_at, is_skipped, field, demanded, expected}
use Rattle.mpw_elements.specs.Derivation.{records_then}
use Rattle.mpw_elements.proofs.DerivedFields.{bind_ok, demanded_sound, demanded_complete}
use Rattle.mpw_library.specs.Fronts.{is_formed}
use Rattle.mpw_library.proofs.Refusals.{unexpected_at, IsEnded, Completes, Refuses, Reads, Local, bind_err, done_local, done_completes, goes_on_by}

-- ---- what a reader does after a record

pub cons_reads : {V : Type 0} (P Q : List RecordOutcome → Reading V) (r : RawRecord)
    (all : List RecordOutcome)
    (x : V × List RecordOutcome)
    → ((os : List RecordOutcome) → P (Ok r ∷ os) ≡ Q os) → eqb r.kind ENDLIB ≡ false → Reads Q all x
    → Reads P (Ok r ∷ all) x
cons_reads P Q r all x same inner q = record {
  records = r ∷ q.records;
  parts = ap (λ (os : List RecordOutcome). Ok r ∷ os) q.parts;
  same = λ rest. same (records_then q.records rest) ∙ q.same rest;
  ended = λ h. q.ended (h inner);
}

pub as_reads : {V : Type 0} (P Q : List RecordOutcome → Reading V) (all : List RecordOutcome)
    (x : V × List RecordOutcome)
    → ((os : List RecordOutcome) → P os ≡ Q os) → Reads Q all x → Reads P all x
as_reads P Q all x same q = record {
  records = q.records;
  parts = q.parts;
  same = λ rest. same (records_then q.records rest) ∙ q.same rest;
  ended = q.ended;
}

same_head : (r s : RawRecord) (os ps : List RecordOutcome) → Ok r ∷ os ≡ Ok s ∷ ps → r ≡ s
same_head r s os ps e = cc

module _ {V : Type 0} {Good : V → Type 0} where
  pub cons_refuses : (P Q : List RecordOutcome → Reading V) (r : RawRecord)
      (all : List RecordOutcome)
      (offset : ℕ)
      → ((os : List RecordOutcome) → P (Ok r ∷ os) ≡ Q os) → Refuses Q Good all offset
      → Refuses P Good (Ok r ∷ all) offset
  cons_refuses P Q r all offset same q = record {
    before = r ∷ q.before;
    refused = q.refused;
    rest = q.rest;
    parts = ap (λ (os : List RecordOutcome). Ok r ∷ os) q.parts;
    stands = q.stands;
    goes_on =
        goes_on_by q.goes_on q.goes_on.good
        (λ rest. same (records_then (q.before ++ q.goes_on.behind) rest) ∙ q.goes_on.reads rest);
    refuses = λ rest. same (records_then q.before (Ok q.refused ∷ rest)) ∙ q.refuses rest;
  }

  -- the first record itself is refused
  pub here_refuses : (P : List RecordOutcome → Reading V) (r : RawRecord) (all : List RecordOutcome)
      (offset : ℕ) → r.offset ≡ offset → Completes P Good []
      → ((rest : List RecordOutcome) → P (Ok r ∷ rest) ≡ Err (fault_at Unexpected r))
      → Refuses P Good (Ok r ∷ all) offset
  here_refuses P r all offset is begin refuses =
      record {
        before = [];
        refused = r;
        rest = all;
        parts = refl;
        stands = is;
        goes_on = begin;
        refuses = refuses;
      }

  -- two readers that do the same after a record
  pub as_refuses : (P Q : List RecordOutcome → Reading V) (r : RawRecord) (all : List RecordOutcome)
      (offset : ℕ)
      → ((os : List RecordOutcome) → P (Ok r ∷ os) ≡ Q (Ok r ∷ os)) → Completes P Good []
      → Refuses Q Good (Ok r ∷ all) offset → Refuses P Good (Ok r ∷ all) offset
  as_refuses P Q r all offset same begin q = go q.before q.parts q.goes_on q.refuses
    where
      go : (before : List RawRecord) → Ok r ∷ all ≡ records_then before (Ok q.refused ∷ q.rest)
          → Completes Q Good before
          → ((rest : List RecordOutcome)
          → Q (records_then before (Ok q.refused ∷ rest)) ≡ Err (fault_at Unexpected q.refused))
          → Refuses P Good (Ok r ∷ all) offset
      go [] parts goes_on refuses =
          let is : r ≡ q.refused = same_head r q.refused all q.rest parts in
          here_refuses P r all offset (ap (λ (s : RawRecord). s.offset) is ∙ q.stands) begin
          (λ rest. same rest
          ∙ subst (λ (s : RawRecord). Q (Ok s ∷ rest) ≡ Err (fault_at Unexpected s)) (sym is)
          (refuses rest))
      go (b ∷ bs) parts goes_on refuses =
          let is : r ≡ b = same_head r b all (records_then bs (Ok q.refused ∷ q.rest)) parts in
          let alike : (os : List RecordOutcome) → P (Ok b ∷ os) ≡ Q (Ok b ∷ os) =
          subst (λ (s : RawRecord). (os : List RecordOutcome) → P (Ok s ∷ os) ≡ Q (Ok s ∷ os)) is
          same in
          record {
            before = b ∷ bs;
            refused = q.refused;
            rest = q.rest;
            parts = parts;
            stands = q.stands;
            goes_on =
                goes_on_by goes_on goes_on.good
                (λ rest. alike (records_then (bs ++ goes_on.behind) rest) ∙ goes_on.reads rest);
            refuses = λ rest. alike (records_then bs (Ok q.refused ∷ rest)) ∙ refuses rest;
          }

-- ---- readers of a record that was read ahead

abbrev held_fault : ReadFault
held_fault = unexpected_at 0

-- a reader that gets the first record
abbrev pub held : {V : Type 0} → (RawRecord → List RecordOutcome → Reading V) → List RecordOutcome
    → Reading V
held K [] = Err held_fault
held K (Err f ∷ all) = Err f
held K (Ok r ∷ all) = K r all

-- a reader of a record that was read ahead refuses it if nothing continues, and can begin with a record of that
-- type
pub record Ahead {V : Type 0} (first : ℕ) (K : RawRecord → List RecordOutcome → Reading V)
    (Good : V → Type 0) : Type 0 where
  pub reads : (r : RawRecord) (all : List RecordOutcome) (x : V × List RecordOutcome)
      → K r all ≡ Ok x
      → Reads (K r) all x × (eqb r.kind ENDLIB ≡ false)
  pub fails : (r : RawRecord) (all : List RecordOutcome) (offset : ℕ)
      → (eqb r.kind ENDLIB ≡ false → IsEnded all) → K r all ≡ Err (unexpected_at offset)
      → Refuses (held K) Good (Ok r ∷ all) offset
  pub start : RawRecord
  pub kind : start.kind ≡ first
  pub formed : is_formed start ≡ true
  pub begin : Completes (K start) Good []

module _ {V : Type 0} {Good : V → Type 0} where
  pub cons_completes : (P Q : List RecordOutcome → Reading V) (r : RawRecord) → is_formed r ≡ true
      → ((os : List RecordOutcome) → P (Ok r ∷ os) ≡ Q os) → Completes Q Good []
      → Completes P Good []
  cons_completes P Q r formed same c = record {
    behind = r ∷ c.behind;
    formed = rw formed c.formed;
    value = c.value;
    good = c.good;
    reads = λ rest. same (records_then c.behind rest) ∙ c.reads rest;
  }

  held_completes : {first : ℕ} (K : RawRecord → List RecordOutcome → Reading V) → Ahead first K Good
      → Completes (held K) Good []
  held_completes K a = cons_completes (held K) (K a.start) a.start a.formed (λ os. refl) a.begin

-- ---- the next record of an element

skipped_inside : (kind : ℕ) → is_skipped kind ≡ true → eqb kind ENDLIB ≡ false
skipped_inside kind e = go (eqb kind ENDLIB) refl
  where
    go : (b : Bool) → eqb kind ENDLIB ≡ b → eqb kind ENDLIB ≡ false
    go true p = absurd (let k = sym e ∙ ap is_skipped (eqb-true _ _ p) in cc)
    go false p = p

module _ {V : Type 0} (start : ℕ) (K : RawRecord → List RecordOutcome → Reading V) where
  abbrev pub fielded : List RecordOutcome → Reading V
  fielded all = field start all >>= λ n. K n.0 n.1

  skip_same : (r : RawRecord) → is_skipped r.kind ≡ true → (os : List RecordOutcome)
      → fielded (Ok r ∷ os) ≡ fielded os
  unfolding field
  skip_same r h os = rw h refl

  keep_same : (r : RawRecord) → is_skipped r.kind ≡ false → (os : List RecordOutcome)
      → fielded (Ok r ∷ os) ≡ K r os
  unfolding field
  keep_same r h os = rw h refl

  module _ {Good : V → Type 0} {first : ℕ} (a : Ahead first K Good)
      (kept : is_skipped first ≡ false) where
    pub fielded_completes : Completes fielded Good []
    fielded_completes =
        cons_completes fielded (K a.start) a.start a.formed
        (keep_same a.start (ap is_skipped a.kind ∙ kept)) a.begin

    fielded_reads : (all : List RecordOutcome) (x : V × List RecordOutcome) → fielded all ≡ Ok x
        → Reads fielded all x
    unfolding field
    fielded_reads [] x e = absurd cc
    fielded_reads (Err f ∷ all) x e = absurd cc
    fielded_reads (Ok r ∷ all) x e = go (is_skipped r.kind) refl (λ f. fielded_reads all x f)
      where
        go : (b : Bool) → is_skipped r.kind ≡ b → (fielded all ≡ Ok x → Reads fielded all x)
            → Reads fielded (Ok r ∷ all) x
        go true p more =
            cons_reads fielded fielded r all x (skip_same r p) (skipped_inside r.kind p)
            (more (sym (skip_same r p all) ∙ e))
        go false p more =
            let h = a.reads r all x (sym (keep_same r p all) ∙ e) in
            cons_reads fielded (K r) r all x (keep_same r p) h.1 h.0

    fielded_fails : (all : List RecordOutcome) (offset : ℕ) → IsEnded all
        → fielded all ≡ Err (unexpected_at offset) → Refuses fielded Good all offset
    unfolding field
    fielded_fails [] offset h e = absurd h
    fielded_fails (Err f ∷ all) offset h e = absurd (h cc)
    fielded_fails (Ok r ∷ all) offset h e =
        go (is_skipped r.kind) refl (λ k f. fielded_fails all offset k f)
      where
        go : (b : Bool) → is_skipped r.kind ≡ b
            → (IsEnded all → fielded all ≡ Err (unexpected_at offset)
            → Refuses fielded Good all offset)
            → Refuses fielded Good (Ok r ∷ all) offset
        go true p more =
            cons_refuses fielded fielded r all offset (skip_same r p)
            (more (h (skipped_inside r.kind p)) (sym (skip_same r p all) ∙ e))
        go false p more =
            as_refuses fielded (held K) r all offset (keep_same r p) fielded_completes
            (a.fails r all offset h (sym (keep_same r p all) ∙ e))

    pub fielded_local : Local fielded Good
    fielded_local = record { reads = fielded_reads; fails = fielded_fails }

-- ---- a record that must have a type

demanded_err : (kind : ℕ) (r : RawRecord) (f : ReadFault) → demanded kind r ≡ Err f
    → (demanded kind r ≡ Err (fault_at Unexpected r)) × (fault_at Unexpected r ≡ f)
unfolding demanded
demanded_err kind r f e = go (eqb r.kind kind) e
  where
    go : (b : Bool) → cond b (Ok r) (Err (fault_at Unexpected r)) ≡ Err f
        → (cond b (Ok r) (Err (fault_at Unexpected r)) ≡ Err (fault_at Unexpected r))
        × (fault_at Unexpected r ≡ f)
    go true p = absurd cc
    go false p = (refl, cc)

abbrev pub demanding : {V : Type 0} → ℕ → (RawRecord → List RecordOutcome → Reading V) → RawRecord
    → List RecordOutcome → Reading V
demanding kind Q r rs = demanded kind r >>= λ d. Q d rs

module _ {V : Type 0} (kind : ℕ) (Q : RawRecord → List RecordOutcome → Reading V) where
  demands_same : (r : RawRecord) → r.kind ≡ kind → (os : List RecordOutcome)
      → demanding kind Q r os ≡ Q r os
  demands_same r h os = rw (demanded_complete kind r h) refl

  module _ {Good : V → Type 0} where
    -- it can begin with a record of that type with which its reader continues
    pub demanding_ahead : (c : RawRecord) → c.kind ≡ kind → is_formed c ≡ true
        → eqb kind ENDLIB ≡ false → ((d : RawRecord) → Local (Q d) Good) → Completes (Q c) Good []
        → Ahead kind (demanding kind Q) Good
    demanding_ahead c is formed inner q begin = record {
      reads = λ r all x e.
          let d = bind_ok (demanded kind r) (λ d. Q d all) x e in
          let g = demanded_sound kind r d.0 d.1 in (
            as_reads (demanding kind Q r) (Q r) all x (demands_same r g.0)
                ((q r).reads all x (subst (λ (y : RawRecord). Q y all ≡ Ok x) (sym g.1) d.2)),
            ap (λ (k : ℕ). eqb k ENDLIB) g.0 ∙ inner,
          );
      fails =
          λ r all offset h
          e. elim (bind_err (demanded kind r) (λ d. Q d all) (unexpected_at offset) e) [
            | inl f ↦
                let g = demanded_err kind r (unexpected_at offset) f in
                here_refuses (held (demanding kind Q)) r all offset
                (ap (λ (z : ReadFault). z.offset) g.1) here (λ rest. rw g.0 refl)
            | inr d ↦
                let g = demanded_sound kind r d.0 d.1 in
                cons_refuses (held (demanding kind Q)) (Q r) r all offset (demands_same r g.0)
                ((q r).fails all offset (h (ap (λ (k : ℕ). eqb k ENDLIB) g.0 ∙ inner))
                (subst (λ (y : RawRecord). Q y all ≡ Err (unexpected_at offset)) (sym g.1) d.2))
          ];
      start = c;
      kind = is;
      formed = formed;
      begin = own;
    }
      where
        own : Completes (demanding kind Q c) Good []
        own =
            goes_on_by begin begin.good
            (λ rest. demands_same c is (records_then begin.behind rest) ∙ begin.reads rest)

        here : Completes (held (demanding kind Q)) Good []
        here = cons_completes (held (demanding kind Q)) (Q c) c formed (demands_same c is) begin

-- a record of a type, as a text may have it
pub record IsSample (kind : ℕ) (c : RawRecord) : Type 0 where
  pub kind_is : c.kind ≡ kind
  pub formed : is_formed c ≡ true
  pub inner : eqb kind ENDLIB ≡ false
  pub kept : is_skipped kind ≡ false

-- the next record of an element, which must have a type
module _ (start kind : ℕ) (c : RawRecord) (s : IsSample kind c) where
  expected_ahead : Ahead kind (demanding kind (λ d rs. Ok (d, rs))) (λ d. d ≡ c)
  expected_ahead =
      demanding_ahead kind (λ d rs. Ok (d, rs)) c s.kind_is s.formed s.inner (λ d. done_local d)
      (done_completes c refl)

  pub expected_local : Local (expected start kind) (λ d. d ≡ c)
  unfolding expected
  expected_local = fielded_local start (demanding kind (λ d rs. Ok (d, rs))) expected_ahead s.kept

  pub expected_completes : Completes (expected start kind) (λ d. d ≡ c) []
  unfolding expected
  expected_completes =
      fielded_completes start (demanding kind (λ d rs. Ok (d, rs))) expected_ahead s.kept
