-- An optional record, and the readers of what comes after it.
use Rattle.std.proofs.Common.{◌≡◌, ℕ, Bool, true, false, eqb, List, [], ◌∷◌, Result, Ok, Err, refl, sym, ap, ◌∙◌}
use Rattle.std.proofs.lemmas.Bool.{eqb-true}
use Rattle.mpw_records.specs.declared.fault.ReadFault.{ReadFault}
use Rattle.mpw_records.specs.declared.kind.TheConstants.{ENDLIB}
use Rattle.mpw_records.specs.Records.{RawRecord, RecordOutcome}
use Rattle.mpw_elements.specs.Reading.{Reading, ◌>>=◌, is_skipped, field, optional}
use Rattle.mpw_elements.specs.Derivation.{records_then}
use Rattle.mpw_library.proofs.Refusals.{unexpected_at, IsEnded, Completes, Refuses, Reads, Local, IsOfValue, tested_local, goes_on_by}
use Rattle.mpw_library.proofs.Fields.{as_reads, cons_refuses, as_refuses, cons_completes, held, Ahead, fielded, fielded_local}

-- a reader that continues in one way at a record of a type, and in another way at any other record
module _ {X : Type 0} {Good : X → Type 0} (kind first : ℕ)
    (O K valued : RawRecord → List RecordOutcome → Reading X)
    (present : (r : RawRecord) → eqb r.kind kind ≡ true → (os : List RecordOutcome)
    → O r os ≡ valued r os)
    (absent : (r : RawRecord) → eqb r.kind kind ≡ false → (os : List RecordOutcome)
    → O r os ≡ K r os)
    (local : (r : RawRecord) → Local (valued r) Good) (inner : eqb kind ENDLIB ≡ false)
    (other : eqb first kind ≡ false) (k : Ahead first K Good) where
  begins : Completes (O k.start) Good []
  begins =
      let b = k.begin in
      goes_on_by b b.good
      (λ rest. absent k.start (ap (λ (n : ℕ). eqb n kind) k.kind ∙ other)
      (records_then b.behind rest)
      ∙ b.reads rest)

  branch_reads : (r : RawRecord) (all : List RecordOutcome) (x : X × List RecordOutcome)
      → O r all ≡ Ok x
      → Reads (O r) all x × (eqb r.kind ENDLIB ≡ false)
  branch_reads r all x e = go (eqb r.kind kind) refl
    where
      go : (b : Bool) → eqb r.kind kind ≡ b → Reads (O r) all x × (eqb r.kind ENDLIB ≡ false)
      go true p = (
        as_reads (O r) (valued r) all x (present r p)
            ((local r).reads all x (sym (present r p all) ∙ e)),
        ap (λ (n : ℕ). eqb n ENDLIB) (eqb-true _ _ p) ∙ inner,
      )
      go false p =
          let h = k.reads r all x (sym (absent r p all) ∙ e) in
          (as_reads (O r) (K r) all x (absent r p) h.0, h.1)

  branch_fails : (r : RawRecord) (all : List RecordOutcome) (offset : ℕ)
      → (eqb r.kind ENDLIB ≡ false → IsEnded all) → O r all ≡ Err (unexpected_at offset)
      → Refuses (held O) Good (Ok r ∷ all) offset
  branch_fails r all offset h e = go (eqb r.kind kind) refl
    where
      go : (b : Bool) → eqb r.kind kind ≡ b → Refuses (held O) Good (Ok r ∷ all) offset
      go true p =
          cons_refuses (held O) (valued r) r all offset (present r p)
          ((local r).fails all offset
          (h (ap (λ (n : ℕ). eqb n ENDLIB) (eqb-true _ _ p) ∙ inner))
          (sym (present r p all) ∙ e))
      go false p =
          as_refuses (held O) (held K) r all offset (absent r p)
          (cons_completes (held O) (O k.start) k.start k.formed (λ os. refl) begins)
          (k.fails r all offset h (sym (absent r p all) ∙ e))

  pub branching_ahead : Ahead first O Good
  branching_ahead = record {
    reads = branch_reads;
    fails = branch_fails;
    start = k.start;
    kind = k.kind;
    formed = k.formed;
    begin = begins;
  }

abbrev pub opting : {V X : Type 0} → ℕ → ℕ → (RawRecord → Result V ReadFault) → V
    → (V → RawRecord → List RecordOutcome → Reading X) → RawRecord → List RecordOutcome → Reading X
opting start kind value default K r rs =
    optional start kind value default r rs >>= λ x. K x.0.0 x.0.1 x.1

module _ {V X : Type 0} (start kind : ℕ) (value : RawRecord → Result V ReadFault) (default : V)
    (K : V → RawRecord → List RecordOutcome → Reading X) where
  -- what comes after it
  abbrev valued : RawRecord → List RecordOutcome → Reading X
  valued r os = value r >>= λ v. fielded start (K v) os

  present_same : (r : RawRecord) → eqb r.kind kind ≡ true → (os : List RecordOutcome)
      → opting start kind value default K r os ≡ valued r os
  unfolding optional
  present_same r h os = rw h (go (value r))
    where
      after : (v : V) (n : Result (RawRecord × List RecordOutcome) ReadFault)
          → ((n >>= λ next. Ok ((v, next.0), next.1))
          >>= λ (x : (V × RawRecord) × List RecordOutcome). K x.0.0 x.0.1 x.1)
          ≡ (n >>= λ next. K v next.0 next.1)
      after v (Ok next) = refl
      after v (Err f) = refl

      go : (t : Result V ReadFault)
          → ((t >>= λ v. field start os >>= λ next. Ok ((v, next.0), next.1))
          >>= λ (x : (V × RawRecord) × List RecordOutcome). K x.0.0 x.0.1 x.1)
          ≡ (t >>= λ v. fielded start (K v) os)
      go (Ok v) = after v (field start os)
      go (Err f) = refl

  absent_same : (r : RawRecord) → eqb r.kind kind ≡ false → (os : List RecordOutcome)
      → opting start kind value default K r os ≡ K default r os
  unfolding optional
  absent_same r h os = rw h refl

  module _ {Good : X → Type 0} (first : ℕ) (own : (r : RawRecord) → IsOfValue (value r))
      (inner : eqb kind ENDLIB ≡ false) (other : eqb first kind ≡ false)
      (kept : is_skipped first ≡ false) (k : (v : V) → Ahead first (K v) Good) where
    valued_local : (r : RawRecord) → Local (valued r) Good
    valued_local r =
        tested_local (λ v. fielded start (K v)) (value r) (own r)
        (λ v e. fielded_local start (K v) (k v) kept)

    pub opting_ahead : Ahead first (opting start kind value default K) Good
    opting_ahead =
        branching_ahead kind first (opting start kind value default K) (K default) valued
        present_same absent_same valued_local inner other (k default)
