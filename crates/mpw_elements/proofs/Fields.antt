-- Reading the next record of an element, one record at a time.
use Rattle.std.proofs.Common.{◌≡◌, ℕ, true, false, List, ◌∷◌, Ok, Err, refl}
use Rattle.mpw_records.specs.declared.fault.Code.TheVariants.{Unexpected}
use Rattle.mpw_records.specs.Records.{RawRecord, RecordOutcome}
use Rattle.std.proofs.Common.{eqb, inl, inr}
use Rattle.std.proofs.lemmas.Bool.Decides.{eqb_tells}
use Rattle.mpw_records.specs.declared.kind.TheConstants.{ENDEL, ENDLIB}
use Rattle.mpw_elements.specs.Reading.{is_skipped, field, fault_at}
use Rattle.mpw_elements.specs.Grammar.{ignored}

pub field_skip : (start : ℕ) (rs rest : List RecordOutcome) (r : RawRecord) → rs ≡ Ok r ∷ rest
    → is_skipped r.kind ≡ true → field start rs ≡ field start rest
unfolding field
field_skip start rs rest r e skip = rw (e, skip) refl

pub field_ok : (start : ℕ) (rs rest : List RecordOutcome) (r : RawRecord) → rs ≡ Ok r ∷ rest
    → is_skipped r.kind ≡ false → field start rs ≡ Ok (r, rest)
unfolding field
field_ok start rs rest r e skip = rw (e, skip) refl

-- ---- the same for what is ignored

pub ignored_done : (start : ℕ) (rs rest : List RecordOutcome) (r : RawRecord) → rs ≡ Ok r ∷ rest
    → r.kind ≡ ENDEL → ignored start rs ≡ Ok (tt, rest)
unfolding ignored
ignored_done start rs rest r e h = rw (e, h) refl

pub ignored_last : (start : ℕ) (rs rest : List RecordOutcome) (r : RawRecord) → rs ≡ Ok r ∷ rest
    → r.kind ≡ ENDLIB → ignored start rs ≡ Err (fault_at Unexpected r)
unfolding ignored
ignored_last start rs rest r e h = rw (e, h) refl

differs : (a b : ℕ) → (a ≡ b → ⊥) → eqb a b ≡ false
differs a b h = elim (eqb_tells a b) [ inl p ↦ absurd (h p.1) | inr p ↦ p.0 ]

pub ignored_more : (start : ℕ) (rs rest : List RecordOutcome) (r : RawRecord) → rs ≡ Ok r ∷ rest
    → (r.kind ≡ ENDEL → ⊥) → (r.kind ≡ ENDLIB → ⊥) → ignored start rs ≡ ignored start rest
unfolding ignored
ignored_more start rs rest r e h k = rw (e, differs r.kind ENDEL h, differs r.kind ENDLIB k) refl
