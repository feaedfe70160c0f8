-- A text's records, one step at a time.
use Rattle.std.proofs.Common.{◌≡◌, ℕ, zero, suc, ◌+◌, ◌-◌, ◌%◌, ◌<◌, ◌≤◌, Bool, true, false, cond, eqb, ltb, ◌||◌, List, [], ◌∷◌, length, drop, Option, Some, None, Result, Ok, Err, refl, sym, ap, ◌∙◌, arith, length-drop, length-take}
use Rattle.std.specs.Prelude.{slice_index, slice_range}
use Rattle.std.proofs.lemmas.Bool.{ltb-false}
use Rattle.mpw_records.specs.declared.fault.Code.{Code}
use Rattle.mpw_records.specs.declared.fault.Code.TheVariants.{Short, BadLength}
use Rattle.mpw_records.specs.declared.fault.ReadFault.{ReadFault}
use Rattle.mpw_records.specs.declared.kind.TheConstants.{ENDLIB}
use Rattle.mpw_records.specs.Format.{data_fault}
use Rattle.mpw_records.specs.Records.{RawRecord, told_length, first_fault, record_of, unless_fault, front, is_last, outcomes, outcomes_from}

-- what is known of the length if there is no fault
pub record Fits (told len : ℕ) : Type 0 where
  pub header : 4 ≤ told
  pub whole : told ≤ len

no_fault : (bytes : List ℕ) (short odd past : Bool) (rest : Option Code)
    → cond short (Some Short) (cond odd (Some BadLength) (cond past (Some Short) rest)) ≡ None
    → (short ≡ false) × (odd ≡ false) × (past ≡ false)
no_fault bytes true odd past rest e = absurd cc
no_fault bytes false true past rest e = absurd cc
no_fault bytes false false true rest e = absurd cc
no_fault bytes false false false rest e = (refl, refl, refl)

or_false : (a b : Bool) → (a || b) ≡ false → a ≡ false
or_false true b e = absurd cc
or_false false b e = refl

pub fits_of : (bytes : List ℕ) → first_fault bytes ≡ None → Fits (told_length bytes) (length bytes)
fits_of bytes e =
    let h = no_fault bytes (ltb (length bytes) 4)
    (ltb (told_length bytes) 4 || eqb (told_length bytes % 2) 1)
    (ltb (length bytes) (told_length bytes))
    (data_fault (slice_index bytes 2) (slice_index bytes 3) (told_length bytes - 4)) e in
    record { header = ltb-false _ _ (or_false _ _ h.1); whole = ltb-false _ _ h.2 }

ok_none : (o : Option Code) (r s : RawRecord) → unless_fault o r ≡ Ok s → (o ≡ None) × (r ≡ s)
ok_none None r s e = (refl, cc)
ok_none (Some c) r s e = absurd cc

not_last : (o : Option Code) (r : RawRecord) → is_last (unless_fault o r) ≡ false → o ≡ None
not_last None r e = refl
not_last (Some c) r e = absurd cc

-- more steps than are left change nothing
pub outcomes_enough : (m n : ℕ) (text : List ℕ) (p : ℕ) → p ≤ length text → length text < m + p
    → length text < n + p → outcomes m text p ≡ outcomes n text p
unfolding outcomes
outcomes_enough zero n text p le a b = absurd (omega arith)
outcomes_enough (suc m) zero text p le a b = absurd (omega arith)
outcomes_enough (suc m) (suc n) text p le a b =
    let step : (last : Bool) → is_last (front text p) ≡ last
    → cond last [] (outcomes m text (p + told_length (drop p text))) ≡ cond last []
    (outcomes n text (p + told_length (drop p text))) =
    λ last e. elim last as (λ v. is_last (front text p) ≡ v
    → cond v [] (outcomes m text (p + told_length (drop p text)))
    ≡ cond v [] (outcomes n text (p + told_length (drop p text)))) [
      | true ↦ λ h. refl
      | false ↦ λ h.
          let f = fits_of (drop p text) (not_last (first_fault (drop p text))
          (record_of p (drop p text)) h) in
          let l = length-drop p text in
          outcomes_enough m n text (p + told_length (drop p text))
          (omega (arith, f.header, f.whole)) (omega (arith, f.header, f.whole))
          (omega (arith, f.header, f.whole))
    ] e in
    ap (λ (rs : List (Result RawRecord ReadFault)). front text p ∷ rs)
    (step (is_last (front text p)) refl)

unfolded : (text : List ℕ) (p : ℕ) → outcomes_from text p ≡ front text p
    ∷ cond (is_last (front text p)) [] (outcomes (length text) text (p + told_length (drop p text)))
unfolding outcomes
unfolded text p = refl

sized : (bytes : List ℕ) (told : ℕ) → Fits told (length bytes)
    → length (slice_range bytes 4 told) ≡ told - 4
sized bytes told f = simp (length-take, length-drop) (omega (arith, f.header, f.whole))

-- the step at a record
pub step_ok : (text : List ℕ) (p : ℕ) (r : RawRecord) → p ≤ length text → front text p ≡ Ok r
    → outcomes_from text p ≡ Ok r ∷ cond (eqb r.kind ENDLIB) []
    (outcomes_from text (p + (4 + length r.bytes)))
step_ok text p r le e =
    let h = ok_none (first_fault (drop p text)) (record_of p (drop p text)) r e in
    let f = fits_of (drop p text) h.0 in
    let l = length-drop p text in
    let size : length r.bytes ≡ told_length (drop p text) - 4 =
    sym (ap (λ (s : RawRecord). length s.bytes) h.1)
    ∙ sized (drop p text) (told_length (drop p text)) f in
    let at : p + told_length (drop p text) ≡ p + (4 + length r.bytes) =
    omega (arith, f.header, size) in
    let enough = outcomes_enough (length text) (suc (length text)) text (p + (4 + length r.bytes))
    (omega (arith, f.header, f.whole, size)) (omega arith) (omega arith) in
    unfolded text p ∙ rw (e, at, enough) refl

-- the step at a fault
pub step_err : (text : List ℕ) (p : ℕ) (f : ReadFault) → front text p ≡ Err f
    → outcomes_from text p ≡ Err f ∷ []
step_err text p f e = unfolded text p ∙ rw e refl

-- the same for a reader that hasn't ended
pub next_ok : (ended : Bool) (text : List ℕ) (p : ℕ) (r : RawRecord)
    (value : List (Result RawRecord ReadFault)) → ended ≡ false
    → cond ended [] (outcomes_from text p) ≡ value → p ≤ length text → front text p ≡ Ok r
    → value ≡ Ok r ∷ cond (eqb r.kind ENDLIB) [] (outcomes_from text (p + (4 + length r.bytes)))
next_ok true text p r value e v le f = absurd cc
next_ok false text p r value e v le f = sym v ∙ step_ok text p r le f

pub next_err : (ended : Bool) (text : List ℕ) (p : ℕ) (f : ReadFault)
    (value : List (Result RawRecord ReadFault)) → ended ≡ false
    → cond ended [] (outcomes_from text p) ≡ value → front text p ≡ Err f → value ≡ Err f ∷ []
next_err true text p f value e v h = absurd cc
next_err false text p f value e v h = sym v ∙ step_err text p f h
