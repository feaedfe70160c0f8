-- A loop over items that a reader reads refuses at the first record with which nothing continues.
use Rattle.std.proofs.Common.{◌≡◌, ℕ, zero, suc, ◌+◌, ◌<◌, ◌≤◌, Bool, true, false, cond, List, [], ◌∷◌, ◌++◌, length, Ok, Err, refl, sym, ap, subst, ◌∙◌, inl, inr, arith}
use Rattle.std.specs.List.{list_all}
use Rattle.mpw_records.specs.declared.fault.Code.TheVariants.{Unexpected}
use Rattle.mpw_records.specs.Records.{RawRecord, RecordOutcome}
use Rattle.mpw_elements.specs.Reading.{Reading, ◌>>=◌, fault_at}
use Rattle.mpw_elements.specs.Derivation.{records_then}
use Rattle.mpw_elements.proofs.DerivedFields.{records_both, parts_both}
use Rattle.mpw_library.specs.Fronts.{is_formed}
use Rattle.mpw_library.proofs.Loops.{empty}
use Rattle.mpw_library.proofs.Refusals.{unexpected_at, IsEnded, Completes, Refuses, Reads, Any, bind_err, both_formed, front_then, behind_then}

pub length_then : (rs : List RawRecord) (rest : List RecordOutcome)
    → length (records_then rs rest) ≡ length rs + length rest
length_then [] rest = omega arith
length_then (r ∷ rs) rest = let h = length_then rs rest in omega (arith, h)

-- a loop: from a state a step reads an item; one of the items ends the loop, and each other one gives
-- a next state
pub record Loop {S I : Type 0} (step : S → List RecordOutcome → Reading I) (is_end : I → Bool)
    (next : S → I → S) (loop : ℕ → S → List RecordOutcome → Reading S) : Type 0 where
  pub none : (s : S) (x : S × List RecordOutcome) (os : List RecordOutcome) → loop zero s os ≡ Ok x
      → ⊥
  pub empty_fails : (s : S) (x : I × List RecordOutcome) → step s [] ≡ Ok x → ⊥
  pub goes : (most : ℕ) (s : S) (os : List RecordOutcome)
      → loop (suc most) s os
      ≡ (step s os >>= λ i. cond (is_end i.0) (Ok (s, i.1)) (loop most (next s i.0) i.1))
  pub ending : RawRecord
  pub formed : is_formed ending ≡ true
  pub last : I
  pub is_last : is_end last ≡ true
  pub ends : (s : S) (rest : List RecordOutcome) → step s (Ok ending ∷ rest) ≡ Ok (last, rest)

-- records continue to the end of the loop
pub record LoopCompletes {S : Type 0} (loop : ℕ → S → List RecordOutcome → Reading S) (s : S)
    (before : List RawRecord) : Type 0 where
  pub behind : List RawRecord
  pub formed : list_all is_formed behind ≡ true
  pub value : S
  pub reads : (most : ℕ) (rest : List RecordOutcome)
      → length (records_then (before ++ behind) rest) ≤ most
      → loop most s (records_then (before ++ behind) rest) ≡ Ok (value, rest)

pub record LoopRefuses {S : Type 0} (loop : ℕ → S → List RecordOutcome → Reading S) (s : S)
    (all : List RecordOutcome) (offset : ℕ) : Type 0 where
  pub before : List RawRecord
  pub refused : RawRecord
  pub rest : List RecordOutcome
  pub parts : all ≡ records_then before (Ok refused ∷ rest)
  pub stands : refused.offset ≡ offset
  pub goes_on : LoopCompletes loop s before
  pub refuses : (most : ℕ) (rest : List RecordOutcome)
      → length (records_then before (Ok refused ∷ rest)) ≤ most
      → loop most s (records_then before (Ok refused ∷ rest)) ≡ Err (fault_at Unexpected refused)

-- a loop with as many steps as there are records
abbrev pub at_length : {S : Type 0} → (ℕ → S → List RecordOutcome → Reading S) → S
    → List RecordOutcome → Reading S
at_length loop s os = loop (length os) s os

pub length_completes : {S : Type 0} {loop : ℕ → S → List RecordOutcome → Reading S} {s : S}
    {before : List RawRecord} → LoopCompletes loop s before
    → Completes (at_length loop s) Any before
length_completes {before = before} c = record {
  behind = c.behind;
  formed = c.formed;
  value = c.value;
  good = tt;
  reads = λ rest. c.reads (length (records_then (before ++ c.behind) rest)) rest (omega arith);
}

pub length_refuses : {S : Type 0} {loop : ℕ → S → List RecordOutcome → Reading S} {s : S}
    {all : List RecordOutcome} {offset : ℕ} → LoopRefuses loop s all offset
    → Refuses (at_length loop s) Any all offset
length_refuses r = record {
  before = r.before;
  refused = r.refused;
  rest = r.rest;
  parts = r.parts;
  stands = r.stands;
  goes_on = length_completes r.goes_on;
  refuses = λ rest.
      r.refuses (length (records_then r.before (Ok r.refused ∷ rest))) rest (omega arith);
}

module _ {S I : Type 0} (step : S → List RecordOutcome → Reading I) (is_end : I → Bool) (next : S
    → I → S)
    (loop : ℕ → S → List RecordOutcome → Reading S) (l : Loop step is_end next loop) where
  -- a step takes a record
  some_step : (s : S) (os : List RecordOutcome) (x : I × List RecordOutcome) → step s os ≡ Ok x
      → 0 < length os
  some_step s [] x e = absurd (l.empty_fails s x e)
  some_step s (o ∷ os) x e = omega arith

  takes : (s : S) (records : List RawRecord) (i : I)
      → ((rest : List RecordOutcome) → step s (records_then records rest) ≡ Ok (i, rest))
      → 0 < length records
  takes s [] i same = absurd (l.empty_fails s (i, []) (same []))
  takes s (r ∷ rs) i same = omega arith

  next_is : (most : ℕ) (s : S) (os rest : List RecordOutcome) (i : I) → step s os ≡ Ok (i, rest)
      → loop (suc most) s os ≡ cond (is_end i) (Ok (s, rest)) (loop most (next s i) rest)
  next_is most s os rest i e =
      l.goes most s os
      ∙ ap
      (λ (t : Reading I). t >>= λ i. cond (is_end i.0) (Ok (s, i.1)) (loop most (next s i.0) i.1)) e

  over_is : (most : ℕ) (s : S) (os rest : List RecordOutcome) (i : I) → step s os ≡ Ok (i, rest)
      → is_end i ≡ false → loop (suc most) s os ≡ loop most (next s i) rest
  over_is most s os rest i e h =
      next_is most s os rest i e
      ∙ ap (λ (b : Bool). cond b (Ok (s, rest)) (loop most (next s i) rest)) h

  last_is : (most : ℕ) (s : S) (os rest : List RecordOutcome) (i : I) → step s os ≡ Ok (i, rest)
      → is_end i ≡ true → loop (suc most) s os ≡ Ok (s, rest)
  last_is most s os rest i e h =
      next_is most s os rest i e
      ∙ ap (λ (b : Bool). cond b (Ok (s, rest)) (loop most (next s i) rest)) h

  -- the loop over the end alone
  pub end_completes : (s : S) → LoopCompletes loop s []
  end_completes s = record {
    behind = l.ending ∷ [];
    formed = rw l.formed refl;
    value = s;
    reads = reads;
  }
    where
      reads : (most : ℕ) (rest : List RecordOutcome) → length (Ok l.ending ∷ rest) ≤ most
          → loop most s (Ok l.ending ∷ rest) ≡ Ok (s, rest)
      reads zero rest le = absurd (omega (arith, le))
      reads (suc most) rest le =
          last_is most s (Ok l.ending ∷ rest) rest l.last (l.ends s rest) l.is_last

  -- a step that continues, and the end if the loop has none yet
  step_completes : (s : S) (before : List RawRecord) → Completes (step s) Any before
      → LoopCompletes loop s before
  step_completes s before c = go (is_end c.value) refl
    where
      go : (b : Bool) → is_end c.value ≡ b → LoopCompletes loop s before
      go true h = record { behind = c.behind; formed = c.formed; value = s; reads = reads }
        where
          reads : (most : ℕ) (rest : List RecordOutcome)
              → length (records_then (before ++ c.behind) rest) ≤ most
              → loop most s (records_then (before ++ c.behind) rest) ≡ Ok (s, rest)
          reads zero rest le =
              absurd (let k = some_step s _ _ (c.reads rest) in omega (arith, le, k))
          reads (suc most) rest le =
              last_is most s (records_then (before ++ c.behind) rest) rest c.value (c.reads rest) h
      go false h = record {
        behind = c.behind ++ l.ending ∷ [];
        formed = both_formed c.behind (l.ending ∷ []) c.formed (rw l.formed refl);
        value = next s c.value;
        reads = reads;
      }
        where
          whole : (rest : List RecordOutcome)
              → records_then (before ++ (c.behind ++ l.ending ∷ [])) rest
              ≡ records_then (before ++ c.behind) (Ok l.ending ∷ rest)
          whole rest = front_then before c.behind (l.ending ∷ []) rest

          taken : 0 < length (before ++ c.behind)
          taken = takes s (before ++ c.behind) c.value c.reads

          two : (most : ℕ) (rest : List RecordOutcome)
              → length (records_then (before ++ c.behind) (Ok l.ending ∷ rest)) ≤ most
              → loop most s (records_then (before ++ c.behind) (Ok l.ending ∷ rest))
              ≡ Ok (next s c.value, rest)
          two zero rest le =
              absurd (omega (arith, le, length_then (before ++ c.behind) (Ok l.ending ∷ rest)))
          two (suc zero) rest le =
              absurd
              (omega (arith, le, taken, length_then (before ++ c.behind) (Ok l.ending ∷ rest)))
          two (suc (suc most)) rest le =
              over_is (suc most) s (records_then (before ++ c.behind) (Ok l.ending ∷ rest))
              (Ok l.ending ∷ rest) c.value (c.reads (Ok l.ending ∷ rest)) h
              ∙ last_is most (next s c.value) (Ok l.ending ∷ rest) rest l.last
              (l.ends (next s c.value) rest) l.is_last

          reads : (most : ℕ) (rest : List RecordOutcome)
              → length (records_then (before ++ (c.behind ++ l.ending ∷ [])) rest) ≤ most
              → loop most s (records_then (before ++ (c.behind ++ l.ending ∷ [])) rest)
              ≡ Ok (next s c.value, rest)
          reads most rest le =
              ap (loop most s) (whole rest)
              ∙ two most rest (subst (λ (os : List RecordOutcome). length os ≤ most) (whole rest)
              le)

  -- what fails in a step
  step_refuses : (s : S) (all : List RecordOutcome) (offset : ℕ) → Refuses (step s) Any all offset
      → LoopRefuses loop s all offset
  step_refuses s all offset r = record {
    before = r.before;
    refused = r.refused;
    rest = r.rest;
    parts = r.parts;
    stands = r.stands;
    goes_on = step_completes s r.before r.goes_on;
    refuses = refuses;
  }
    where
      refuses : (most : ℕ) (rest : List RecordOutcome)
          → length (records_then r.before (Ok r.refused ∷ rest)) ≤ most
          → loop most s (records_then r.before (Ok r.refused ∷ rest))
          ≡ Err (fault_at Unexpected r.refused)
      refuses zero rest le = absurd (omega (arith, le, length_then r.before (Ok r.refused ∷ rest)))
      refuses (suc most) rest le =
          l.goes most s (records_then r.before (Ok r.refused ∷ rest))
          ∙ ap
          (λ (t : Reading I). t
          >>= λ i. cond (is_end i.0) (Ok (s, i.1)) (loop most (next s i.0) i.1)) (r.refuses rest)

  -- what fails after a step
  later_refuses : (s : S) (all : List RecordOutcome) (offset : ℕ) (i : I × List RecordOutcome)
      → is_end i.0 ≡ false → Reads (step s) all i → LoopRefuses loop (next s i.0) i.1 offset
      → LoopRefuses loop s all offset
  later_refuses s all offset i h r q = record {
    before = r.records ++ q.before;
    refused = q.refused;
    rest = q.rest;
    parts = parts_both all i.1 (Ok q.refused ∷ q.rest) r.records q.before r.parts q.parts;
    stands = q.stands;
    goes_on = record {
      behind = q.goes_on.behind;
      formed = q.goes_on.formed;
      value = q.goes_on.value;
      reads = reads;
    };
    refuses = refuses;
  }
    where
      taken : 0 < length r.records
      taken = takes s r.records i.0 r.same

      onward : {R : Reading S} (most : ℕ) (os : List RecordOutcome)
          → length (records_then r.records os) ≤ most
          → ((most : ℕ) → length os ≤ most → loop most (next s i.0) os ≡ R)
          → loop most s (records_then r.records os) ≡ R
      onward zero os le more = absurd (omega (arith, le, taken, length_then r.records os))
      onward (suc most) os le more =
          over_is most s (records_then r.records os) os i.0 (r.same os) h
          ∙ more most (omega (arith, le, taken, length_then r.records os))

      reads : (most : ℕ) (rest : List RecordOutcome)
          → length (records_then ((r.records ++ q.before) ++ q.goes_on.behind) rest) ≤ most
          → loop most s (records_then ((r.records ++ q.before) ++ q.goes_on.behind) rest)
          ≡ Ok (q.goes_on.value, rest)
      reads most rest le =
          let same = behind_then r.records q.before q.goes_on.behind rest in
          ap (loop most s) same
          ∙ onward most (records_then (q.before ++ q.goes_on.behind) rest)
          (subst (λ (os : List RecordOutcome). length os ≤ most) same le)
          (λ m k. q.goes_on.reads m rest k)

      refuses : (most : ℕ) (rest : List RecordOutcome)
          → length (records_then (r.records ++ q.before) (Ok q.refused ∷ rest)) ≤ most
          → loop most s (records_then (r.records ++ q.before) (Ok q.refused ∷ rest))
          ≡ Err (fault_at Unexpected q.refused)
      refuses most rest le =
          let same = records_both r.records q.before (Ok q.refused ∷ rest) in
          ap (loop most s) same
          ∙ onward most (records_then q.before (Ok q.refused ∷ rest))
          (subst (λ (os : List RecordOutcome). length os ≤ most) same le)
          (λ m k. q.refuses m rest k)

  -- if each step of a valid state refuses correctly, the loop does
  module _ (Holds : S → ℕ → Type 0)
      (onward : (s : S) (i : I) (m n : ℕ) → is_end i ≡ false → m < n → Holds s n
      → Holds (next s i) m)
      (reads : (s : S) (all : List RecordOutcome) (x : I × List RecordOutcome)
      → Holds s (length all)
      → is_end x.0 ≡ false → step s all ≡ Ok x → Reads (step s) all x)
      (fails : (s : S) (all : List RecordOutcome) (offset : ℕ) → Holds s (length all) → IsEnded all
      → step s all ≡ Err (unexpected_at offset) → Refuses (step s) Any all offset) where
    pub loop_fails : (most : ℕ) (s : S) (all : List RecordOutcome) (offset : ℕ)
        → Holds s (length all)
        → length all ≤ most → IsEnded all → loop most s all ≡ Err (unexpected_at offset)
        → LoopRefuses loop s all offset
    loop_fails zero s all offset holds le h e = absurd (subst IsEnded (empty all le) h)
    loop_fails (suc most) s all offset holds le h e =
        elim (bind_err (step s all)
        (λ i. cond (is_end i.0) (Ok (s, i.1)) (loop most (next s i.0) i.1)) (unexpected_at offset)
        (sym (l.goes most s all) ∙ e)) [
          | inl f ↦ step_refuses s all offset (fails s all offset holds h f)
          | inr i
              ↦ go i.0 i.1 i.2 (is_end i.0.0) refl
              (λ r. loop_fails most (next s i.0.0) i.0.1 offset)
        ]
      where
        go : (i : I × List RecordOutcome) → step s all ≡ Ok i
            → cond (is_end i.0) (Ok (s, i.1)) (loop most (next s i.0) i.1)
            ≡ Err (unexpected_at offset) → (b : Bool) → is_end i.0 ≡ b
            → (Unit {0} → Holds (next s i.0) (length i.1) → length i.1 ≤ most → IsEnded i.1
            → loop most (next s i.0) i.1 ≡ Err (unexpected_at offset)
            → LoopRefuses loop (next s i.0) i.1 offset)
            → LoopRefuses loop s all offset
        go i is f true p more =
            absurd
            (let k =
            sym (ap (λ (b : Bool). cond b (Ok (s, i.1)) (loop most (next s i.0) i.1)) p) ∙ f in
            cc)
        go i is f false p more =
            let r = reads s all i holds p is in
            let taken = takes s r.records i.0 r.same in
            let long : length all ≡ length r.records + length i.1 =
            ap length r.parts ∙ length_then r.records i.1 in
            let g : loop most (next s i.0) i.1 ≡ Err (unexpected_at offset) =
            sym (ap (λ (b : Bool). cond b (Ok (s, i.1)) (loop most (next s i.0) i.1)) p) ∙ f in
            later_refuses s all offset i p r
            (more tt (onward s i.0 (length i.1) (length all) p (omega (arith, taken, long)) holds)
            (omega (arith, le, taken, long)) (r.ended h) g)
