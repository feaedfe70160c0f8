-- How far the reader of a library gets.
use Rattle.std.proofs.Common.{◌≡◌, ℕ, zero, suc, ◌<◌, ◌≤◌, Bool, true, false, cond, eqb, ◌||◌, List, [], ◌∷◌, ◌++◌, length, Option, Some, is_some, Result, Ok, Err, refl, sym, ap, subst, ◌∙◌, arith, append_assoc, length-append}
use Rattle.std.proofs.lemmas.Bool.{eqb-true}
use Rattle.mpw_structures.specs.declared.structures.Structure.{Structure}
use Rattle.mpw_records.specs.declared.fault.Code.TheVariants.{Unexpected}
use Rattle.mpw_records.specs.declared.fault.ReadFault.{ReadFault}
use Rattle.mpw_records.specs.declared.kind.TheConstants.{HEADER, BGNLIB, LIBNAME, UNITS, ENDLIB, BGNSTR}
use Rattle.mpw_records.specs.Records.{RawRecord, RecordOutcome}
use Rattle.mpw_elements.specs.Reading.{Reading, ◌>>=◌, fault_at, demanded}
use Rattle.mpw_elements.specs.Derivation.{records_then}
use Rattle.mpw_elements.proofs.DerivedFields.{records_both}
use Rattle.mpw_library.specs.Grammar.{next_is, unit_of, ends_head, up_to, head, structure, next_structure, added, structures_behind, all_structures, library}
use Rattle.mpw_library.proofs.FrontLoops.{length_then}
use Rattle.mpw_library.proofs.FrontHead.{opening, library_is}
use Rattle.mpw_reader_laws.specs.FirstFault.{IsFaultOf}
use Rattle.mpw_reader_laws.proofs.Progress.{Progress, Progresses, last_of, last_behind, cons_progress, done_progress, err_progress, tested_progress, demanding, held_demanded}
use Rattle.mpw_reader_laws.proofs.Items.{Tells, next_progress, structure_progress}

-- ---- the head

module _ {V : Type 0} (wanted unwanted : ℕ) (Q : RawRecord → List RecordOutcome → Reading V) where
  abbrev up_to_then : List RecordOutcome → Reading V
  up_to_then all = up_to wanted unwanted all >>= λ x. Q x.0 x.1

  up_to_progress : eqb ENDLIB wanted ≡ false
      → ((r : RawRecord) → r.kind ≡ wanted → Progresses (Q r) r) → (h : RawRecord) → Progresses up_to_then h
  unfolding up_to
  up_to_progress inner q h [] =
      Progress.waits (λ g os. refl)
      (λ e os is.
      let other : eqb e.kind wanted ≡ false = ap (λ (k : ℕ). eqb k wanted) is ∙ inner in
      let ends : ends_head e.kind ≡ true = ap ends_head is in
      refused e os other (or_ends (eqb e.kind unwanted) (ends_head e.kind) ends))
    where
      or_ends : (a b : Bool) → b ≡ true → (a || b) ≡ true
      or_ends true b p = refl
      or_ends false b p = p

      refused : (r : RawRecord) (os : List RecordOutcome) → eqb r.kind wanted ≡ false
          → (eqb r.kind unwanted || ends_head r.kind) ≡ true
          → up_to_then (Ok r ∷ os) ≡ Err (fault_at Unexpected r)
      refused r os p k = rw (p, k) refl
  up_to_progress inner q h (r ∷ rs) =
      go (eqb r.kind wanted) (eqb r.kind unwanted || ends_head r.kind) refl refl
      (up_to_progress inner q r rs)
    where
      go : (a b : Bool) → eqb r.kind wanted ≡ a → (eqb r.kind unwanted || ends_head r.kind) ≡ b
          → Progress up_to_then r rs → Progress up_to_then h (r ∷ rs)
      go true b p k more = cons_progress up_to_then (Q r) h r rs (λ os. rw p refl)
          (q r (eqb-true r.kind wanted p) rs)
      go false true p k more =
          cons_progress up_to_then (λ os. Err (fault_at Unexpected r)) h r rs (λ os. rw (p, k) refl)
          (err_progress (fault_at Unexpected r) r (IsFaultOf.misplaced refl) rs)
      go false false p k more =
          cons_progress up_to_then up_to_then h r rs (λ os. rw (p, k) refl) more

abbrev units_then : RawRecord → List RecordOutcome → Reading ℕ
units_then r all = unit_of r >>= λ unit. Ok (unit, all)

head_progress : (h : RawRecord) → Progresses head h
unfolding head
head_progress =
    up_to_progress LIBNAME UNITS (λ r all. up_to UNITS LIBNAME all >>= λ x. units_then x.0 x.1)
    refl
    (λ r k. up_to_progress UNITS LIBNAME units_then refl
    (λ u l. tested_progress (unit_of u) (λ unit all. Ok (unit, all)) u
    (λ f e. IsFaultOf.unit l e) (λ unit e. done_progress unit u)) r)

opening_progress : (h : RawRecord) → Progresses opening h
opening_progress =
    next_progress HEADER (λ r all. next_is BGNLIB all >>= λ begin. head begin.1) refl
    (λ r k. next_progress BGNLIB (λ b. head) refl (λ b l. head_progress b) r)

-- ---- libraries

-- what the reader of a library does with these records, whatever comes after them: it waits, inside a part
-- that ENDLIB can't end or between two structures; or it has reported the fault of the last record of a front
-- of them; or it has reached ENDLIB
pub data Course {X : Type 0} (L : ℕ → List RecordOutcome → Result X ReadFault) (h : RawRecord)
    (rs : List RawRecord) : Type 0 where
  inside : ((g : ReadFault) (os : List RecordOutcome)
      → Tells L (records_then rs (Err g ∷ os)) (Err g))
      → ((e : RawRecord) (os : List RecordOutcome) → e.kind ≡ ENDLIB
      → Tells L (records_then rs (Ok e ∷ os)) (Err (fault_at Unexpected e))) → Course L h rs
  between : ((g : ReadFault) (os : List RecordOutcome)
      → Tells L (records_then rs (Err g ∷ os)) (Err g))
      → ((b : RawRecord) (os : List RecordOutcome) → b.kind ≡ BGNLIB
      → Tells L (records_then rs (Ok b ∷ os)) (Err (fault_at Unexpected b))) → (x : X)
      → ((e : RawRecord) (os : List RecordOutcome) → e.kind ≡ ENDLIB
      → Tells L (records_then rs (Ok e ∷ os)) (Ok x)) → Course L h rs
  fails : (front after : List RawRecord) → rs ≡ front ++ after → (f : ReadFault)
      → IsFaultOf (last_of h front) f
      → ((os : List RecordOutcome) → Tells L (records_then front os) (Err f)) → Course L h rs
  ends : (taken after : List RawRecord) (e : RawRecord) → rs ≡ taken ++ e ∷ after
      → e.kind ≡ ENDLIB → (x : X)
      → ((os : List RecordOutcome) → Tells L (records_then (taken ++ e ∷ []) os) (Ok x))
      → Course L h rs

-- if a reader after some records is the same as another from its start
module _ {X : Type 0} (L M : ℕ → List RecordOutcome → Result X ReadFault) (taken : List RawRecord)
    (step : (os : List RecordOutcome) (told : Result X ReadFault) → Tells M os told
    → Tells L (records_then taken os) told) where
  step_then : (ys : List RawRecord) (os : List RecordOutcome) (told : Result X ReadFault)
      → Tells M (records_then ys os) told → Tells L (records_then (taken ++ ys) os) told
  step_then ys os told t =
      subst (λ (l : List RecordOutcome). Tells L l told) (sym (records_both taken ys os))
      (step (records_then ys os) told t)

  behind_course : (h : RawRecord) (after : List RawRecord) → Course M (last_of h taken) after
      → Course L h (taken ++ after)
  behind_course h after (Course.inside a b) =
      Course.inside (λ g os. step_then after (Err g ∷ os) (Err g) (a g os))
      (λ e os is. step_then after (Ok e ∷ os) (Err (fault_at Unexpected e)) (b e os is))
  behind_course h after (Course.between a b x c) =
      Course.between (λ g os. step_then after (Err g ∷ os) (Err g) (a g os))
      (λ e os is. step_then after (Ok e ∷ os) (Err (fault_at Unexpected e)) (b e os is)) x
      (λ e os is. step_then after (Ok e ∷ os) (Ok x) (c e os is))
  behind_course h after (Course.fails front rest part f at k) =
      Course.fails (taken ++ front) rest
      (ap (λ (l : List RawRecord). taken ++ l) part ∙ sym (append_assoc taken front rest)) f
      (subst (λ (r : RawRecord). IsFaultOf r f) (sym (last_behind h taken front)) at)
      (λ os. step_then front os (Err f) (k os))
  behind_course h after (Course.ends others rest e part is x k) =
      Course.ends (taken ++ others) rest e
      (ap (λ (l : List RawRecord). taken ++ l) part ∙ sym (append_assoc taken others (e ∷ rest)))
      is x
      (λ os. subst (λ (l : List RawRecord). Tells L (records_then l os) (Ok x))
      (sym (append_assoc taken others (e ∷ []))) (step_then (others ++ e ∷ []) os (Ok x) (k os)))

-- ---- structures up to ENDLIB

module _ (unit : ℕ) where
  abbrev told : List Structure → ℕ → List RecordOutcome → Result (List Structure) ReadFault
  told ss most os = structures_behind most unit ss os >>= λ structures. Ok structures.0

  abbrev begun : List Structure → RawRecord → List RecordOutcome → Reading Structure
  begun ss = demanding BGNSTR (λ d. structure unit ss)

  abbrev onward : List Structure → ℕ → Structure × List RecordOutcome
      → Result (List Structure) ReadFault
  onward ss most s = told (ss ++ s.0 ∷ []) most s.1

  one_less : (most n : ℕ) → suc n ≤ most → (m : ℕ) × (most ≡ suc m) × (n ≤ m)
  one_less zero n le = absurd (omega (arith, le))
  one_less (suc m) n le = (m, refl, omega (arith, le))

  goes : (ss : List Structure) (r : RawRecord) → eqb r.kind ENDLIB ≡ false → (most : ℕ)
      → (os : List RecordOutcome)
      → told ss (suc most) (Ok r ∷ os) ≡ (begun ss r os >>= onward ss most)
  unfolding structures_behind next_structure
  goes ss r p most os = rw p (demands (demanded BGNSTR r))
    where
      abbrev_next : Reading (Option Structure) → Result (List Structure) ReadFault
      abbrev_next t =
          (t
          >>= λ next. cond (is_some next.0) (structures_behind most unit (ss ++ added next.0) next.1)
          (Ok (ss, next.1))) >>= λ structures. Ok structures.0

      one : (t : Reading Structure)
          → abbrev_next (t >>= λ s. Ok (Some s.0, s.1)) ≡ (t >>= onward ss most)
      one (Ok s) = refl
      one (Err f) = refl

      demands : (t : Result RawRecord ReadFault)
          → abbrev_next (t >>= λ begin. structure unit ss os >>= λ s. Ok (Some s.0, s.1))
          ≡ ((t >>= λ d. structure unit ss os) >>= onward ss most)
      demands (Ok d) = one (structure unit ss os)
      demands (Err f) = refl

  goes_to : (ss : List Structure) (r : RawRecord) → eqb r.kind ENDLIB ≡ false
      → (os : List RecordOutcome) (t : Reading Structure) → begun ss r os ≡ t
      → (result : Result (List Structure) ReadFault)
      → ((most : ℕ) → length os ≤ most → (t >>= onward ss most) ≡ result)
      → Tells (told ss) (Ok r ∷ os) result
  goes_to ss r p os t is result more most le =
      let m = one_less most (length os) le in
      ap (λ (n : ℕ). told ss n (Ok r ∷ os)) m.1 ∙ goes ss r p m.0 os
      ∙ ap (λ (u : Reading Structure). u >>= onward ss m.0) is ∙ more m.0 m.2

  first : (ss : List Structure) (o : RecordOutcome) (os : List RecordOutcome)
      (result : Result (List Structure) ReadFault)
      → ((most : ℕ) → told ss (suc most) (o ∷ os) ≡ result) → Tells (told ss) (o ∷ os) result
  first ss o os result same most le =
      let m = one_less most (length os) le in
      ap (λ (n : ℕ). told ss n (o ∷ os)) m.1 ∙ same m.0

  err_first : (ss : List Structure) (g : ReadFault) (os : List RecordOutcome)
      → Tells (told ss) (Err g ∷ os) (Err g)
  unfolding structures_behind next_structure
  err_first ss g os = first ss (Err g) os (Err g) (λ most. refl)

  end_first : (ss : List Structure) (e : RawRecord) (os : List RecordOutcome) → e.kind ≡ ENDLIB
      → Tells (told ss) (Ok e ∷ os) (Ok ss)
  unfolding structures_behind next_structure
  end_first ss e os is =
      let p : eqb e.kind ENDLIB ≡ true = ap (λ (k : ℕ). eqb k ENDLIB) is in
      first ss (Ok e) os (Ok ss) (λ most. rw p refl)

  begin_first : (ss : List Structure) (b : RawRecord) (os : List RecordOutcome) → b.kind ≡ BGNLIB
      → Tells (told ss) (Ok b ∷ os) (Err (fault_at Unexpected b))
  unfolding structures_behind next_structure demanded
  begin_first ss b os is =
      let p : eqb b.kind ENDLIB ≡ false = ap (λ (k : ℕ). eqb k ENDLIB) is in
      let q : eqb b.kind BGNSTR ≡ false = ap (λ (k : ℕ). eqb k BGNSTR) is in
      first ss (Ok b) os (Err (fault_at Unexpected b)) (λ most. rw (p, q) refl)

  abbrev Again : ℕ → Type 0
  Again n =
      (ts : List Structure) (g : RawRecord) (qs : List RawRecord) → length qs < n
      → Course (told ts) g qs

  structures_course : (n : ℕ) (ss : List Structure) (h : RawRecord) (rs : List RawRecord)
      → length rs < n → Course (told ss) h rs
  structures_course zero ss h rs lt = absurd (omega (arith, lt))
  structures_course (suc n) ss h [] lt =
      Course.between (err_first ss) (begin_first ss) ss (end_first ss)
  structures_course (suc n) ss h (r ∷ rs) lt =
      go (λ ts g qs k. structures_course n ts g qs k) (eqb r.kind ENDLIB) refl
      ((held_demanded BGNSTR (λ d. structure unit ss) refl
      (λ d k. structure_progress unit ss d)).progress r rs)
    where
      go : Again n → (b : Bool) → eqb r.kind ENDLIB ≡ b → Progress (begun ss r) r rs
          → Course (told ss) h (r ∷ rs)
      go again true p t =
          let is = eqb-true r.kind ENDLIB p in
          Course.ends [] rs r refl is ss (λ os. end_first ss r os is)
      go again false p (Progress.waits a b) =
          Course.inside
          (λ g os. goes_to ss r p (records_then rs (Err g ∷ os)) (Err g) (a g os) (Err g)
          (λ most le. refl))
          (λ e os is. goes_to ss r p (records_then rs (Ok e ∷ os)) (Err (fault_at Unexpected e))
          (b e os is) (Err (fault_at Unexpected e)) (λ most le. refl))
      go again false p (Progress.fails front after is f at e) =
          Course.fails (r ∷ front) after (ap (λ (l : List RawRecord). r ∷ l) is) f at
          (λ os. goes_to ss r p (records_then front os) (Err f) (e os) (Err f) (λ most le. refl))
      go again false p (Progress.gives taken after is s e) =
          let long = ap length is ∙ length-append taken after in
          let c =
          again (ss ++ s ∷ []) (last_of r taken) after (omega (arith, long, lt)) in
          rw is
          (behind_course (told ss) (told (ss ++ s ∷ [])) (r ∷ taken)
          (λ os result t. goes_to ss r p (records_then taken os) (Ok (s, os)) (e os) result
          (λ most le. t most (omega (arith, le, length_then taken os)))) h after c)

-- ---- a library

abbrev pub whole : ℕ → List RecordOutcome → Result (List Structure) ReadFault
whole most os = library os

abbrev structures_then : ℕ × List RecordOutcome → Result (List Structure) ReadFault
structures_then unit = all_structures unit.0 unit.1 >>= λ structures. Ok structures.0

pub library_course : (h : RawRecord) (rs : List RawRecord) → Course whole h rs
library_course h rs = go (opening_progress h rs)
  where
    opens : (os : List RecordOutcome) (t : Reading ℕ) → opening os ≡ t
        → library os ≡ (t >>= structures_then)
    opens os t is = library_is os ∙ ap (λ (u : Reading ℕ). u >>= structures_then) is

    go : Progress opening h rs → Course whole h rs
    go (Progress.waits a b) =
        Course.inside (λ g os most le. opens (records_then rs (Err g ∷ os)) (Err g) (a g os))
        (λ e os is most le. opens (records_then rs (Ok e ∷ os)) (Err (fault_at Unexpected e))
        (b e os is))
    go (Progress.fails front after is f at e) =
        Course.fails front after is f at
        (λ os most le. opens (records_then front os) (Err f) (e os))
    go (Progress.gives taken after is unit e) =
        rw is
        (behind_course whole (told unit []) taken
        (λ os result t most le. opens (records_then taken os) (Ok (unit, os)) (e os)
        ∙ t (length os) (omega arith)) h after
        (structures_course unit (suc (length after)) [] (last_of h taken) after (omega arith)))
