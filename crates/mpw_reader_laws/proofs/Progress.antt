-- How far a reader gets with a list of records, whatever comes after them.
use Rattle.std.proofs.Common.{◌≡◌, ℕ, Bool, true, false, cond, eqb, List, [], ◌∷◌, ◌++◌, Result, Ok, Err, refl, sym, ap, subst, ◌∙◌, append_assoc}
use Rattle.std.proofs.lemmas.Bool.{eqb-true}
use Rattle.mpw_records.specs.declared.fault.Code.TheVariants.{Unexpected}
use Rattle.mpw_records.specs.declared.fault.ReadFault.{ReadFault}
use Rattle.mpw_records.specs.declared.kind.TheConstants.{ENDLIB}
use Rattle.mpw_records.specs.Records.{RawRecord, RecordOutcome}
use Rattle.mpw_elements.specs.Reading.{Reading, ◌>>=◌, is_skipped, field, demanded, expected, optional, fault_at}
use Rattle.mpw_elements.specs.Derivation.{records_then}
use Rattle.mpw_reader_laws.specs.FirstFault.{IsFaultOf}
use Rattle.mpw_elements.proofs.DerivedFields.{records_both, done}

-- the last of some records, after one that was read before them
abbrev pub last_of : RawRecord → List RawRecord → RawRecord
last_of h [] = h
last_of h (r ∷ rs) = last_of r rs

-- what a reader does with these records, whatever comes after them: it waits for the next, which can't be
-- ENDLIB; or it has reported the fault of the last record of a front of them; or it has returned a value
-- after such a front
pub data Progress {V : Type 0} (P : List RecordOutcome → Reading V) (h : RawRecord)
    (rs : List RawRecord) : Type 0 where
  waits : ((g : ReadFault) (os : List RecordOutcome) → P (records_then rs (Err g ∷ os)) ≡ Err g)
      → ((e : RawRecord) (os : List RecordOutcome) → e.kind ≡ ENDLIB
      → P (records_then rs (Ok e ∷ os)) ≡ Err (fault_at Unexpected e)) → Progress P h rs
  fails : (front after : List RawRecord) → rs ≡ front ++ after → (f : ReadFault)
      → IsFaultOf (last_of h front) f
      → ((os : List RecordOutcome) → P (records_then front os) ≡ Err f) → Progress P h rs
  gives : (taken after : List RawRecord) → rs ≡ taken ++ after → (v : V)
      → ((os : List RecordOutcome) → P (records_then taken os) ≡ Ok (v, os)) → Progress P h rs

abbrev pub Progresses : {V : Type 0} → (List RecordOutcome → Reading V) → RawRecord → Type 0
Progresses P h = (rs : List RawRecord) → Progress P h rs

-- ---- small steps

pub as_progress : {V : Type 0} (P Q : List RecordOutcome → Reading V) (h : RawRecord)
    (rs : List RawRecord) → ((os : List RecordOutcome) → P os ≡ Q os) → Progress Q h rs
    → Progress P h rs
as_progress P Q h rs same (Progress.waits a b) =
    Progress.waits (λ g os. same (records_then rs (Err g ∷ os)) ∙ a g os)
    (λ e os is. same (records_then rs (Ok e ∷ os)) ∙ b e os is)
as_progress P Q h rs same (Progress.fails front after is f at e) =
    Progress.fails front after is f at (λ os. same (records_then front os) ∙ e os)
as_progress P Q h rs same (Progress.gives taken after is v e) =
    Progress.gives taken after is v (λ os. same (records_then taken os) ∙ e os)

-- a record, and a reader of what comes after it
pub cons_progress : {V : Type 0} (P Q : List RecordOutcome → Reading V) (h r : RawRecord)
    (rs : List RawRecord) → ((os : List RecordOutcome) → P (Ok r ∷ os) ≡ Q os) → Progress Q r rs
    → Progress P h (r ∷ rs)
cons_progress P Q h r rs same (Progress.waits a b) =
    Progress.waits (λ g os. same (records_then rs (Err g ∷ os)) ∙ a g os)
    (λ e os is. same (records_then rs (Ok e ∷ os)) ∙ b e os is)
cons_progress P Q h r rs same (Progress.fails front after is f at e) =
    Progress.fails (r ∷ front) after (ap (λ (l : List RawRecord). r ∷ l) is) f at
    (λ os. same (records_then front os) ∙ e os)
cons_progress P Q h r rs same (Progress.gives taken after is v e) =
    Progress.gives (r ∷ taken) after (ap (λ (l : List RawRecord). r ∷ l) is) v
    (λ os. same (records_then taken os) ∙ e os)

pub done_progress : {V : Type 0} (v : V) (h : RawRecord) → Progresses (λ os. Ok (v, os)) h
done_progress v h rs = Progress.gives [] rs refl v (λ os. refl)

-- a fault of the record that was read last
pub err_progress : {V : Type 0} (f : ReadFault) (h : RawRecord) → IsFaultOf h f
    → Progresses {V = V} (λ os. Err f) h
err_progress f h at rs = Progress.fails [] rs refl f at (λ os. refl)

pub choice_progress : {V : Type 0} (b : Bool) (P Q : List RecordOutcome → Reading V)
    (h : RawRecord) → Progresses P h → Progresses Q h → Progresses (λ os. cond b (P os) (Q os)) h
choice_progress true P Q h p q = p
choice_progress false P Q h p q = q

-- a test whose fault is one of the record that was read last
abbrev pub IsAt : {W : Type 0} → RawRecord → Result W ReadFault → Type 0
IsAt h t = (f : ReadFault) → t ≡ Err f → IsFaultOf h f

pub tested_progress : {W V : Type 0} (t : Result W ReadFault) (Q : W → List RecordOutcome
    → Reading V)
    (h : RawRecord) → IsAt h t → ((w : W) → t ≡ Ok w → Progresses (Q w) h)
    → Progresses (λ os. t >>= λ w. Q w os) h
tested_progress (Ok w) Q h at q = q w refl
tested_progress (Err f) Q h at q = err_progress f h (at f refl)

pub last_behind : (h : RawRecord) (xs ys : List RawRecord)
    → last_of h (xs ++ ys) ≡ last_of (last_of h xs) ys
last_behind h [] ys = refl
last_behind h (x ∷ xs) ys = last_behind x xs ys

abbrev pub then_reader : {V X : Type 0} → (List RecordOutcome → Reading V)
    → (V → List RecordOutcome → Reading X) → List RecordOutcome → Reading X
then_reader P Q all = P all >>= λ x. Q x.0 x.1

module _ {V X : Type 0} (P : List RecordOutcome → Reading V) (Q : V → List RecordOutcome
    → Reading X) where
  behind : (taken rs : List RawRecord) (v : V)
      → ((os : List RecordOutcome) → P (records_then taken os) ≡ Ok (v, os))
      → (os : List RecordOutcome)
      → then_reader P Q (records_then (taken ++ rs) os) ≡ Q v (records_then rs os)
  behind taken rs v e os =
      ap (then_reader P Q) (records_both taken rs os)
      ∙ ap (λ (y : Reading V). y >>= λ x. Q x.0 x.1) (e (records_then rs os))

  -- a reader, and what it does after its value
  pub then_progress : (h : RawRecord) → Progresses P h
      → ((v : V) (g : RawRecord) → Progresses (Q v) g) → Progresses (then_reader P Q) h
  then_progress h p q rs = go (p rs)
    where
      later : (taken after : List RawRecord) (v : V) → rs ≡ taken ++ after
          → ((os : List RecordOutcome) → P (records_then taken os) ≡ Ok (v, os))
          → Progress (Q v) (last_of h taken) after → Progress (then_reader P Q) h rs
      later taken after v is e (Progress.waits a b) =
          rw is (Progress.waits (λ g os. behind taken after v e (Err g ∷ os) ∙ a g os)
          (λ c os k. behind taken after v e (Ok c ∷ os) ∙ b c os k))
      later taken after v is e (Progress.fails front rest part f at k) =
          Progress.fails (taken ++ front) rest
          (is ∙ ap (λ (l : List RawRecord). taken ++ l) part ∙ sym (append_assoc taken front rest)) f
          (subst (λ (r : RawRecord). IsFaultOf r f) (sym (last_behind h taken front)) at)
          (λ os. behind taken front v e os ∙ k os)
      later taken after v is e (Progress.gives more rest part w k) =
          Progress.gives (taken ++ more) rest
          (is ∙ ap (λ (l : List RawRecord). taken ++ l) part ∙ sym (append_assoc taken more rest)) w
          (λ os. behind taken more v e os ∙ k os)

      go : Progress P h rs → Progress (then_reader P Q) h rs
      go (Progress.waits a b) =
          Progress.waits (λ g os. ap (λ (y : Reading V). y >>= λ x. Q x.0 x.1) (a g os))
          (λ e os is. ap (λ (y : Reading V). y >>= λ x. Q x.0 x.1) (b e os is))
      go (Progress.fails front after is f at e) =
          Progress.fails front after is f at
          (λ os. ap (λ (y : Reading V). y >>= λ x. Q x.0 x.1) (e os))
      go (Progress.gives taken after is v e) =
          later taken after v is e (q v (last_of h taken) after)

-- ---- readers of a record at hand

-- what such a reader does with a record, and that it refuses ENDLIB
pub record Held {V : Type 0} (K : RawRecord → List RecordOutcome → Reading V) : Type 0 where
  pub progress : (r : RawRecord) → Progresses (K r) r
  pub refuses : (e : RawRecord) (os : List RecordOutcome) → e.kind ≡ ENDLIB
      → K e os ≡ Err (fault_at Unexpected e)

module _ {V : Type 0} (kind : ℕ) (Q : RawRecord → List RecordOutcome → Reading V) where
  abbrev pub demanding : RawRecord → List RecordOutcome → Reading V
  demanding r rs = demanded kind r >>= λ d. Q d rs

  pub held_demanded : eqb ENDLIB kind ≡ false
      → ((r : RawRecord) → r.kind ≡ kind → Progresses (Q r) r) → Held demanding
  unfolding demanded
  held_demanded inner q = record {
    progress = λ r. go r (eqb r.kind kind) refl;
    refuses = λ e os is. rw (is, inner) refl;
  }
    where
      go : (r : RawRecord) (b : Bool) → eqb r.kind kind ≡ b
          → Progresses (λ rs. cond b (Ok r) (Err (fault_at Unexpected r)) >>= λ d. Q d rs) r
      go r true p = q r (eqb-true r.kind kind p)
      go r false p = err_progress (fault_at Unexpected r) r (IsFaultOf.misplaced refl)

module _ {V : Type 0} (start : ℕ) (K : RawRecord → List RecordOutcome → Reading V) where
  abbrev pub fielded : List RecordOutcome → Reading V
  fielded all = field start all >>= λ n. K n.0 n.1

  -- a record that isn't skipped, and a reader of it
  pub fielded_progress : Held K → (h : RawRecord) → Progresses fielded h
  unfolding field
  fielded_progress k h [] =
      Progress.waits (λ g os. refl)
      (λ e os is. kept e (ap is_skipped is) os ∙ k.refuses e os is)
    where
      kept : (r : RawRecord) → is_skipped r.kind ≡ false → (os : List RecordOutcome)
          → fielded (Ok r ∷ os) ≡ K r os
      kept r p os = rw p refl
  fielded_progress k h (r ∷ rs) = go (is_skipped r.kind) refl (fielded_progress k r rs)
    where
      over : is_skipped r.kind ≡ true → (os : List RecordOutcome)
          → fielded (Ok r ∷ os) ≡ fielded os
      over p os = rw p refl

      kept : is_skipped r.kind ≡ false → (os : List RecordOutcome) → fielded (Ok r ∷ os) ≡ K r os
      kept p os = rw p refl

      go : (b : Bool) → is_skipped r.kind ≡ b → Progress fielded r rs
          → Progress fielded h (r ∷ rs)
      go true p more = cons_progress fielded fielded h r rs (over p) more
      go false p more = cons_progress fielded (K r) h r rs (kept p) (k.progress r rs)

-- ---- one step after two

pub bind_bind : {A B C : Type 0} (t : Result A ReadFault) (f : A → Result B ReadFault)
    (g : B → Result C ReadFault) → ((t >>= f) >>= g) ≡ (t >>= λ x. f x >>= g)
bind_bind (Ok x) f g = refl
bind_bind (Err e) f g = refl

pub bind_same : {A B : Type 0} (t : Result A ReadFault) (f g : A → Result B ReadFault)
    → ((x : A) → f x ≡ g x) → (t >>= f) ≡ (t >>= g)
bind_same (Ok x) f g same = same x
bind_same (Err e) f g same = refl

-- ---- records of a type

module _ {V : Type 0} (start kind : ℕ) (Q : RawRecord → List RecordOutcome → Reading V) where
  abbrev pub expecting : List RecordOutcome → Reading V
  expecting all = expected start kind all >>= λ x. Q x.0 x.1

  expecting_same : (all : List RecordOutcome)
      → expecting all ≡ fielded start (demanding kind Q) all
  unfolding expected
  expecting_same all =
      bind_bind (field start all) (λ next. demanded kind next.0 >>= λ r. Ok (r, next.1))
      (λ x. Q x.0 x.1)
      ∙ bind_same (field start all)
      (λ next. (demanded kind next.0 >>= λ r. Ok (r, next.1)) >>= λ x. Q x.0 x.1)
      (λ n. demanding kind Q n.0 n.1)
      (λ n. bind_bind (demanded kind n.0) (λ r. Ok (r, n.1)) (λ x. Q x.0 x.1))

  pub expected_progress : eqb ENDLIB kind ≡ false
      → ((r : RawRecord) → r.kind ≡ kind → Progresses (Q r) r) → (h : RawRecord) → Progresses expecting h
  expected_progress inner q h rs =
      as_progress expecting (fielded start (demanding kind Q)) h rs expecting_same
      (fielded_progress start (demanding kind Q) (held_demanded kind Q inner q) h rs)

-- ---- a record that may be absent

module _ {W V : Type 0} (start kind : ℕ) (value : RawRecord → Result W ReadFault) (default : W)
    (Q : W → RawRecord → List RecordOutcome → Reading V) where
  abbrev pub opting : RawRecord → List RecordOutcome → Reading V
  opting r rs = optional start kind value default r rs >>= λ x. Q x.0.0 x.0.1 x.1

  abbrev present : RawRecord → List RecordOutcome → Reading V
  present r rs = value r >>= λ v. fielded start (Q v) rs

  abbrev next_of : List RecordOutcome → W → Reading (W × RawRecord)
  next_of rs v = field start rs >>= λ next. Ok ((v, next.0), next.1)

  abbrev seen_by : (W × RawRecord) × List RecordOutcome → Reading V
  seen_by x = Q x.0.0 x.0.1 x.1

  abbrev either : Bool → RawRecord → List RecordOutcome → Reading (W × RawRecord)
  either b r rs = cond b (value r >>= next_of rs) (Ok ((default, r), rs))

  present_same : (r : RawRecord) (rs : List RecordOutcome)
      → ((value r >>= next_of rs) >>= seen_by) ≡ present r rs
  present_same r rs =
      bind_bind (value r) (next_of rs) seen_by
      ∙ bind_same (value r) (λ v. next_of rs v >>= seen_by) (λ v. fielded start (Q v) rs)
      (λ v. nexts v (field start rs))
    where
      nexts : (v : W) (t : Reading RawRecord)
          → ((t >>= λ next. done ((v, next.0), next.1)) >>= seen_by) ≡ (t >>= λ n. Q v n.0 n.1)
      nexts v (Ok n) = refl
      nexts v (Err f) = refl

  pub held_optional : eqb ENDLIB kind ≡ false
      → ((r : RawRecord) → r.kind ≡ kind → IsAt r (value r))
      → ((v : W) → Held (Q v)) → Held opting
  unfolding optional
  held_optional inner own q = record {
    progress = λ r. go r (eqb r.kind kind) refl;
    refuses = λ e os is.
        let other : eqb e.kind kind ≡ false = ap (λ (k : ℕ). eqb k kind) is ∙ inner in
        rw other ((q default).refuses e os is);
  }
    where
      go : (r : RawRecord) (b : Bool) → eqb r.kind kind ≡ b
          → Progresses (λ rs. either b r rs >>= seen_by) r
      go r true p = λ rs.
          as_progress (λ rs. either true r rs >>= seen_by) (present r) r rs (present_same r)
          (tested_progress (value r) (λ v. fielded start (Q v)) r (own r (eqb-true r.kind kind p))
          (λ v e. fielded_progress start (Q v) (q v) r) rs)
      go r false p = (q default).progress r
