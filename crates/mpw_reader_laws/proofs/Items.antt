-- How far the readers of a structure get.
use Rattle.std.proofs.Common.{◌≡◌, ℕ, zero, suc, ◌-◌, ◌<◌, ◌≤◌, Bool, true, false, cond, eqb, List, [], ◌∷◌, ◌++◌, length, Option, Some, None, Result, Ok, Err, refl, sym, ap, subst, ◌∙◌, arith, append_assoc, length-append, inl}
use Rattle.mpw_structures.specs.declared.element.Element.{Element}
use Rattle.mpw_structures.specs.declared.structures.Structure.{Structure}
use Rattle.mpw_structures.specs.Places.{place_of}
use Rattle.mpw_records.specs.declared.fault.Code.TheVariants.{Short, Unexpected, DoubleName}
use Rattle.mpw_records.specs.declared.fault.ReadFault.{ReadFault}
use Rattle.mpw_records.specs.declared.kind.TheConstants.{ENDLIB, ENDSTR, STRNAME}
use Rattle.mpw_records.specs.Records.{RawRecord, RecordOutcome}
use Rattle.mpw_elements.specs.Reading.{Reading, ◌>>=◌, fault_at, demanded}
use Rattle.mpw_elements.specs.Values.{name_of}
use Rattle.mpw_elements.specs.Grammar.{element}
use Rattle.mpw_elements.specs.Derivation.{records_then}
use Rattle.mpw_elements.proofs.DerivedFields.{records_both}
use Rattle.mpw_library.specs.declared.read.Item.{Item}
use Rattle.mpw_library.specs.declared.read.Item.TheVariants as items
use Rattle.mpw_library.specs.Grammar.{next_is, is_between, item_of, item, is_end, placed, elements_behind, all_elements, untaken, structure}
use Rattle.mpw_library.proofs.FrontLoops.{length_then}
use Rattle.mpw_reader_laws.specs.FirstFault.{IsFaultOf}
use Rattle.mpw_reader_laws.proofs.Progress.{Progress, Progresses, IsAt, Held, last_of, last_behind, cons_progress, done_progress, choice_progress, tested_progress, demanding, held_demanded, bind_bind}
use Rattle.mpw_reader_laws.proofs.Elements.{mapped_progress, element_progress, element_refuses}

-- ---- the next record, which must be of a type

module _ {V : Type 0} (kind : ℕ) (Q : RawRecord → List RecordOutcome → Reading V) where
  abbrev pub nexting : List RecordOutcome → Reading V
  nexting all = next_is kind all >>= λ x. Q x.0 x.1

  pub next_progress : eqb ENDLIB kind ≡ false
      → ((r : RawRecord) → r.kind ≡ kind → Progresses (Q r) r) → (h : RawRecord) → Progresses nexting h
  unfolding next_is
  next_progress inner q h rs = go rs
    where
      same : (r : RawRecord) (os : List RecordOutcome)
          → nexting (Ok r ∷ os) ≡ demanding kind Q r os
      same r os = bind_bind (demanded kind r) (λ d. Ok (d, os)) (λ x. Q x.0 x.1)

      k : Held (demanding kind Q)
      k = held_demanded kind Q inner q

      go : (rs : List RawRecord) → Progress nexting h rs
      go [] = Progress.waits (λ g os. refl) (λ e os is. same e os ∙ k.refuses e os is)
      go (r ∷ rs) = cons_progress nexting (demanding kind Q r) h r rs (same r) (k.progress r rs)

-- ---- what is next in a structure

module _ (unit : ℕ) where
  abbrev found : RawRecord → List RecordOutcome → Reading Item
  found r os = element unit r os >>= λ e. Ok (item_of e.0, e.1)

  pub item_progress : (h : RawRecord) → Progresses (item unit) h
  unfolding item
  item_progress h [] =
      Progress.waits (λ g os. refl)
      (λ e os is.
      let not_end : eqb e.kind ENDSTR ≡ false = ap (λ (k : ℕ). eqb k ENDSTR) is in
      let not_between : is_between e.kind ≡ false = ap is_between is in
      rw (not_end, not_between)
      (ap (λ (t : Reading (Option Element)). t >>= λ e. Ok (item_of e.0, e.1))
      (element_refuses unit e os is)))
  item_progress h (r ∷ rs) =
      cons_progress (item unit)
      (λ os. cond (eqb r.kind ENDSTR) (Ok (items.End, os))
      (cond (is_between r.kind) (Ok (items.Other, os)) (found r os))) h r rs (λ os. refl)
      (choice_progress (eqb r.kind ENDSTR) (λ os. Ok (items.End, os))
      (λ os. cond (is_between r.kind) (Ok (items.Other, os)) (found r os)) r
      (done_progress items.End r)
      (choice_progress (is_between r.kind) (λ os. Ok (items.Other, os)) (found r) r
      (done_progress items.Other r)
      (mapped_progress (element unit r) item_of r (element_progress unit r))) rs)

  pub item_waits : (g : ReadFault) (os : List RecordOutcome) → item unit (Err g ∷ os) ≡ Err g
  unfolding item
  item_waits g os = refl

-- ---- loops with a bound on their steps

-- with at least as many steps as there are records
abbrev pub Tells : {V : Type 0} → (ℕ → List RecordOutcome → Result V ReadFault)
    → List RecordOutcome → Result V ReadFault → Type 0
Tells L os told = (most : ℕ) → length os ≤ most → L most os ≡ told

pub data Loops {V : Type 0} (L : ℕ → List RecordOutcome → Reading V) (h : RawRecord)
    (rs : List RawRecord) : Type 0 where
  waits : ((g : ReadFault) (os : List RecordOutcome) → Tells L (records_then rs (Err g ∷ os)) (Err g))
      → ((e : RawRecord) (os : List RecordOutcome) → e.kind ≡ ENDLIB
      → Tells L (records_then rs (Ok e ∷ os)) (Err (fault_at Unexpected e))) → Loops L h rs
  fails : (front after : List RawRecord) → rs ≡ front ++ after → (f : ReadFault)
      → IsFaultOf (last_of h front) f
      → ((os : List RecordOutcome) → Tells L (records_then front os) (Err f)) → Loops L h rs
  gives : (taken after : List RawRecord) → rs ≡ taken ++ after → (v : V)
      → ((os : List RecordOutcome) → Tells L (records_then taken os) (Ok (v, os))) → Loops L h rs

loop_progress : {V : Type 0} (L : ℕ → List RecordOutcome → Reading V) (h : RawRecord)
    (rs : List RawRecord) → Loops L h rs → Progress (λ os. L (length os) os) h rs
loop_progress L h rs (Loops.waits a b) =
    Progress.waits (λ g os. a g os _ (omega arith)) (λ e os is. b e os is _ (omega arith))
loop_progress L h rs (Loops.fails front after is f at e) =
    Progress.fails front after is f at (λ os. e os _ (omega arith))
loop_progress L h rs (Loops.gives taken after is v e) =
    Progress.gives taken after is v (λ os. e os _ (omega arith))

-- a reader can't report one fault for every next fault
pub one_fault : {V : Type 0} (f g : ReadFault) (told : Reading V) → told ≡ Err f → told ≡ Err g
    → f ≡ g
one_fault f g told a b = let e = sym a ∙ b in cc

abbrev pub marked : ℕ → ReadFault
marked offset = record { code = Short; offset = offset }

pub not_every : (f : ReadFault) → f ≡ marked 0 → f ≡ marked 1 → ⊥
not_every f a b = let e = ap (λ (g : ReadFault). g.offset) (sym a ∙ b) in cc

module _ (unit : ℕ) where
  abbrev rows : List Element → ℕ → List RecordOutcome → Reading (List Element)
  rows es most os = elements_behind most unit es os

  abbrev onward : ℕ → List Element → Item × List RecordOutcome → Reading (List Element)
  onward most es i = cond (is_end i.0) (Ok (es, i.1)) (rows (es ++ placed i.0) most i.1)

  goes : (es : List Element) (most : ℕ) (os : List RecordOutcome) → 0 < length os
      → length os ≤ most → rows es most os ≡ (item unit os >>= onward (most - 1) es)
  unfolding elements_behind
  goes es zero os some le = absurd (omega (arith, some, le))
  goes es (suc most) os some le =
      let one : most ≡ suc most - 1 = omega arith in
      ap (λ (n : ℕ). item unit os >>= onward n es) one

  some_then : (rs : List RawRecord) (o : RecordOutcome) (os : List RecordOutcome)
      → 0 < length (records_then rs (o ∷ os))
  some_then rs o os = omega (arith, length_then rs (o ∷ os))

  abbrev Again : ℕ → Type 0
  Again n =
      (fs : List Element) (g : RawRecord) (ss : List RawRecord) → length ss < n
      → Loops (rows fs) g ss

  -- the elements up to ENDSTR, after others
  elements_loops : (n : ℕ) (es : List Element) (h : RawRecord) (rs : List RawRecord)
      → length rs < n → Loops (rows es) h rs
  elements_loops zero es h rs lt = absurd (omega (arith, lt))
  elements_loops (suc n) es h rs lt =
      go (λ fs g ss k. elements_loops n fs g ss k) (item_progress unit h rs)
    where
      later : (r : RawRecord) (tk after : List RawRecord) → rs ≡ (r ∷ tk) ++ after → (i : Item)
          → ((os : List RecordOutcome) → item unit (records_then (r ∷ tk) os) ≡ Ok (i, os))
          → is_end i ≡ false → Loops (rows (es ++ placed i)) (last_of h (r ∷ tk)) after
          → Loops (rows es) h rs
      later r tk after is i e p l = more l
        where
          step : (ys : List RawRecord) (os : List RecordOutcome) (told : Reading (List Element))
              → Tells (rows (es ++ placed i)) (records_then ys os) told
              → Tells (rows es) (records_then ((r ∷ tk) ++ ys) os) told
          step ys os told t most le =
              let both = records_both (r ∷ tk) ys os in
              let long = length_then tk (records_then ys os) in
              let le2 : length (records_then (r ∷ tk) (records_then ys os)) ≤ most =
              subst (λ (l : List RecordOutcome). length l ≤ most) both le in
              ap (rows es most) both
              ∙ goes es most (records_then (r ∷ tk) (records_then ys os)) (omega arith) le2
              ∙ ap (λ (t : Reading Item). t >>= onward (most - 1) es) (e (records_then ys os))
              ∙ ap
              (λ (b : Bool). cond b (Ok (es, records_then ys os))
              (rows (es ++ placed i) (most - 1) (records_then ys os))) p
              ∙ t (most - 1) (omega (arith, le2, long))

          more : Loops (rows (es ++ placed i)) (last_of h (r ∷ tk)) after → Loops (rows es) h rs
          more (Loops.waits a b) =
              rw is (Loops.waits (λ g os. step after (Err g ∷ os) (Err g) (a g os))
              (λ c os k. step after (Ok c ∷ os) (Err (fault_at Unexpected c)) (b c os k)))
          more (Loops.fails front rest part f at k) =
              Loops.fails ((r ∷ tk) ++ front) rest
              (is ∙ ap (λ (l : List RawRecord). (r ∷ tk) ++ l) part
              ∙ sym (append_assoc (r ∷ tk) front rest)) f
              (subst (λ (x : RawRecord). IsFaultOf x f) (sym (last_behind h (r ∷ tk) front)) at)
              (λ os. step front os (Err f) (k os))
          more (Loops.gives others rest part w k) =
              Loops.gives ((r ∷ tk) ++ others) rest
              (is ∙ ap (λ (l : List RawRecord). (r ∷ tk) ++ l) part
              ∙ sym (append_assoc (r ∷ tk) others rest)) w
              (λ os. step others os (Ok (w, os)) (k os))

      given : Again n → (r : RawRecord) (tk after : List RawRecord) → rs ≡ (r ∷ tk) ++ after
          → (i : Item)
          → ((os : List RecordOutcome) → item unit (records_then (r ∷ tk) os) ≡ Ok (i, os))
          → (b : Bool) → is_end i ≡ b → Loops (rows es) h rs
      given again r tk after is i e true p =
          Loops.gives (r ∷ tk) after is es
          (λ os most le. goes es most (records_then (r ∷ tk) os) (omega arith) le
          ∙ ap (λ (t : Reading Item). t >>= onward (most - 1) es) (e os)
          ∙ ap (λ (b : Bool). cond b (Ok (es, os)) (rows (es ++ placed i) (most - 1) os)) p)
      given again r tk after is i e false p =
          let long = ap length is ∙ length-append (r ∷ tk) after in
          later r tk after is i e p
          (again (es ++ placed i) (last_of h (r ∷ tk)) after (omega (arith, long, lt)))

      go : Again n → Progress (item unit) h rs → Loops (rows es) h rs
      go again (Progress.waits a b) =
          Loops.waits
          (λ g os most le. goes es most (records_then rs (Err g ∷ os)) (some_then rs (Err g) os) le
          ∙ ap (λ (t : Reading Item). t >>= onward (most - 1) es) (a g os))
          (λ c os k most le. goes es most (records_then rs (Ok c ∷ os)) (some_then rs (Ok c) os) le
          ∙ ap (λ (t : Reading Item). t >>= onward (most - 1) es) (b c os k))
      go again (Progress.fails [] after is f at e) =
          let is_marked : (n : ℕ) → f ≡ marked n =
          λ n. one_fault f (marked n) (item unit (Err (marked n) ∷ [])) (e (Err (marked n) ∷ []))
          (item_waits unit (marked n) []) in
          absurd (not_every f (is_marked 0) (is_marked 1))
      go again (Progress.fails (r ∷ front) after is f at e) =
          Loops.fails (r ∷ front) after is f at
          (λ os most le. goes es most (records_then (r ∷ front) os) (omega arith) le
          ∙ ap (λ (t : Reading Item). t >>= onward (most - 1) es) (e os))
      go again (Progress.gives [] after is i e) =
          absurd
          (let k = sym (item_waits unit (marked 0) []) ∙ e (Err (marked 0) ∷ []) in cc)
      go again (Progress.gives (r ∷ tk) after is i e) =
          given again r tk after is i e (is_end i) refl

  pub elements_progress : (h : RawRecord) → Progresses (all_elements unit) h
  elements_progress h rs =
      loop_progress (rows []) h rs (elements_loops (suc (length rs)) [] h rs (omega arith))

  -- ---- a structure

  module _ (ss : List Structure) where
    untaken_at : (o : Option ℕ) (r : RawRecord) → r.kind ≡ STRNAME → (name : List ℕ)
        → name_of r ≡ Ok name → IsAt r (untaken o r)
    untaken_at None r k name e f is = absurd cc
    untaken_at (Some place) r k name e f is =
        let same : fault_at DoubleName r ≡ f = cc in IsFaultOf.taken name k e (sym same)

    abbrev made : List ℕ → List Element → Structure
    made name es = record { name = name; elements = es }

    abbrev body : List ℕ → List RecordOutcome → Reading Structure
    body name all = all_elements unit all >>= λ x. Ok (made name x.0, x.1)

    abbrev named_body : RawRecord → List RecordOutcome → Reading Structure
    named_body r all = name_of r >>= λ name. untaken (place_of ss name) r >>= λ new. body name all

    pub structure_progress : (h : RawRecord) → Progresses (structure unit ss) h
    unfolding structure
    structure_progress =
        next_progress STRNAME named_body refl
        (λ r k. tested_progress (name_of r)
        (λ name all. untaken (place_of ss name) r >>= λ new. body name all) r
        (λ f e. IsFaultOf.name (inl k) e)
        (λ name e. tested_progress (untaken (place_of ss name) r) (λ new. body name) r
        (untaken_at (place_of ss name) r k name e)
        (λ new d. mapped_progress (all_elements unit) (made name) r (elements_progress r))))
