-- Structures up to ENDLIB refuse at the first record with which nothing continues.
use Rattle.std.proofs.Common.{◌≡◌, ℕ, ◌+◌, ◌<◌, ◌≤◌, Bool, true, false, cond, eqb, not, List, [], ◌∷◌, ◌++◌, length, Option, Some, None, is_some, Ok, Err, refl, sym, ap, ◌∙◌, arith, length-append}
use Rattle.mpw_structures.specs.declared.element.Element.{Element}
use Rattle.mpw_structures.specs.declared.structures.Structure.{Structure}
use Rattle.mpw_structures.specs.Places.{place_of}
use Rattle.mpw_records.specs.declared.fault.Code.TheVariants.{DoubleName}
use Rattle.mpw_records.specs.declared.kind.TheConstants.{ENDLIB, BGNSTR, STRNAME}
use Rattle.mpw_records.specs.Format.{data_fault}
use Rattle.mpw_records.specs.Records.{RawRecord, RecordOutcome}
use Rattle.mpw_elements.specs.Reading.{Reading, ◌>>=◌}
use Rattle.mpw_elements.specs.Values.{name_of}
use Rattle.mpw_elements.proofs.DerivedFields.{ok_is}
use Rattle.mpw_library.specs.Fronts.{is_formed}
use Rattle.mpw_library.specs.Grammar.{next_is, all_elements, untaken, structure, next_structure, added, structures_behind}
use Rattle.mpw_library.proofs.Loops.{structure_gone}
use Rattle.mpw_library.proofs.Refusals.{unexpected_at, IsEnded, Completes, Refuses, Reads, Local, Any, IsOfValue, then_local, then_completes, done_local, done_completes, tested_local, tested_completes}
use Rattle.mpw_library.proofs.Fields.{cons_reads, as_refuses, cons_completes, held, Ahead, demanding, demanding_ahead}
use Rattle.mpw_library.proofs.FrontShapes.{Whole, done_whole, then_whole, never, ok_own}
use Rattle.mpw_library.proofs.FrontReferences.{name_own}
use Rattle.mpw_library.proofs.FrontItems.{elements_whole}
use Rattle.mpw_library.proofs.FrontLoops.{Loop, LoopRefuses, LoopCompletes, loop_fails, end_completes}
use Rattle.mpw_library.proofs.Samples.{sample}

-- ---- the next record

module _ (kind : ℕ) (c : RawRecord) (is : c.kind ≡ kind) (formed : is_formed c ≡ true)
    (inner : eqb kind ENDLIB ≡ false) where
  abbrev one : RawRecord → List RecordOutcome → Reading RawRecord
  one = demanding kind (λ d rs. Ok (d, rs))

  one_ahead : Ahead kind one (λ d. d ≡ c)
  one_ahead =
      demanding_ahead kind (λ d rs. Ok (d, rs)) c is formed inner (λ d. done_local d)
      (done_completes c refl)

  one_same : (r : RawRecord) (os : List RecordOutcome) → next_is kind (Ok r ∷ os) ≡ one r os
  unfolding next_is
  one_same r os = refl

  pub next_completes : Completes (next_is kind) (λ d. d ≡ c) []
  next_completes =
      cons_completes (next_is kind) (one one_ahead.start) one_ahead.start one_ahead.formed
      (one_same one_ahead.start) one_ahead.begin

  next_reads : (all : List RecordOutcome) (x : RawRecord × List RecordOutcome)
      → next_is kind all ≡ Ok x
      → Reads (next_is kind) all x
  unfolding next_is
  next_reads [] x e = absurd cc
  next_reads (Err f ∷ all) x e = absurd cc
  next_reads (Ok r ∷ all) x e =
      let h = one_ahead.reads r all x (sym (one_same r all) ∙ e) in
      cons_reads (next_is kind) (one r) r all x (one_same r) h.1 h.0

  next_fails : (all : List RecordOutcome) (offset : ℕ) → IsEnded all
      → next_is kind all ≡ Err (unexpected_at offset)
      → Refuses (next_is kind) (λ d. d ≡ c) all offset
  unfolding next_is
  next_fails [] offset h e = absurd h
  next_fails (Err f ∷ all) offset h e = absurd (h cc)
  next_fails (Ok r ∷ all) offset h e =
      as_refuses (next_is kind) (held one) r all offset (one_same r) next_completes
      (one_ahead.fails r all offset h (sym (one_same r all) ∙ e))

  pub next_local : Local (next_is kind) (λ d. d ≡ c)
  next_local = record { reads = next_reads; fails = next_fails }

-- ---- a structure

-- a record of a name that none of these has
pub record Fresh (ss : List Structure) : Type 0 where
  pub strname : RawRecord
  pub kind_is : strname.kind ≡ STRNAME
  pub formed : is_formed strname ≡ true
  pub name : List ℕ
  pub named : name_of strname ≡ Ok name
  pub absent : place_of ss name ≡ None

untaken_own : (o : Option ℕ) (r : RawRecord) → IsOfValue (untaken o r)
untaken_own None r = ok_own tt
untaken_own (Some place) r = never DoubleName r (λ e. cc)

module _ (unit : ℕ) (some : 1 ≤ unit) (ss : List Structure) where
  abbrev made : List ℕ → List Element → Structure
  made name es = record { name = name; elements = es }

  abbrev body : List ℕ → List RecordOutcome → Reading Structure
  body name all = all_elements unit all >>= λ x. Ok (made name x.0, x.1)

  body_whole : (name : List ℕ) → Whole (body name)
  body_whole name =
      then_whole (all_elements unit) (λ es all. Ok (made name es, all)) (elements_whole unit some)
      (λ es. done_whole (made name es))

  abbrev new_body : RawRecord → List ℕ → List RecordOutcome → Reading Structure
  new_body r name all = untaken (place_of ss name) r >>= λ new. body name all

  abbrev named_body : RawRecord → List RecordOutcome → Reading Structure
  named_body r all = name_of r >>= λ name. new_body r name all

  named_local : (r : RawRecord) → Local (named_body r) Any
  named_local r =
      tested_local (λ name. new_body r name) (name_of r) (name_own r)
      (λ name e. tested_local (λ (new : Unit {0}). body name) (untaken (place_of ss name) r)
      (untaken_own (place_of ss name) r) (λ new f. (body_whole name).local))

  module _ (f : Fresh ss) where
    named_completes : Completes (named_body f.strname) Any []
    named_completes =
        let c =
        tested_completes (λ (new : Unit {0}). body f.name)
        (untaken (place_of ss f.name) f.strname) tt
        (ap (λ (o : Option ℕ). untaken o f.strname) f.absent) (body_whole f.name).begin in
        tested_completes (λ name. new_body f.strname name) (name_of f.strname) f.name f.named c

    same_name : (r : RawRecord) → r ≡ f.strname → Completes (named_body r) Any []
    same_name r e = rw e named_completes

    structure_whole : Whole (structure unit ss)
    unfolding structure
    structure_whole =
        let c = next_completes STRNAME f.strname f.kind_is f.formed refl in record {
          local =
              then_local (next_is STRNAME) named_body
              (next_local STRNAME f.strname f.kind_is f.formed refl) named_local same_name;
          begin = then_completes (next_is STRNAME) named_body [] c (same_name c.value c.good);
        }

-- ---- the next item of a library

abbrev bgnstr : RawRecord
bgnstr = sample BGNSTR 2 []

bgnstr_formed : is_formed bgnstr ≡ true
unfolding data_fault
bgnstr_formed = refl

abbrev pub endlib : RawRecord
endlib = sample ENDLIB 0 []

pub endlib_formed : is_formed endlib ≡ true
unfolding data_fault
endlib_formed = refl

module _ (unit : ℕ) where
  module _ (ss : List Structure) where
    abbrev told : RawRecord → List RecordOutcome → Reading (Option Structure)
    told d all = structure unit ss all >>= λ s. Ok (Some s.0, s.1)

    abbrev begun_at : RawRecord → List RecordOutcome → Reading (Option Structure)
    begun_at = demanding BGNSTR told

    begun_same : (r : RawRecord) → eqb r.kind ENDLIB ≡ false → (os : List RecordOutcome)
        → next_structure unit ss (Ok r ∷ os) ≡ begun_at r os
    unfolding next_structure
    begun_same r h os = rw h refl

    end_same : (r : RawRecord) → eqb r.kind ENDLIB ≡ true → (os : List RecordOutcome)
        → next_structure unit ss (Ok r ∷ os) ≡ Ok (None, os)
    unfolding next_structure
    end_same r h os = rw h refl

    module _ (some : 1 ≤ unit) (f : Fresh ss) where
      told_whole : (d : RawRecord) → Whole (told d)
      told_whole d =
          then_whole (structure unit ss) (λ s all. Ok (Some s, all))
          (structure_whole unit some ss f) (λ s. done_whole (Some s))

      begun_ahead : Ahead BGNSTR begun_at Any
      begun_ahead =
          demanding_ahead BGNSTR told bgnstr refl bgnstr_formed refl (λ d. (told_whole d).local)
          (told_whole bgnstr).begin

      more_completes : Completes (next_structure unit ss) Any []
      more_completes =
          cons_completes (next_structure unit ss) (begun_at begun_ahead.start) begun_ahead.start
          begun_ahead.formed
          (begun_same begun_ahead.start (ap (λ (n : ℕ). eqb n ENDLIB) begun_ahead.kind))
          begun_ahead.begin

      more_reads : (all : List RecordOutcome) (x : Option Structure × List RecordOutcome)
          → not (is_some x.0) ≡ false → next_structure unit ss all ≡ Ok x
          → Reads (next_structure unit ss) all x
      unfolding next_structure
      more_reads [] x h e = absurd cc
      more_reads (Err g ∷ all) x h e = absurd cc
      more_reads (Ok r ∷ all) x h e = go (eqb r.kind ENDLIB) refl
        where
          go : (b : Bool) → eqb r.kind ENDLIB ≡ b → Reads (next_structure unit ss) (Ok r ∷ all) x
          go true p =
              absurd
              (let k =
              ap (λ (y : Option Structure × List RecordOutcome). not (is_some y.0))
              (ok_is (None, all) x (sym (end_same r p all) ∙ e)) in let g = k ∙ h in cc)
          go false p =
              cons_reads (next_structure unit ss) (begun_at r) r all x (begun_same r p) p
              (begun_ahead.reads r all x (sym (begun_same r p all) ∙ e)).0

      more_fails : (all : List RecordOutcome) (offset : ℕ) → IsEnded all
          → next_structure unit ss all ≡ Err (unexpected_at offset)
          → Refuses (next_structure unit ss) Any all offset
      unfolding next_structure
      more_fails [] offset h e = absurd h
      more_fails (Err g ∷ all) offset h e = absurd (h cc)
      more_fails (Ok r ∷ all) offset h e = go (eqb r.kind ENDLIB) refl
        where
          go : (b : Bool) → eqb r.kind ENDLIB ≡ b
              → Refuses (next_structure unit ss) Any (Ok r ∷ all) offset
          go true p = absurd (let k = sym (end_same r p all) ∙ e in cc)
          go false p =
              as_refuses (next_structure unit ss) (held begun_at) r all offset (begun_same r p)
              more_completes (begun_ahead.fails r all offset h (sym (begun_same r p all) ∙ e))

  -- ---- structures up to ENDLIB

  abbrev step : List Structure → List RecordOutcome → Reading (Option Structure)
  step ss = next_structure unit ss

  abbrev is_over : Option Structure → Bool
  is_over o = not (is_some o)

  abbrev onward : List Structure → Option Structure → List Structure
  onward ss o = ss ++ added o

  abbrev pub loop : ℕ → List Structure → List RecordOutcome → Reading (List Structure)
  loop most ss os = structures_behind most unit ss os

  other_way : {X : Type 0} (b : Bool) (x y : X) → cond b x y ≡ cond (not b) y x
  other_way true x y = refl
  other_way false x y = refl

  turned : (most : ℕ) (ss : List Structure) (t : Reading (Option Structure))
      → (t
      >>= λ next. cond (is_some next.0) (structures_behind most unit (ss ++ added next.0) next.1)
      (Ok (ss, next.1)))
      ≡ (t
      >>= λ next. cond (is_over next.0) (Ok (ss, next.1))
      (structures_behind most unit (ss ++ added next.0) next.1))
  turned most ss (Ok x) = other_way (is_some x.0) _ _
  turned most ss (Err f) = refl

  over_structures : Loop step is_over onward loop
  unfolding structures_behind
  over_structures = record {
    none = λ s x os e. absurd (let f = e in cc);
    empty_fails = λ s x e. absurd (let f = sym (structure_gone unit s) ∙ e in cc);
    goes = λ most s os. turned most s (next_structure unit s os);
    ending = endlib;
    formed = endlib_formed;
    last = None;
    is_last = refl;
    ends = λ s rest. end_same s endlib refl rest;
  }

  pub no_structures : (ss : List Structure) → LoopCompletes loop ss []
  no_structures ss = end_completes step is_over onward loop over_structures ss

  few_more : (ss : List Structure) (o : Option Structure) (m n k : ℕ) → m < n → length ss + n ≤ k
      → length (ss ++ added o) + m ≤ k
  few_more ss None m n k lt le = omega (arith, lt, le, length-append ss [])
  few_more ss (Some s) m n k lt le = omega (arith, lt, le, length-append ss (s ∷ []))

  -- if names are left for as many structures as there are records
  pub structures_fail_at : 1 ≤ unit → (most : ℕ)
      → ((ss : List Structure) → length ss ≤ most → Fresh ss)
      → (ss : List Structure) (all : List RecordOutcome) (offset : ℕ)
      → length ss + length all ≤ most
      → IsEnded all
      → structures_behind (length all) unit ss all ≡ Err (unexpected_at offset)
      → LoopRefuses loop ss all offset
  structures_fail_at some most fresh ss all offset few h e =
      loop_fails step is_over onward loop over_structures (λ ss n. length ss + n ≤ most)
      (λ ss o m n p lt holds. few_more ss o m n most lt holds)
      (λ ss all x holds p e. more_reads ss some (fresh ss (omega (arith, holds))) all x p e)
      (λ ss all offset holds h e. more_fails ss some (fresh ss (omega (arith, holds))) all offset h
      e)
      (length all) ss all offset few (omega arith) h e
