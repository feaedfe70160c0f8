-- Elements up to ENDSTR refuse at the first record with which nothing continues.
use Rattle.std.proofs.Common.{◌≡◌, ℕ, zero, suc, ◌≤◌, Bool, true, false, cond, eqb, List, [], ◌∷◌, ◌++◌, length, Option, Ok, Err, refl, sym, ap, subst, ◌∙◌, inl, inr, arith}
use Rattle.std.proofs.lemmas.Bool.{eqb-true}
use Rattle.mpw_structures.specs.declared.element.Element.{Element}
use Rattle.mpw_records.specs.declared.fault.Code.TheVariants.{Unexpected}
use Rattle.mpw_records.specs.declared.fault.ReadFault.{ReadFault}
use Rattle.mpw_records.specs.declared.kind.TheConstants.{ENDLIB, ENDSTR}
use Rattle.mpw_records.specs.Format.{data_fault}
use Rattle.mpw_records.specs.Records.{RawRecord, RecordOutcome}
use Rattle.mpw_elements.specs.Reading.{Reading, ◌>>=◌, fault_at}
use Rattle.mpw_elements.specs.Grammar.{element}
use Rattle.mpw_elements.specs.Derivation.{records_then}
use Rattle.mpw_elements.proofs.DerivedFields.{bind_ok, ok_is, chosen, records_both}
use Rattle.mpw_library.specs.declared.read.Item.{Item}
use Rattle.mpw_library.specs.declared.read.Item.TheVariants as items
use Rattle.mpw_library.specs.Fronts.{is_formed}
use Rattle.mpw_library.specs.Grammar.{is_between, item_of, item, is_end, placed, elements_behind, all_elements}
use Rattle.mpw_library.proofs.DerivedStructures.{shorter}
use Rattle.mpw_library.proofs.DerivedItems.{elements_sound, elements_complete}
use Rattle.mpw_library.proofs.Loops.{item_gone}
use Rattle.mpw_library.proofs.Refusals.{unexpected_at, IsEnded, Completes, Refuses, Reads, Any, done_local, done_completes}
use Rattle.mpw_library.proofs.Fields.{cons_reads, cons_refuses, here_refuses, cons_completes}
use Rattle.mpw_library.proofs.FrontShapes.{Whole}
use Rattle.mpw_library.proofs.FrontLoops.{Loop, end_completes, loop_fails, length_completes, length_refuses}
use Rattle.mpw_library.proofs.FrontElements.{ElementAt, element_at, mapped}
use Rattle.mpw_library.proofs.Samples.{sample}

-- ---- the next item of a structure

abbrev pub end_of_structure : RawRecord
end_of_structure = sample ENDSTR 0 []

pub end_formed : is_formed end_of_structure ≡ true
unfolding data_fault
end_formed = refl

module _ (unit : ℕ) where
  end_same : (r : RawRecord) → eqb r.kind ENDSTR ≡ true → (os : List RecordOutcome)
      → item unit (Ok r ∷ os) ≡ Ok (items.End, os)
  unfolding item
  end_same r h os = rw h refl

  between_same : (r : RawRecord) → eqb r.kind ENDSTR ≡ false → is_between r.kind ≡ true
      → (os : List RecordOutcome) → item unit (Ok r ∷ os) ≡ Ok (items.Other, os)
  unfolding item
  between_same r h k os = rw (h, k) refl

  found_same : (r : RawRecord) → eqb r.kind ENDSTR ≡ false → is_between r.kind ≡ false
      → (os : List RecordOutcome)
      → item unit (Ok r ∷ os) ≡ (element unit r os >>= λ e. Ok (item_of e.0, e.1))
  unfolding item
  found_same r h k os = rw (h, k) refl

  between_inside : (kind : ℕ) → is_between kind ≡ true → eqb kind ENDLIB ≡ false
  between_inside kind e = go (eqb kind ENDLIB) refl
    where
      go : (b : Bool) → eqb kind ENDLIB ≡ b → eqb kind ENDLIB ≡ false
      go true p = absurd (let k = sym e ∙ ap is_between (eqb-true _ _ p) in cc)
      go false p = p

  item_completes : Completes (item unit) Any []
  item_completes =
      cons_completes (item unit) (λ os. Ok (items.End, os)) end_of_structure end_formed
      (end_same end_of_structure refl) (done_completes items.End tt)

  module _ (some : 1 ≤ unit) where
    item_reads : (all : List RecordOutcome) (x : Item × List RecordOutcome) → item unit all ≡ Ok x
        → Reads (item unit) all x
    unfolding item
    item_reads [] x e = absurd cc
    item_reads (Err f ∷ all) x e = absurd cc
    item_reads (Ok r ∷ all) x e = go (eqb r.kind ENDSTR) (is_between r.kind) refl refl
      where
        of_element : eqb r.kind ENDSTR ≡ false → is_between r.kind ≡ false → ElementAt unit r
            → Reads (item unit) (Ok r ∷ all) x
        of_element p q (ElementAt.first w inner) =
            cons_reads (item unit) (λ os. element unit r os >>= λ e. Ok (item_of e.0, e.1)) r all x
            (found_same r p q) inner
            ((mapped (element unit r) item_of w).local.reads all x (sym (found_same r p q all) ∙ e))
        of_element p q (ElementAt.none refuses) =
            absurd (let k = sym (found_same r p q all) ∙ e in let f = refuses all in cc)

        go : (a b : Bool) → eqb r.kind ENDSTR ≡ a → is_between r.kind ≡ b
            → Reads (item unit) (Ok r ∷ all) x
        go true b p q =
            cons_reads (item unit) (λ os. Ok (items.End, os)) r all x (end_same r p)
            (ap (λ (n : ℕ). eqb n ENDLIB) (eqb-true _ _ p))
            ((done_local {Best = Any} items.End).reads all x (sym (end_same r p all) ∙ e))
        go false true p q =
            cons_reads (item unit) (λ os. Ok (items.Other, os)) r all x (between_same r p q)
            (between_inside r.kind q)
            ((done_local {Best = Any} items.Other).reads all x
            (sym (between_same r p q all) ∙ e))
        go false false p q = of_element p q (element_at unit some r)

    item_fails : (all : List RecordOutcome) (offset : ℕ) → IsEnded all
        → item unit all ≡ Err (unexpected_at offset) → Refuses (item unit) Any all offset
    unfolding item
    item_fails [] offset h e = absurd h
    item_fails (Err f ∷ all) offset h e = absurd (h cc)
    item_fails (Ok r ∷ all) offset h e = go (eqb r.kind ENDSTR) (is_between r.kind) refl refl
      where
        of_element : eqb r.kind ENDSTR ≡ false → is_between r.kind ≡ false → ElementAt unit r
            → Refuses (item unit) Any (Ok r ∷ all) offset
        of_element p q (ElementAt.first w inner) =
            cons_refuses (item unit) (λ os. element unit r os >>= λ e. Ok (item_of e.0, e.1)) r all
            offset (found_same r p q)
            ((mapped (element unit r) item_of w).local.fails all offset (h inner)
            (sym (found_same r p q all) ∙ e))
        of_element p q (ElementAt.none refuses) =
            let no_item : (os : List RecordOutcome)
            → item unit (Ok r ∷ os) ≡ Err (fault_at Unexpected r) =
            λ os. found_same r p q os
            ∙ ap (λ (t : Reading (Option Element)). t >>= λ e. Ok (item_of e.0, e.1))
            (refuses os) in
            let same : fault_at Unexpected r ≡ unexpected_at offset = let k =
            sym (no_item all) ∙ e in cc in
            here_refuses (item unit) r all offset (ap (λ (z : ReadFault). z.offset) same)
            item_completes no_item

        go : (a b : Bool) → eqb r.kind ENDSTR ≡ a → is_between r.kind ≡ b
            → Refuses (item unit) Any (Ok r ∷ all) offset
        go true b p q = absurd (let k = sym (end_same r p all) ∙ e in cc)
        go false true p q = absurd (let k = sym (between_same r p q all) ∙ e in cc)
        go false false p q = of_element p q (element_at unit some r)

-- ---- elements up to ENDSTR

module _ (unit : ℕ) (some : 1 ≤ unit) where
  abbrev step : List Element → List RecordOutcome → Reading Item
  step es = item unit

  abbrev onward : List Element → Item → List Element
  onward es i = es ++ placed i

  abbrev loop : ℕ → List Element → List RecordOutcome → Reading (List Element)
  loop most es os = elements_behind most unit es os

  over_elements : Loop step is_end onward loop
  unfolding elements_behind
  over_elements = record {
    none = λ s x os e. absurd (let f = e in cc);
    empty_fails = λ s x e. absurd (let f = sym (item_gone unit) ∙ e in cc);
    goes = λ most s os. refl;
    ending = end_of_structure;
    formed = end_formed;
    last = items.End;
    is_last = refl;
    ends = λ s rest. end_same unit end_of_structure refl rest;
  }

  loop_ended : (most : ℕ) (es : List Element) (all : List RecordOutcome)
      (x : List Element × List RecordOutcome)
      → elements_behind most unit es all ≡ Ok x → IsEnded all → IsEnded x.1
  unfolding elements_behind
  loop_ended zero es all x e h = absurd cc
  loop_ended (suc most) es all x e h =
      let i =
      bind_ok (item unit all)
      (λ next. cond (is_end next.0) (Ok (es, next.1))
      (elements_behind most unit (es ++ placed next.0) next.1)) x e in
      let k = (item_reads unit some all i.0 i.1).ended h in
      elim (chosen (is_end i.0.0) (Ok (es, i.0.1))
      (elements_behind most unit (es ++ placed i.0.0) i.0.1) (Ok x) i.2) [
        | inl p
            ↦ subst (λ (y : List Element × List RecordOutcome). IsEnded y.1)
            (ok_is (es, i.0.1) x p.1) k
        | inr p ↦ loop_ended most (es ++ placed i.0.0) i.0.1 x p.1 k
      ]

  elements_read : (all : List RecordOutcome) (x : List Element × List RecordOutcome)
      → all_elements unit all ≡ Ok x → Reads (all_elements unit) all x
  elements_read all x e =
      let h = elements_sound (length all) unit [] all x e in record {
        records = h.records ++ h.end ∷ [];
        parts = h.parts ∙ sym (records_both h.records (h.end ∷ []) x.1);
        same = λ rest.
            ap (all_elements unit) (records_both h.records (h.end ∷ []) rest)
            ∙ elements_complete h.derived (length (records_then h.records (Ok h.end ∷ rest))) []
            h.end rest h.last (shorter h.records (Ok h.end) rest)
            ∙ ap (λ (es : List Element). Ok (es, rest)) (sym h.total);
        ended = loop_ended (length all) [] all x e;
      }

  elements_fail_at : (all : List RecordOutcome) (offset : ℕ) → IsEnded all
      → all_elements unit all ≡ Err (unexpected_at offset)
      → Refuses (all_elements unit) Any all offset
  elements_fail_at all offset h e =
      length_refuses
      (loop_fails step is_end onward loop over_elements (λ es n. Unit {0})
      (λ s i m n p lt holds. tt) (λ s all x holds p e. item_reads unit some all x e)
      (λ s all offset holds h e. item_fails unit some all offset h e) (length all) [] all offset
      tt (omega arith) h e)

  pub elements_whole : Whole (all_elements unit)
  elements_whole = record {
    local = record { reads = elements_read; fails = elements_fail_at };
    begin = length_completes (end_completes step is_end onward loop over_elements []);
  }
