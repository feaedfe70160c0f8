-- A library refuses at the first record with which no library's records begin.
use Rattle.std.proofs.Common.{◌≡◌, ℕ, suc, ◌+◌, ◌<◌, ◌≤◌, ◌^◌, List, [], ◌∷◌, ◌++◌, length, Result, Ok, Err, refl, sym, ap, subst, ◌∙◌, inl, inr, arith, append_assoc}
use Rattle.mpw_structures.specs.declared.structures.Structure.{Structure}
use Rattle.mpw_records.specs.declared.fault.Code.{Code}
use Rattle.mpw_records.specs.declared.fault.Code.TheVariants.{Unexpected}
use Rattle.mpw_records.specs.declared.fault.ReadFault.{ReadFault}
use Rattle.mpw_records.specs.Records.{RawRecord, RecordOutcome, front, outcomes_of}
use Rattle.std.specs.Prelude.{IfErr}
use Rattle.mpw_elements.specs.declared.fault.ReadError.{ReadError}
use Rattle.mpw_elements.specs.declared.fault.ReadError.TheVariants as errors
use Rattle.mpw_elements.specs.Reading.{Reading, ◌>>=◌, GivesValue, fault_at}
use Rattle.mpw_elements.specs.Derivation.{records_then}
use Rattle.mpw_elements.proofs.DerivedFields.{records_both, parts_both}
use Rattle.mpw_library.specs.Derivation.{DerivesLibrary}
use Rattle.mpw_library.specs.Fronts.{IsFront, UnexpectedIsFirst, IsToldFirst}
use Rattle.mpw_library.specs.Grammar.{all_structures, structures_behind, library, library_of}
use Rattle.mpw_library.proofs.DerivedLibrary.{LibraryIn, library_parts, library_complete}
use Rattle.mpw_library.proofs.DerivedStructures.{structures_sound}
use Rattle.mpw_library.proofs.FreshNames.{fresh_name}
use Rattle.mpw_library.proofs.Refusals.{unexpected_at, IsEnded, Refuses, Reads, Any, bind_err, both_formed, behind_then}
use Rattle.mpw_library.proofs.FrontLoops.{LoopRefuses, length_then}
use Rattle.mpw_library.proofs.FrontStructures.{loop, no_structures, structures_fail_at}
use Rattle.mpw_library.proofs.EndedTexts.{outcomes_ended, few_outcomes}
use Rattle.mpw_library.proofs.FrontHead.{opening, opening_local, opening_sound, library_is, unit_some}

-- ---- the library

same_records : (xs ys : List RawRecord) → records_then xs [] ≡ records_then ys [] → xs ≡ ys
same_records [] [] e = refl
same_records [] (y ∷ ys) e = absurd cc
same_records (x ∷ xs) [] e = absurd cc
same_records (x ∷ xs) (y ∷ ys) e =
    let first : x ≡ y = cc in
    let others : records_then xs [] ≡ records_then ys [] = cc in
    ap (λ (r : RawRecord). r ∷ xs) first
    ∙ ap (λ (rs : List RawRecord). y ∷ rs) (same_records xs ys others)

-- an opening, and structures up to ENDLIB after it, are a library's records
finished : (front : List RawRecord) (unit : ℕ)
    → ((rest : List RecordOutcome) → opening (records_then front rest) ≡ Ok (unit, rest))
    → (tail : List RawRecord) (ss : List Structure)
    → ((most : ℕ) (rest : List RecordOutcome) → length (records_then tail rest) ≤ most
    → structures_behind most unit [] (records_then tail rest) ≡ Ok (ss, rest))
    → DerivesLibrary (front ++ tail) ss
finished front unit opens tail ss reads =
    let os : List RecordOutcome = records_then tail [] in
    let o = opening_sound (records_then front os) (unit, os) (opens os) in
    let s = structures_sound (length os) unit [] os (ss, []) (reads (length os) [] (omega arith)) in
    let l : LibraryIn (records_then front os) (ss, []) =
    library_parts (records_then front os) o.behind_first o.behind_second os o.first o.second
    unit ss o.first_part o.first_is o.second_part o.second_is o.head_in [] s in
    let same : front ++ tail ≡ l.before_end ++ l.end ∷ [] =
    same_records (front ++ tail) (l.before_end ++ l.end ∷ [])
    (records_both front tail [] ∙ l.parts ∙ sym (records_both l.before_end (l.end ∷ []) [])) in
    subst (λ (rs : List RawRecord). DerivesLibrary rs ss) (sym same) l.derived

record LibraryRefuses (all : List RecordOutcome) (offset : ℕ) : Type 0 where
  before : List RawRecord
  refused : RawRecord
  rest : List RecordOutcome
  parts : all ≡ records_then before (Ok refused ∷ rest)
  stands : refused.offset ≡ offset
  goes_on : IsFront before
  refuses : (rest : List RecordOutcome)
      → library (records_then before (Ok refused ∷ rest)) ≡ Err (fault_at Unexpected refused)

abbrev structures_then : ℕ × List RecordOutcome → Result (List Structure) ReadFault
structures_then unit = all_structures unit.0 unit.1 >>= λ structures. Ok structures.0

opening_refuses : (all : List RecordOutcome) (offset : ℕ) → Refuses opening Any all offset
    → LibraryRefuses all offset
opening_refuses all offset r =
    let c = r.goes_on in
    let n = no_structures c.value [] in
    record {
      before = r.before;
      refused = r.refused;
      rest = r.rest;
      parts = r.parts;
      stands = r.stands;
      goes_on = record {
        behind = c.behind ++ n.behind;
        formed = both_formed c.behind n.behind c.formed n.formed;
        structures = n.value;
        derived =
            subst (λ (rs : List RawRecord). DerivesLibrary rs n.value)
            (append_assoc r.before c.behind n.behind)
            (finished (r.before ++ c.behind) c.value c.reads n.behind n.value n.reads);
      };
      refuses = λ rest.
          library_is (records_then r.before (Ok r.refused ∷ rest))
          ∙ ap (λ (t : Reading ℕ). t >>= structures_then) (r.refuses rest);
    }

structures_refuse : (all : List RecordOutcome) (offset : ℕ) (x : ℕ × List RecordOutcome)
    → Reads opening all x
    → LoopRefuses (loop x.0) [] x.1 offset → LibraryRefuses all offset
structures_refuse all offset x o r =
    let c = r.goes_on in
    record {
      before = o.records ++ r.before;
      refused = r.refused;
      rest = r.rest;
      parts = parts_both all x.1 (Ok r.refused ∷ r.rest) o.records r.before o.parts r.parts;
      stands = r.stands;
      goes_on = record {
        behind = c.behind;
        formed = c.formed;
        structures = c.value;
        derived =
            subst (λ (rs : List RawRecord). DerivesLibrary rs c.value)
            (sym (append_assoc o.records r.before c.behind))
            (finished o.records x.0 o.same (r.before ++ c.behind) c.value c.reads);
      };
      refuses = λ rest.
          let os : List RecordOutcome = records_then r.before (Ok r.refused ∷ rest) in
          ap library (records_both o.records r.before (Ok r.refused ∷ rest))
          ∙ library_is (records_then o.records os)
          ∙ ap (λ (t : Reading ℕ). t >>= structures_then) (o.same os)
          ∙ ap (λ (t : Reading (List Structure)). t >>= λ structures. Ok structures.0)
          (r.refuses (length os) rest (omega arith));
    }

library_fails : (all : List RecordOutcome) (offset : ℕ) → length all ≤ 2 ^ 64 → IsEnded all
    → library all ≡ Err (unexpected_at offset) → LibraryRefuses all offset
library_fails all offset few h e =
    let either =
    bind_err (opening all) structures_then (unexpected_at offset) (sym (library_is all) ∙ e) in
    elim either [
      | inl f ↦ opening_refuses all offset (opening_local.fails all offset h f)
      | inr x ↦
          let o = opening_local.reads all x.0 x.1 in
          let long : length all ≡ length o.records + length x.0.1 =
          ap length o.parts ∙ length_then o.records x.0.1 in
          let some =
          unit_some (opening_sound all x.0 x.1).head_in.units x.0.0
          (opening_sound all x.0 x.1).head_in.unit in
          structures_refuse all offset x.0 o
          (structures_fail_at x.0.0 some (2 ^ 64) (λ ss k. fresh_name ss (omega (arith, k))) []
          x.0.1 offset (omega (arith, long, few)) (o.ended h) (failed x.0 x.2))
    ]
  where
    failed : (x : ℕ × List RecordOutcome) → structures_then x ≡ Err (unexpected_at offset)
        → all_structures x.0 x.1 ≡ Err (unexpected_at offset)
    failed x f =
        elim (bind_err (all_structures x.0 x.1) (λ structures. Ok structures.0)
        (unexpected_at offset) f) [ inl g ↦ g | inr g ↦ absurd (let k = g.2 in cc) ]

pub unexpected_is_first : UnexpectedIsFirst
unexpected_is_first text offset few e =
    let r =
    library_fails (outcomes_of text) offset
    (omega (arith, few, few_outcomes (suc (length text)) text 0))
    (outcomes_ended (suc (length text)) text 0 (omega arith) (omega arith)) e in record {
      before = r.before;
      refused = r.refused;
      rest = r.rest;
      parts = r.parts;
      stands = r.stands;
      goes_on = r.goes_on;
      ends = λ f.
          let reads =
          ap library (sym (behind_then r.before (r.refused ∷ []) f.behind []))
          ∙ library_complete f.derived [] in
          absurd (let both = sym (r.refuses (records_then f.behind [])) ∙ reads in cc);
    }

code_is : (f : ReadFault) (code : Code) → f.code ≡ code → f ≡ record {
  code = code;
  offset = f.offset;
}
code_is f code e = ap of e
  where
    of : Code → ReadFault
    of c = record { code = c; offset = f.offset }

-- the first unexpected record that reading reports
pub first_told : (text : List ℕ) (result : Result (List Structure) ReadError) → length text < 2 ^ 64
    → GivesValue (λ ss. ss) result (library_of text) → IfErr result (IsToldFirst text)
first_told text (Ok ss) few e = tt
first_told text (Err errors.Memory) few e = tt
first_told text (Err (errors.Fault f)) few e =
    λ h. unexpected_is_first text f.offset few
    (e ∙ ap (λ (g : ReadFault). Err g) (code_is f Unexpected h))
