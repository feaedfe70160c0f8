-- No fault is reported before the change in a good text.
use Rattle.std.proofs.Common.{◌≡◌, ℕ, ◌≤◌, List, ◌∷◌, ◌++◌, Ok, Err, refl, sym, ap, subst, ◌∙◌, arith, append_assoc}
use Rattle.mpw_structures.specs.declared.structures.Structure.{Structure}
use Rattle.mpw_records.specs.declared.fault.ReadFault.{ReadFault}
use Rattle.mpw_records.specs.Records.{RawRecord, RecordOutcome, front, outcomes, outcomes_of, outcomes_from}
use Rattle.mpw_elements.specs.Derivation.{records_then}
use Rattle.mpw_library.specs.Derivation.{DerivesLibrary}
use Rattle.mpw_library.specs.Grammar.{library_of}
use Rattle.mpw_library.proofs.DerivedLibrary.{libraries_are_derived}
use Rattle.mpw_reader_laws.specs.FirstFault.{IsFaultThere, EndsThere, IsFirstFault}
use Rattle.mpw_reader_laws.specs.Changed.{HasRecord, FaultsComeNoEarlier}
use Rattle.mpw_reader_laws.proofs.Texts.{record_at, fault_offset, place, place_grows, place_behind, stands}
use Rattle.mpw_reader_laws.proofs.Changed.{all_ok, changed_parts, record_starts}
use Rattle.mpw_reader_laws.proofs.Offsets as offsets
use Rattle.mpw_reader_laws.proofs.FirstFault.{first_fault_is_told}
use Rattle.mpw_reader_laws.proofs.FirstRefused.{Begins, among, Compared, compared}

-- a fault is where the records before it end
fault_place : (text : List ℕ) (fault : ReadFault) (before : List RawRecord) (o : RecordOutcome)
    (rest : List RecordOutcome) → outcomes_of text ≡ records_then before (o ∷ rest)
    → IsFaultThere o fault → fault.offset ≡ place 0 before
fault_place text fault before (Err g) rest parts is =
    let s = stands text 0 before (Err g) rest (omega arith) parts in
    ap (λ (f : ReadFault). f.offset) (sym is) ∙ fault_offset text (place 0 before) g s.is
fault_place text fault before (Ok r) rest parts is =
    let s = stands text 0 before (Ok r) rest (omega arith) parts in
    offsets.fault_offset r fault is ∙ (record_at text (place 0 before) r s.within s.is).offset

-- the first outcome that is left to read
record First (os : List RecordOutcome) : Type 0 where
  first : RecordOutcome
  others : List RecordOutcome
  is : os ≡ first ∷ others

first_of : (text : List ℕ) (p : ℕ) → First (outcomes_from text p)
unfolding outcomes
first_of text p = record { first = front text p; others = _; is = refl }

-- records of a good text with which no library's records begin
module _ (text : List ℕ) (ss : List Structure) (r : RawRecord) (good : library_of text ≡ Ok ss)
    (has : HasRecord text r) where
  goes_on : (before : List RawRecord) (x : RawRecord) → EndsThere before (Ok x)
      → Begins has.before before x → ⊥
  goes_on before x ends b =
      let t = (libraries_are_derived text ss).0 good in
      let m =
      among t.records has.before r has.behind
      (sym (all_ok t.records) ∙ sym t.whole ∙ has.parts) in
      ends (b.more ++ r ∷ m.more) ss
      (subst (λ (l : List RawRecord). DerivesLibrary l ss)
      (m.is ∙ ap (λ (l : List RawRecord). l ++ r ∷ m.more) b.is
      ∙ append_assoc before (x ∷ b.more) (r ∷ m.more)) t.derived)

pub faults_come_no_earlier : FaultsComeNoEarlier
faults_come_no_earlier text changed ss r fault few good has same told =
    let k = first_fault_is_told changed fault few told in
    let f = first_of changed r.offset in
    let parts : outcomes_of changed ≡ records_then has.before (f.first ∷ f.others) =
    changed_parts text changed r has same ∙ ap (records_then has.before) f.is in
    let q = (record_starts text r has).1.offset in
    let at = fault_place changed fault k.before k.there k.rest k.parts k.is in
    go k f q at
    (compared has.before k.before f.first k.there f.others k.rest (sym parts ∙ k.parts))
  where
    go : (k : IsFirstFault changed fault) (f : First (outcomes_from changed r.offset))
        → r.offset ≡ place 0 has.before → fault.offset ≡ place 0 k.before
        → Compared has.before k.before f.first k.there → r.offset ≤ fault.offset
    go k f q at (Compared.same e s) =
        let both : place 0 has.before ≡ place 0 k.before = ap (place 0) e in
        omega (arith, q, at, both)
    go k f q at (Compared.shorter x s b) =
        let longer : place 0 k.before ≡ place (place 0 has.before) (x ∷ b.more) =
        ap (place 0) b.is ∙ place_behind 0 has.before (x ∷ b.more) in
        let grows = place_grows (place 0 has.before) (x ∷ b.more) in
        omega (arith, q, at, longer, grows)
    go k f q at (Compared.longer x s b) =
        absurd (goes_on text ss r good has k.before x (subst (EndsThere k.before) s k.ends) b)
