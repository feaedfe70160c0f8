-- Items that are derived one after another, up to a record that ends them.
use Rattle.std.proofs.Common.{◌≡◌, ℕ, List, [], ◌∷◌, ◌++◌, Ok, sym, ◌∙◌, append_assoc}
use Rattle.std.proofs.lemmas.List.{append-nil}
use Rattle.mpw_records.specs.Records.{RawRecord, RecordOutcome}
use Rattle.mpw_elements.specs.Derivation.{records_then}
use Rattle.mpw_elements.proofs.DerivedFields.{parts_both}

-- the items of some records up to one of a type, after others
pub record ManyIn {A : Type 0} (kind : ℕ) (derives : List RawRecord → List A → Type 0)
    (before : List A) (all : List RecordOutcome) (x : List A × List RecordOutcome) : Type 0 where
  pub records : List RawRecord
  pub end : RawRecord
  pub made : List A
  pub parts : all ≡ records_then records (Ok end ∷ x.1)
  pub last : end.kind ≡ kind
  pub derived : derives records made
  pub total : x.0 ≡ before ++ made

pub none_in : {A : Type 0} {kind : ℕ} {derives : List RawRecord → List A → Type 0}
    {all rest : List RecordOutcome} {end : RawRecord} (before : List A) → all ≡ Ok end ∷ rest
    → end.kind ≡ kind → derives [] [] → ManyIn kind derives before all (before, rest)
none_in {end = end} before parts last derived = record {
  records = [];
  end = end;
  made = [];
  parts = parts;
  last = last;
  derived = derived;
  total = sym (append-nil before);
}

pub more_in : {A : Type 0} {kind : ℕ} {derives : List RawRecord → List A → Type 0}
    {all rest : List RecordOutcome} {x : List A × List RecordOutcome} (before : List A)
    (front : List RawRecord) (placed : List A) → all ≡ records_then front rest
    → (h : ManyIn kind derives (before ++ placed) rest x)
    → derives (front ++ h.records) (placed ++ h.made) → ManyIn kind derives before all x
more_in {all = all} {rest = rest} {x = x} before front placed parts h derived = record {
  records = front ++ h.records;
  end = h.end;
  made = placed ++ h.made;
  parts = parts_both all rest (Ok h.end ∷ x.1) front h.records parts h.parts;
  last = h.last;
  derived = derived;
  total = h.total ∙ append_assoc before placed h.made;
}
