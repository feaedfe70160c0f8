-- An element, and elements up to ENDSTR, refuse at the first record with which nothing continues.
use Rattle.std.proofs.Common.{◌≡◌, ℕ, ◌≤◌, Bool, true, false, eqb, List, [], ◌∷◌, ◌++◌, Option, Some, None, Ok, Err, refl, sym, ap, ◌∙◌}
use Rattle.std.proofs.lemmas.Bool.{eqb-true}
use Rattle.mpw_structures.specs.declared.element.Element.{Element}
use Rattle.mpw_structures.specs.declared.element.Element.TheVariants as elements
use Rattle.mpw_records.specs.declared.fault.Code.TheVariants.{Unexpected}
use Rattle.mpw_records.specs.declared.fault.ReadFault.{ReadFault}
use Rattle.mpw_records.specs.declared.kind.TheConstants.{ENDLIB, BOUNDARY, PATH, SREF, AREF, TEXT, DATATYPE, ENDEL, NODE, BOX, BOXTYPE}
use Rattle.mpw_records.specs.Records.{RawRecord, RecordOutcome}
use Rattle.mpw_elements.specs.Reading.{Reading, ◌>>=◌, fault_at}
use Rattle.mpw_elements.specs.Grammar.{boundary, path, single, array, ignored, element}
use Rattle.mpw_elements.specs.Derivation.{records_then}
use Rattle.mpw_library.proofs.Refusals.{unexpected_at, IsEnded, Completes, Refuses, Reads, Any, done_local, done_completes, goes_on_by, refuses_by}
use Rattle.mpw_library.proofs.Fields.{as_reads, cons_reads, cons_refuses, here_refuses, cons_completes}
use Rattle.mpw_library.proofs.FrontShapes.{Whole, done_whole, then_whole, boundary_whole, path_whole}
use Rattle.mpw_library.proofs.FrontReferences.{single_whole, array_whole}
use Rattle.mpw_library.proofs.Samples.{datatype, boxtype, last, samples}

-- ---- texts and nodes

module _ (start : ℕ) where
  ends_same : (r : RawRecord) → eqb r.kind ENDEL ≡ true → (os : List RecordOutcome)
      → ignored start (Ok r ∷ os) ≡ Ok (tt, os)
  unfolding ignored
  ends_same r h os = rw h refl

  over_same : (r : RawRecord) → eqb r.kind ENDEL ≡ false → eqb r.kind ENDLIB ≡ false
      → (os : List RecordOutcome) → ignored start (Ok r ∷ os) ≡ ignored start os
  unfolding ignored
  over_same r h k os = rw (h, k) refl

  library_ends : (r : RawRecord) → eqb r.kind ENDEL ≡ false → eqb r.kind ENDLIB ≡ true
      → (os : List RecordOutcome) → ignored start (Ok r ∷ os) ≡ Err (fault_at Unexpected r)
  unfolding ignored
  library_ends r h k os = rw (h, k) refl

  ignored_completes : Completes (ignored start) Any []
  ignored_completes =
      cons_completes (ignored start) (λ os. Ok (tt, os)) last samples.last_is.formed (ends_same last refl)
      (done_completes tt tt)

  ignored_reads : (all : List RecordOutcome) (x : Unit {0} × List RecordOutcome)
      → ignored start all ≡ Ok x
      → Reads (ignored start) all x
  unfolding ignored
  ignored_reads [] x e = absurd cc
  ignored_reads (Err f ∷ all) x e = absurd cc
  ignored_reads (Ok r ∷ all) x e =
      go (eqb r.kind ENDEL) (eqb r.kind ENDLIB) refl refl (λ f. ignored_reads all x f)
    where
      go : (a b : Bool) → eqb r.kind ENDEL ≡ a → eqb r.kind ENDLIB ≡ b
          → (ignored start all ≡ Ok x → Reads (ignored start) all x)
          → Reads (ignored start) (Ok r ∷ all) x
      go true b p q more =
          cons_reads (ignored start) (λ os. Ok (tt, os)) r all x (ends_same r p)
          (ap (λ (n : ℕ). eqb n ENDLIB) (eqb-true _ _ p))
          ((done_local {Best = Any} tt).reads all x (sym (ends_same r p all) ∙ e))
      go false true p q more = absurd (let h = sym (library_ends r p q all) ∙ e in cc)
      go false false p q more =
          cons_reads (ignored start) (ignored start) r all x (over_same r p q) q
          (more (sym (over_same r p q all) ∙ e))

  ignored_fails : (all : List RecordOutcome) (offset : ℕ) → IsEnded all
      → ignored start all ≡ Err (unexpected_at offset) → Refuses (ignored start) Any all offset
  unfolding ignored
  ignored_fails [] offset h e = absurd h
  ignored_fails (Err f ∷ all) offset h e = absurd (h cc)
  ignored_fails (Ok r ∷ all) offset h e =
      go (eqb r.kind ENDEL) (eqb r.kind ENDLIB) refl refl (λ k f. ignored_fails all offset k f)
    where
      go : (a b : Bool) → eqb r.kind ENDEL ≡ a → eqb r.kind ENDLIB ≡ b
          → (IsEnded all → ignored start all ≡ Err (unexpected_at offset)
          → Refuses (ignored start) Any all offset)
          → Refuses (ignored start) Any (Ok r ∷ all) offset
      go true b p q more = absurd (let k = sym (ends_same r p all) ∙ e in cc)
      go false true p q more =
          let same : fault_at Unexpected r ≡ unexpected_at offset = let k =
          sym (library_ends r p q all) ∙ e in cc in
          here_refuses (ignored start) r all offset (ap (λ (z : ReadFault). z.offset) same)
          ignored_completes (library_ends r p q)
      go false false p q more =
          cons_refuses (ignored start) (ignored start) r all offset (over_same r p q)
          (more (h q) (sym (over_same r p q all) ∙ e))

  ignored_whole : Whole (ignored start)
  ignored_whole = record {
    local = record { reads = ignored_reads; fails = ignored_fails };
    begin = ignored_completes;
  }

-- ---- an element after its first record

-- a reader that does the same as another
as_whole : {V : Type 0} (P Q : List RecordOutcome → Reading V)
    → ((os : List RecordOutcome) → P os ≡ Q os)
    → Whole Q → Whole P
as_whole P Q same w = record {
  local = record {
    reads = λ all x e. as_reads P Q all x same (w.local.reads all x (sym (same all) ∙ e));
    fails = λ all offset h e.
        let q = w.local.fails all offset h (sym (same all) ∙ e) in
        refuses_by q
        (goes_on_by q.goes_on tt
        (λ rest. same (records_then (q.before ++ q.goes_on.behind) rest) ∙ q.goes_on.reads rest))
        (λ rest. same (records_then q.before (Ok q.refused ∷ rest)) ∙ q.refuses rest);
  };
  begin =
      goes_on_by w.begin tt
      (λ rest. same (records_then w.begin.behind rest) ∙ w.begin.reads rest);
}

-- what a reader reads, seen by f
pub mapped : {V X : Type 0} (P : List RecordOutcome → Reading V) (f : V → X) → Whole P
    → Whole (λ all. P all >>= λ x. Ok (f x.0, x.1))
mapped P f p = then_whole P (λ v all. Ok (f v, all)) p (λ v. done_whole (f v))

-- the first record of an element, or a record that is none
pub data ElementAt (unit : ℕ) (r : RawRecord) : Type 0 where
  first : Whole (element unit r) → eqb r.kind ENDLIB ≡ false → ElementAt unit r
  none : ((os : List RecordOutcome) → element unit r os ≡ Err (fault_at Unexpected r))
      → ElementAt unit r

of_kind : (unit : ℕ) (r : RawRecord) (kind : ℕ) → eqb r.kind kind ≡ true → eqb kind ENDLIB ≡ false
    → Whole (element unit r) → ElementAt unit r
of_kind unit r kind e inner w =
    ElementAt.first w (ap (λ (n : ℕ). eqb n ENDLIB) (eqb-true _ _ e) ∙ inner)

pub element_at : (unit : ℕ) → 1 ≤ unit → (r : RawRecord) → ElementAt unit r
unfolding element
element_at unit some r =
    go (eqb r.kind BOUNDARY) (eqb r.kind BOX) (eqb r.kind PATH) (eqb r.kind SREF) (eqb r.kind AREF)
    (eqb r.kind TEXT) (eqb r.kind NODE) refl refl refl refl refl refl refl
  where
    shape : {V : Type 0} (P : List RecordOutcome → Reading V) (f : V → Option Element) → Whole P
        → ((os : List RecordOutcome) → element unit r os ≡ (P os >>= λ x. Ok (f x.0, x.1)))
        → Whole (element unit r)
    shape P f p same =
        as_whole (element unit r) (λ all. P all >>= λ x. Ok (f x.0, x.1)) same (mapped P f p)

    go : (a b c d e f g : Bool) → eqb r.kind BOUNDARY ≡ a → eqb r.kind BOX ≡ b → eqb r.kind PATH ≡ c
        → eqb r.kind SREF ≡ d → eqb r.kind AREF ≡ e → eqb r.kind TEXT ≡ f → eqb r.kind NODE ≡ g
        → ElementAt unit r
    go true b c d e f g p1 p2 p3 p4 p5 p6 p7 =
        of_kind unit r BOUNDARY p1 refl
        (shape (boundary r.offset unit DATATYPE) (λ x. Some (elements.Boundary x))
        (boundary_whole r.offset unit DATATYPE datatype samples.datatype_is) (λ os. rw p1 refl))
    go false true c d e f g p1 p2 p3 p4 p5 p6 p7 =
        of_kind unit r BOX p2 refl
        (shape (boundary r.offset unit BOXTYPE) (λ x. Some (elements.Boundary x))
        (boundary_whole r.offset unit BOXTYPE boxtype samples.boxtype_is) (λ os. rw (p1, p2) refl))
    go false false true d e f g p1 p2 p3 p4 p5 p6 p7 =
        of_kind unit r PATH p3 refl
        (shape (path r.offset unit) (λ x. Some (elements.Path x)) (path_whole r.offset unit some)
        (λ os. rw (p1, p2, p3) refl))
    go false false false true e f g p1 p2 p3 p4 p5 p6 p7 =
        of_kind unit r SREF p4 refl
        (shape (single r.offset unit) (λ x. Some (elements.Reference x))
        (single_whole r.offset unit) (λ os. rw (p1, p2, p3, p4) refl))
    go false false false false true f g p1 p2 p3 p4 p5 p6 p7 =
        of_kind unit r AREF p5 refl
        (shape (array r.offset unit) (λ x. Some (elements.Reference x)) (array_whole r.offset unit)
        (λ os. rw (p1, p2, p3, p4, p5) refl))
    go false false false false false true g p1 p2 p3 p4 p5 p6 p7 =
        of_kind unit r TEXT p6 refl
        (shape (ignored r.offset) (λ x. None) (ignored_whole r.offset)
        (λ os. rw (p1, p2, p3, p4, p5, p6) refl))
    go false false false false false false true p1 p2 p3 p4 p5 p6 p7 =
        of_kind unit r NODE p7 refl
        (shape (ignored r.offset) (λ x. None) (ignored_whole r.offset)
        (λ os. rw (p1, p2, p3, p4, p5, p6, p7) refl))
    go false false false false false false false p1 p2 p3 p4 p5 p6 p7 =
        ElementAt.none (λ os. rw (p1, p2, p3, p4, p5, p6, p7) refl)
