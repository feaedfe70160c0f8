-- The fault that is reported of a refused text is its first fault.
use Rattle.std.proofs.Common.{◌≡◌, ℕ, zero, suc, ◌+◌, ◌^◌, ◌<◌, ◌≤◌, Bool, true, false, cond, eqb, List, [], ◌∷◌, ◌++◌, length, drop, take, Option, Some, None, Result, Ok, Err, refl, sym, ap, subst, ◌∙◌, arith, length-drop, length-append, length-take, take-append-drop}
use Rattle.std.proofs.lemmas.Bool.{eqb-true}
use Rattle.std.proofs.lemmas.List.{drop-append-le, drop_all}
use Rattle.mpw_structures.specs.declared.structures.Structure.{Structure}
use Rattle.mpw_records.specs.declared.fault.Code.{Code}
use Rattle.mpw_records.specs.declared.fault.Code.TheVariants.{Unexpected}
use Rattle.mpw_records.specs.declared.fault.ReadFault.{ReadFault}
use Rattle.mpw_records.specs.declared.kind.TheConstants.{ENDLIB, BGNLIB}
use Rattle.mpw_records.specs.Format.{data_fault}
use Rattle.mpw_records.specs.Records.{RawRecord, RecordOutcome, told_length, first_fault, record_of, unless_fault, front, is_last, outcomes, outcomes_of, outcomes_from}
use Rattle.mpw_records.proofs.Fronts.{fits_of, step_ok}
use Rattle.mpw_elements.specs.Reading.{fault_at}
use Rattle.mpw_elements.specs.Derivation.{records_then}
use Rattle.mpw_elements.proofs.DerivedFields.{records_both}
use Rattle.mpw_library.specs.Grammar.{next_is, library, library_of}
use Rattle.mpw_library.specs.Fronts.{IsFront}
use Rattle.mpw_library.proofs.DerivedLibrary.{library_complete}
use Rattle.mpw_library.proofs.FrontLibrary.{unexpected_is_first}
use Rattle.mpw_reader_laws.specs.FirstFault.{IsFaultOf, EndsThere, IsFirstFault, FirstFaultIsTold}
use Rattle.mpw_reader_laws.proofs.Progress.{last_of}
use Rattle.mpw_reader_laws.proofs.Items.{Tells, marked, not_every}
use Rattle.mpw_reader_laws.proofs.Libraries.{Course, whole, library_course}
use Rattle.mpw_reader_laws.proofs.Texts.{record_at, place, place_grows, stands, records_same}
use Rattle.mpw_reader_laws.proofs.Changed.{nothing_yet, nothing_behind, read_so}

-- ---- the records of a text end with ENDLIB, or with a fault in place of a record

data Split (os : List RecordOutcome) : Type 0 where
  whole_text : (before : List RawRecord) (end : RawRecord) → end.kind ≡ ENDLIB
      → os ≡ records_then before (Ok end ∷ []) → Split os
  cut_text : (before : List RawRecord) (g : ReadFault) → os ≡ records_then before (Err g ∷ [])
      → Split os

split_outcomes : (most : ℕ) (text : List ℕ) (offset : ℕ) → offset ≤ length text
    → length text < most + offset → Split (outcomes most text offset)
unfolding outcomes
split_outcomes zero text offset le lt = absurd (omega (arith, le, lt))
split_outcomes (suc most) text offset le lt =
    go (first_fault (drop offset text)) refl
    (λ a b. split_outcomes most text (offset + told_length (drop offset text)) a b)
  where
    next : ℕ
    next = offset + told_length (drop offset text)

    r : RawRecord
    r = record_of offset (drop offset text)

    more_of : Split (outcomes most text next)
        → Split (Ok r ∷ outcomes most text next)
    more_of (Split.whole_text before end last e) =
        Split.whole_text (r ∷ before) end last (ap (λ (os : List RecordOutcome). Ok r ∷ os) e)
    more_of (Split.cut_text before g e) =
        Split.cut_text (r ∷ before) g (ap (λ (os : List RecordOutcome). Ok r ∷ os) e)

    ok : (last : Bool) → eqb r.kind ENDLIB ≡ last → (next ≤ length text → length text < most + next
        → Split (outcomes most text next)) → next ≤ length text → length text < most + next
        → Split (Ok r ∷ cond last [] (outcomes most text next))
    ok true e more a b = Split.whole_text [] r (eqb-true r.kind ENDLIB e) refl
    ok false e more a b = more_of (more a b)

    go : (o : Option Code) → first_fault (drop offset text) ≡ o
        → (next ≤ length text → length text < most + next → Split (outcomes most text next))
        → Split (unless_fault o r ∷ cond (is_last (unless_fault o r)) []
        (outcomes most text next))
    go (Some code) is more = Split.cut_text [] (record { code = code; offset = offset }) refl
    go None is more =
        let f = fits_of (drop offset text) is in
        let l = length-drop offset text in
        ok (eqb r.kind ENDLIB) refl more
        (omega (arith, f.whole, l, le)) (omega (arith, f.header, lt))

-- ---- two ways to split a list

same_split : (p : ℕ) (xs ys : List RawRecord) (o u : RecordOutcome) (os us : List RecordOutcome)
    → records_then xs (o ∷ os) ≡ records_then ys (u ∷ us) → place p xs ≡ place p ys → xs ≡ ys
same_split p [] [] o u os us e k = refl
same_split p [] (y ∷ ys) o u os us e k =
    absurd (let g = place_grows (p + (4 + length y.bytes)) ys in omega (arith, g, k))
same_split p (x ∷ xs) [] o u os us e k =
    absurd (let g = place_grows (p + (4 + length x.bytes)) xs in omega (arith, g, k))
same_split p (x ∷ xs) (y ∷ ys) o u os us e k =
    let first : x ≡ y = cc in
    let others : records_then xs (o ∷ os) ≡ records_then ys (u ∷ us) = cc in
    let same : place (p + (4 + length x.bytes)) xs ≡ place (p + (4 + length x.bytes)) ys =
    k ∙ ap (λ (z : RawRecord). place (p + (4 + length z.bytes)) ys) (sym first) in
    ap (λ (z : RawRecord). z ∷ xs) first
    ∙ ap (λ (l : List RawRecord). y ∷ l)
    (same_split (p + (4 + length x.bytes)) xs ys o u os us others same)

-- ---- the records before a place at which the reader waits can go on

-- a record without data, of a type
abbrev probe : ℕ → List ℕ
probe kind = 0 ∷ 4 ∷ kind ∷ 0 ∷ []

abbrev probe_record : ℕ → ℕ → RawRecord
probe_record offset kind = record { offset = offset; kind = kind; data_type = 0; bytes = [] }

module _ (text : List ℕ) (before : List RawRecord) (o : RecordOutcome) (rest : List RecordOutcome)
    (few : length text < 2 ^ 63) (parts : outcomes_of text ≡ records_then before (o ∷ rest))
    (kind : ℕ) (formed : (offset : ℕ) → first_fault (probe kind) ≡ None)
    (refuses : (b : RawRecord) (os : List RecordOutcome) → b.kind ≡ kind
    → library (records_then before (Ok b ∷ os)) ≡ Err (fault_at Unexpected b)) where
  abbrev at : ℕ
  at = place 0 before

  abbrev probed : List ℕ
  probed = take at text ++ probe kind

  within : at ≤ length text
  within = (stands text 0 before o rest (omega arith) parts).within

  long : length (take at text) ≡ at
  long = let w = within in omega (arith, length-take at text, w)

  there : drop at probed ≡ probe kind
  there =
      drop-append-le at (take at text) (probe kind) (omega (arith, long))
      ∙ ap (λ (l : List ℕ). l ++ probe kind) (drop_all at (take at text) (omega (arith, long)))

  stands_there : front probed at ≡ Ok (probe_record at kind)
  stands_there =
      ap (λ (l : List ℕ). unless_fault (first_fault l) (record_of at l)) there
      ∙ ap (λ (f : Option Code). unless_fault f (record_of at (probe kind))) (formed 0)

  abbrev behind : List RecordOutcome
  behind = cond (eqb kind ENDLIB) [] (outcomes_from probed (at + 4))

  probed_parts : outcomes_of probed ≡ records_then before (Ok (probe_record at kind) ∷ behind)
  probed_parts =
      let w = within in
      let l = long in
      let both = length-append (take at text) (probe kind) in
      records_same (take at text) (drop at text) (probe kind) 0 before o rest (omega arith)
      (ap (λ (l : List ℕ). outcomes_of l) (take-append-drop at text) ∙ parts)
      (omega (arith, l))
      ∙ ap (records_then before)
      (step_ok probed at (probe_record at kind) (omega (arith, l, both)) stands_there)

  front_goes_on : IsFront before
  front_goes_on =
      let w = within in
      let l = long in
      let both = length-append (take at text) (probe kind) in
      let told =
      ap library probed_parts ∙ refuses (probe_record at kind) behind refl in
      let u = unexpected_is_first probed at (omega (arith, few, w, l, both)) told in
      let s =
      stands probed 0 u.before (Ok u.refused) u.rest (omega arith) u.parts in
      let r = record_at probed (place 0 u.before) u.refused s.within s.is in
      let same =
      same_split 0 before u.before (Ok (probe_record at kind)) (Ok u.refused) behind u.rest
      (sym probed_parts ∙ u.parts) (sym u.stands ∙ r.offset) in
      subst IsFront (sym same) u.goes_on

end_formed : first_fault (probe ENDLIB) ≡ None
unfolding data_fault
end_formed = refl

begin_formed : first_fault (probe BGNLIB) ≡ None
unfolding data_fault
begin_formed = refl

-- ---- the last record of some

record Last (rs : List RawRecord) (h : RawRecord) : Type 0 where
  before : List RawRecord
  last : RawRecord
  is : rs ≡ before ++ last ∷ []
  same : last_of h rs ≡ last

last_record : (h r : RawRecord) (rs : List RawRecord) → Last (r ∷ rs) h
last_record h r [] = record { before = []; last = r; is = refl; same = refl }
last_record h r (s ∷ rs) =
    let l = last_record r s rs in
    record {
      before = r ∷ l.before;
      last = l.last;
      is = ap (λ (x : List RawRecord). r ∷ x) l.is;
      same = l.same;
    }

library_waits : (g : ReadFault) (os : List RecordOutcome) → library (Err g ∷ os) ≡ Err g
unfolding library next_is
library_waits g os = refl

one_fault : (f g : ReadFault) (told : Result (List Structure) ReadFault) → told ≡ Err f
    → told ≡ Err g → f ≡ g
one_fault f g told a b = let e = sym a ∙ b in cc

-- no library begins with records that are refused
module _ (before : List RawRecord) (r : RawRecord) (f : ReadFault)
    (refused : (os : List RecordOutcome)
    → library (records_then before (Ok r ∷ os)) ≡ Err f) where
  none_begins : EndsThere before (Ok r)
  none_begins behind ss d =
      let reads =
      sym (ap library (records_both before (r ∷ behind) [])) ∙ library_complete d [] in
      let e = sym (refused (records_then behind [])) ∙ reads in
      absurd cc

module _ (text : List ℕ) (fault : ReadFault) (few : length text < 2 ^ 63)
    (told : library_of text ≡ Err fault) where
  -- the reader waits after these records, and reports the fault of the next outcome
  abbrev Waiting : List RawRecord → RecordOutcome → Type 0
  Waiting before o = (rest : List RecordOutcome)
      → outcomes_of text ≡ records_then before (o ∷ rest) → IsFront before

  inside_front : (before : List RawRecord) (o : RecordOutcome)
      → ((e : RawRecord) (os : List RecordOutcome) → e.kind ≡ ENDLIB
      → Tells whole (records_then before (Ok e ∷ os)) (Err (fault_at Unexpected e)))
      → Waiting before o
  inside_front before o b rest parts =
      front_goes_on text before o rest few parts ENDLIB (λ n. end_formed)
      (λ e os is. read_so (records_then before (Ok e ∷ os)) (Err (fault_at Unexpected e))
      (b e os is))

  between_front : (before : List RawRecord) (o : RecordOutcome)
      → ((e : RawRecord) (os : List RecordOutcome) → e.kind ≡ BGNLIB
      → Tells whole (records_then before (Ok e ∷ os)) (Err (fault_at Unexpected e)))
      → Waiting before o
  between_front before o b rest parts =
      front_goes_on text before o rest few parts BGNLIB (λ n. begin_formed)
      (λ e os is. read_so (records_then before (Ok e ∷ os)) (Err (fault_at Unexpected e))
      (b e os is))

  part_of : (before first after : List RawRecord) (os : List RecordOutcome)
      → outcomes_of text ≡ records_then before os → before ≡ first ++ after
      → outcomes_of text ≡ records_then first (records_then after os)
  part_of before first after os parts is =
      parts ∙ ap (λ (x : List RawRecord). records_then x os) is ∙ records_both first after os

  never_ends : (before taken after : List RawRecord) (c : RawRecord) (o : RecordOutcome)
      (os : List RecordOutcome) → c.kind ≡ ENDLIB → outcomes_of text ≡ records_then before (o ∷ os)
      → before ≡ taken ++ c ∷ after → ⊥
  never_ends before taken after c o os last parts is =
      nothing_behind text taken c after o os last
      (parts ∙ ap (λ (x : List RawRecord). records_then x (o ∷ os)) is)

  abbrev Refusing : List RawRecord → ReadFault → Type 0
  Refusing rs f = (os : List RecordOutcome) → library (records_then rs os) ≡ Err f

  -- a front of the records at which the reader has reported a fault
  failed : (n : ℕ) (rs : List RawRecord) (os : List RecordOutcome) → length rs < n
      → outcomes_of text ≡ records_then rs os → (f : ReadFault)
      → IsFaultOf (last_of nothing_yet rs) f → Refusing rs f → IsFirstFault text fault
  failed zero rs os lt parts f at e = absurd (omega (arith, lt))
  failed (suc n) [] os lt parts f at e =
      let is_marked : (k : ℕ) → f ≡ marked k =
      λ k. one_fault f (marked k) (library (Err (marked k) ∷ [])) (e (Err (marked k) ∷ []))
      (library_waits (marked k) []) in
      absurd (not_every f (is_marked 0) (is_marked 1))
  failed (suc n) (r ∷ rs) os lt parts f at e =
      go (λ qs us k p g a w. failed n qs us k p g a w) (last_record nothing_yet r rs)
    where
      go : ((qs : List RawRecord) (us : List RecordOutcome) → length qs < n
          → outcomes_of text ≡ records_then qs us → (g : ReadFault)
          → IsFaultOf (last_of nothing_yet qs) g → Refusing qs g → IsFirstFault text fault)
          → Last (r ∷ rs) nothing_yet → IsFirstFault text fault
      go again l = at_course (library_course nothing_yet l.before)
        where
          parts_here : outcomes_of text ≡ records_then l.before (Ok l.last ∷ os)
          parts_here =
              parts ∙ ap (λ (x : List RawRecord). records_then x os) l.is
              ∙ records_both l.before (l.last ∷ []) os

          refused : Refusing (l.before ++ l.last ∷ []) f
          refused = subst (λ (x : List RawRecord). Refusing x f) l.is e

          same_fault : f ≡ fault
          same_fault = one_fault f fault (library_of text) (ap library parts ∙ e os) told

          here : Waiting l.before (Ok l.last) → IsFirstFault text fault
          here w = record {
            before = l.before;
            there = Ok l.last;
            rest = os;
            parts = parts_here;
            goes_on = w os parts_here;
            ends = none_begins l.before l.last f
                (λ us. sym (ap library (records_both l.before (l.last ∷ []) us)) ∙ refused us);
            is = subst (IsFaultOf l.last) same_fault
                (subst (λ (x : RawRecord). IsFaultOf x f) l.same at);
          }

          at_course : Course whole nothing_yet l.before → IsFirstFault text fault
          at_course (Course.inside a b) = here (inside_front l.before (Ok l.last) b)
          at_course (Course.between a b x c) = here (between_front l.before (Ok l.last) b)
          at_course (Course.fails first after is g k w) =
              let count = ap length l.is ∙ length-append l.before (l.last ∷ []) in
              let fewer = ap length is ∙ length-append first after in
              again first (records_then after (Ok l.last ∷ os)) (omega (arith, count, fewer, lt))
              (part_of l.before first after (Ok l.last ∷ os) parts_here is) g k
              (λ us. read_so (records_then first us) (Err g) (w us))
          at_course (Course.ends taken after c is last x k) =
              absurd (never_ends l.before taken after c (Ok l.last) os last parts_here is)

  by_split : Split (outcomes_of text) → IsFirstFault text fault
  by_split (Split.cut_text before g parts) = go (library_course nothing_yet before)
    where
      here : Waiting before (Err g) → library (records_then before (Err g ∷ [])) ≡ Err g
          → IsFirstFault text fault
      here w e = record {
        before = before;
        there = Err g;
        rest = [];
        parts = parts;
        goes_on = w [] parts;
        ends = tt;
        is = one_fault g fault (library_of text) (ap library parts ∙ e) told;
      }

      go : Course whole nothing_yet before → IsFirstFault text fault
      go (Course.inside a b) =
          here (inside_front before (Err g) b)
          (read_so (records_then before (Err g ∷ [])) (Err g) (a g []))
      go (Course.between a b x c) =
          here (between_front before (Err g) b)
          (read_so (records_then before (Err g ∷ [])) (Err g) (a g []))
      go (Course.fails first after is f k w) =
          failed (suc (length first)) first (records_then after (Err g ∷ [])) (omega arith)
          (part_of before first after (Err g ∷ []) parts is) f k
          (λ us. read_so (records_then first us) (Err f) (w us))
      go (Course.ends taken after c is last x k) =
          absurd (never_ends before taken after c (Err g) [] last parts is)
  by_split (Split.whole_text before end last parts) = go (library_course nothing_yet before)
    where
      refused : ((os : List RecordOutcome)
          → library (records_then before (Ok end ∷ os)) ≡ Err (fault_at Unexpected end))
          → Waiting before (Ok end) → IsFirstFault text fault
      refused e w = record {
        before = before;
        there = Ok end;
        rest = [];
        parts = parts;
        goes_on = w [] parts;
        ends = none_begins before end (fault_at Unexpected end) e;
        is = IsFaultOf.misplaced
            (one_fault fault (fault_at Unexpected end) (library_of text) told
            (ap library parts ∙ e []));
      }

      go : Course whole nothing_yet before → IsFirstFault text fault
      go (Course.inside a b) =
          refused
          (λ os. read_so (records_then before (Ok end ∷ os)) (Err (fault_at Unexpected end))
          (b end os last)) (inside_front before (Ok end) b)
      go (Course.between a b x c) =
          let reads =
          sym told ∙ ap library parts
          ∙ read_so (records_then before (Ok end ∷ [])) (Ok x) (c end [] last) in
          absurd cc
      go (Course.fails first after is f k w) =
          failed (suc (length first)) first (records_then after (Ok end ∷ [])) (omega arith)
          (part_of before first after (Ok end ∷ []) parts is) f k
          (λ us. read_so (records_then first us) (Err f) (w us))
      go (Course.ends taken after c is ending x k) =
          absurd (never_ends before taken after c (Ok end) [] ending parts is)

  pub first_told : IsFirstFault text fault
  first_told = by_split (split_outcomes (suc (length text)) text 0 (omega arith) (omega arith))

pub first_fault_is_told : FirstFaultIsTold
first_fault_is_told text fault few told = first_told text fault few told
