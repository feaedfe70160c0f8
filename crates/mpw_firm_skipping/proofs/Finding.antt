-- The records of a text, one step further.
use Rattle.std.proofs.Common.{◌≡◌, ◌∙◌, ◌<◌, ◌≤◌, ◌+◌, ◌-◌, ℕ, suc, List, [], ◌∷◌, drop, length, Bool, true, false, cond, ltb, refl, sym, ap, Option, Some, None, Ok, Err}
use Rattle.std.proofs.lemmas.Bool.{le-ltb, lt-ltb}
use Rattle.mpw_records.specs.declared.fault.Code.{Code}
use Rattle.mpw_records.specs.declared.fault.Code.TheVariants.{Short, BadLength}
use Rattle.mpw_records.specs.Records.{RawRecord, RecordOutcome, first_fault, front, outcomes, outcomes_of, record_of, told_length, unless_fault}
use Rattle.mpw_firm_skipping.specs.Before.{kind_of, kind_until, offset_of, opened_after, opened_until}
use Rattle.mpw_firm_skipping.specs.Elements.{elements_in}
use Rattle.mpw_firm_skipping.specs.Found.{found_from, goes_on}
use Rattle.mpw_firm_skipping.specs.Names.{names_in}
use Rattle.mpw_firm_skipping.specs.Structures.{links_in, structures_in}
use Rattle.mpw_firm_skipping.specs.declared.span.Opened.{Opened}
use Rattle.mpw_firm_skipping.specs.declared.standing.Standing.{Standing}

-- ---- at one offset

-- An outcome at another offset.
abbrev pub placed : ℕ → RecordOutcome → RecordOutcome
placed at (Ok r) =
    Ok (record { offset = at; kind = r.kind; data_type = r.data_type; bytes = r.bytes })
placed at (Err f) = Err (record { code = f.code; offset = at })

moved : (o : Option Code) (at : ℕ) (text : List ℕ)
    → placed at (unless_fault o (record_of 0 text)) ≡ unless_fault o (record_of at text)
moved None at text = refl
moved (Some code) at text = refl

first_is : (text : List ℕ) (o : RecordOutcome) (rest : List RecordOutcome)
    → outcomes_of text ≡ o ∷ rest → front text 0 ≡ o
unfolding outcomes
first_is text o rest e = cc

-- The first record of the rest of a text is the record at that offset of the text.
pub front_is : (text rest : List ℕ) (at : ℕ) (o : RecordOutcome) (rs more : List RecordOutcome)
    → rest ≡ drop at text → rs ≡ outcomes_of rest → rs ≡ o ∷ more
    → placed at o ≡ front text at
front_is text rest at o rs more is of e =
    ap (placed at) (sym (first_is rest o more (sym of ∙ e)))
    ∙ ap (λ xs. placed at (front xs 0)) is
    ∙ moved (first_fault (drop at text)) at (drop at text)

pub never_none : (text : List ℕ) (rs : List RecordOutcome) (A : Type 0) → rs ≡ outcomes_of text
    → rs ≡ [] → A
unfolding outcomes
never_none text rs A of e = absurd cc

-- ---- a step

not_past : (short odd past : Bool) (rest : Option Code) (r : RawRecord)
    → goes_on (unless_fault (cond short (Some Short) (cond odd (Some BadLength)
    (cond past (Some Short) rest))) r)
    ≡ true
    → past ≡ false
not_past true odd past rest r e = absurd cc
not_past false true past rest r e = absurd cc
not_past false false true rest r e = absurd cc
not_past false false false rest r e = refl

pub found_last : (n m : ℕ) (text : List ℕ) (at : ℕ) → n ≡ suc m → goes_on (front text at) ≡ false
    → found_from n text at ≡ front text at ∷ []
unfolding found_from
found_last n m text at same e = rw (same, e) refl

pub found_more : (n m : ℕ) (text : List ℕ) (at : ℕ) → n ≡ suc m → goes_on (front text at) ≡ true
    → found_from n text at ≡ front text at ∷ found_from m text (at + told_length (drop at text))
unfolding found_from
found_more n m text at same e = rw (same, e) refl

pub found_none : (n : ℕ) (text : List ℕ) (at : ℕ) → n ≡ 0 → found_from n text at ≡ []
unfolding found_from
found_none n text at e = rw e refl

-- ---- the elements

pub in_none : (o : Opened) (rs : List RecordOutcome) → rs ≡ [] → elements_in o rs ≡ []
unfolding elements_in
in_none o rs e = rw e refl

-- ---- structures and references

pub structures_none : (s : Standing) (rs : List RecordOutcome) → rs ≡ []
    → structures_in s rs ≡ []
unfolding structures_in
structures_none s rs e = rw e refl

pub links_none : (text : List ℕ) (s : Standing) (rs : List RecordOutcome) → rs ≡ []
    → links_in text s rs ≡ []
unfolding links_in
links_none text s rs e = rw e refl

-- ---- names

pub names_none : (kind : ℕ) (o : Opened) (rs : List RecordOutcome) → rs ≡ []
    → names_in kind o rs ≡ []
unfolding names_in
names_none kind o rs e = rw e refl

-- ---- up to a byte

pub opened_end : (offset : ℕ) (o : Opened) (rs : List RecordOutcome) → rs ≡ []
    → opened_until offset o rs ≡ o
unfolding opened_until
opened_end offset o rs e = rw e refl

pub opened_there : (offset : ℕ) (o : Opened) (rs rest : List RecordOutcome) (found : RecordOutcome)
    → rs ≡ found ∷ rest → offset ≤ offset_of found → opened_until offset o rs ≡ o
unfolding opened_until
opened_there offset o rs rest found e h = rw (e, le-ltb (offset_of found) offset h) refl

pub opened_more : (offset : ℕ) (o : Opened) (rs rest : List RecordOutcome) (found : RecordOutcome)
    → rs ≡ found ∷ rest → offset_of found < offset
    → opened_until offset o rs ≡ opened_until offset (opened_after found o) rest
unfolding opened_until
opened_more offset o rs rest found e h = rw (e, lt-ltb (offset_of found) offset h) refl

pub kind_end : (offset : ℕ) (last : Option ℕ) (rs : List RecordOutcome) → rs ≡ []
    → kind_until offset last rs ≡ last
unfolding kind_until
kind_end offset last rs e = rw e refl

pub kind_there : (offset : ℕ) (last : Option ℕ) (rs rest : List RecordOutcome)
    (found : RecordOutcome) → rs ≡ found ∷ rest → offset ≤ offset_of found
    → kind_until offset last rs ≡ last
unfolding kind_until
kind_there offset last rs rest found e h = rw (e, le-ltb (offset_of found) offset h) refl

pub kind_more : (offset : ℕ) (last : Option ℕ) (rs rest : List RecordOutcome)
    (found : RecordOutcome) → rs ≡ found ∷ rest → offset_of found < offset
    → kind_until offset last rs ≡ kind_until offset (kind_of found) rest
unfolding kind_until
kind_more offset last rs rest found e h = rw (e, lt-ltb (offset_of found) offset h) refl
