-- Elements and structures are read exactly if the records derive them.
use Rattle.std.proofs.Common.{◌≡◌, ℕ, zero, suc, ◌<◌, false, cond, eqb, List, [], ◌∷◌, ◌++◌, length, Option, Some, None, is_some, Ok, Err, refl, sym, ap, subst, ◌∙◌, inl, inr, arith, append_assoc, length-append}
use Rattle.std.proofs.lemmas.Bool.{eqb-true}
use Rattle.std.proofs.lemmas.List.{append-nil}
use Rattle.mpw_structures.specs.declared.element.Element.{Element}
use Rattle.mpw_structures.specs.declared.structures.Structure.{Structure}
use Rattle.mpw_structures.specs.Places.{place_of}
use Rattle.mpw_records.specs.declared.kind.TheConstants.{ENDLIB, BGNSTR, STRNAME, ENDSTR}
use Rattle.mpw_records.specs.Records.{RawRecord, RecordOutcome}
use Rattle.mpw_elements.specs.Reading.{demanded}
use Rattle.mpw_elements.specs.Values.{name_of}
use Rattle.mpw_elements.specs.Derivation.{records_then, Begins}
use Rattle.mpw_elements.proofs.DerivedFields.{bind_ok, ok_is, chosen, records_both, demanded_sound, demanded_complete}
use Rattle.mpw_library.specs.Grammar.{next_is, all_elements, untaken, structure, next_structure, added, structures_behind}
use Rattle.mpw_library.specs.Derivation.{DerivesElements, DerivesStructure, DerivesStructures, HaveNamesApart}
use Rattle.mpw_library.proofs.Apart.{apart_push, apart_front, apart_new}
use Rattle.mpw_library.proofs.Loops.{structures_next}
use Rattle.mpw_library.proofs.Ended.{ManyIn, none_in, more_in}
use Rattle.mpw_library.proofs.DerivedItems.{next_is_sound, next_is_complete, elements_sound, elements_complete}

-- ---- structures

untaken_is : (place : Option ℕ) (r : RawRecord) (x : Unit {0}) → untaken place r ≡ Ok x
    → place ≡ None
untaken_is None r x e = refl
untaken_is (Some place) r x e = absurd cc

-- the records of a structure after BGNSTR, with a name that no earlier structure has
record StructureIn (unit : ℕ) (before : List Structure) (all : List RecordOutcome)
    (x : Structure × List RecordOutcome) : Type 0 where
  strname : RawRecord
  records : List RawRecord
  end : RawRecord
  name : List ℕ
  es : List Element
  parts : all ≡ Ok strname ∷ records_then records (Ok end ∷ x.1)
  first : strname.kind ≡ STRNAME
  named : name_of strname ≡ Ok name
  derived : DerivesElements unit records es
  last : end.kind ≡ ENDSTR
  total : x.0 ≡ record { name = name; elements = es }
  absent : place_of before name ≡ None

structure_sound : (unit : ℕ) (before : List Structure) (all : List RecordOutcome)
    (x : Structure × List RecordOutcome) → structure unit before all ≡ Ok x
    → StructureIn unit before all x
unfolding structure
structure_sound unit before all x e =
    let a = bind_ok (next_is STRNAME all) _ x e in
    let n = bind_ok (name_of a.0.0) _ x a.2 in
    let u = bind_ok (untaken (place_of before n.0) a.0.0) _ x n.2 in
    let l = bind_ok (all_elements unit a.0.1) _ x u.2 in
    let h = elements_sound (length a.0.1) unit [] a.0.1 l.0 l.1 in
    let s = next_is_sound STRNAME all a.0 a.1 in
    subst (StructureIn unit before all)
    (ok_is (record { name = n.0; elements = l.0.0 }, l.0.1) x l.2) (record {
      strname = a.0.0;
      records = h.records;
      end = h.end;
      name = n.0;
      es = h.made;
      parts = s.0 ∙ ap (λ (os : List RecordOutcome). Ok a.0.0 ∷ os) h.parts;
      first = s.1;
      named = n.1;
      derived = h.derived;
      last = h.last;
      total = ap (λ (es : List Element). record { name = n.0; elements = es }) h.total;
      absent = untaken_is (place_of before n.0) a.0.0 u.0 u.1;
    })

-- the next item of a library
data NextIn (unit : ℕ) (before : List Structure) (all : List RecordOutcome) : Option Structure
    × List RecordOutcome → Type 0 where
  ends : {end : RawRecord} {rest : List RecordOutcome} → all ≡ Ok end ∷ rest → end.kind ≡ ENDLIB
      → NextIn unit before all (None, rest)
  more : {s : Structure} {rest : List RecordOutcome}
      → Begins all rest (λ rs. DerivesStructure unit rs s) → place_of before s.name ≡ None
      → NextIn unit before all (Some s, rest)

begun : (unit : ℕ) (before : List Structure) (begin : RawRecord) (all : List RecordOutcome)
    (x : Structure × List RecordOutcome) → begin.kind ≡ BGNSTR → StructureIn unit before all x
    → NextIn unit before (Ok begin ∷ all) (Some x.0, x.1)
begun unit before begin all x k h =
    let made : Structure = record { name = h.name; elements = h.es } in
    let rs : List RawRecord = begin ∷ h.strname ∷ h.records ++ h.end ∷ [] in
    let parts : Ok begin ∷ all ≡ records_then rs x.1 =
    ap (λ (os : List RecordOutcome). Ok begin ∷ os)
    (h.parts ∙ ap (λ (os : List RecordOutcome). Ok h.strname ∷ os)
    (sym (records_both h.records (h.end ∷ []) x.1))) in
    subst (λ (s : Structure). NextIn unit before (Ok begin ∷ all) (Some s, x.1)) (sym h.total)
    (NextIn.more {s = made} (record {
      records = rs;
      parts = parts;
      told = DerivesStructure.structure h.end k h.first h.named h.derived h.last;
    }) h.absent)

next_sound : (unit : ℕ) (before : List Structure) (all : List RecordOutcome)
    (x : Option Structure × List RecordOutcome) → next_structure unit before all ≡ Ok x
    → NextIn unit before all x
unfolding next_structure
next_sound unit before [] x e = absurd cc
next_sound unit before (Err f ∷ all) x e = absurd cc
next_sound unit before (Ok r ∷ all) x e =
    elim (chosen (eqb r.kind ENDLIB) _ _ (Ok x) e) [
      | inl p ↦ subst (NextIn unit before (Ok r ∷ all)) (ok_is (None, all) x p.1)
          (NextIn.ends refl (eqb-true _ _ p.0))
      | inr p ↦
          let d = bind_ok (demanded BGNSTR r) _ x p.1 in
          let s = bind_ok (structure unit before all) _ x d.2 in
          let g = demanded_sound BGNSTR r d.0 d.1 in
          subst (NextIn unit before (Ok r ∷ all)) (ok_is (Some s.0.0, s.0.1) x s.2)
          (begun unit before r all s.0 g.0 (structure_sound unit before all s.0 s.1))
    ]

-- the structures of some records up to ENDLIB, after others
pub record StructuresIn (unit : ℕ) (before : List Structure) (all : List RecordOutcome)
    (x : List Structure × List RecordOutcome) : Type 0 where
  pub in_order : ManyIn ENDLIB (DerivesStructures unit) before all x
  pub apart : HaveNamesApart before → HaveNamesApart x.0

next_then : (unit most : ℕ) (before : List Structure) (all : List RecordOutcome)
    (x : List Structure × List RecordOutcome) (i : Option Structure × List RecordOutcome)
    → NextIn unit before all i
    → cond (is_some i.0) (structures_behind most unit (before ++ added i.0) i.1) (Ok (before, i.1))
    ≡ Ok x
    → ((before : List Structure) (all : List RecordOutcome)
    → structures_behind most unit before all ≡ Ok x → StructuresIn unit before all x)
    → StructuresIn unit before all x
next_then unit most before all x i (NextIn.ends {end = end} {rest = rest} p k) e onward =
    subst (StructuresIn unit before all) (ok_is (before, rest) x e)
    (record { in_order = none_in before p k DerivesStructures.none; apart = λ h. h })
next_then unit most before all x i (NextIn.more {s = s} {rest = rest} b new) e onward =
    let h = onward (before ++ s ∷ []) rest e in
    record {
      in_order =
          more_in before b.records (s ∷ []) b.parts h.in_order
          (DerivesStructures.more b.told h.in_order.derived);
      apart = λ a. h.apart (apart_push 0 before s a new);
    }

pub structures_sound : (most unit : ℕ) (before : List Structure) (all : List RecordOutcome)
    (x : List Structure × List RecordOutcome) → structures_behind most unit before all ≡ Ok x
    → StructuresIn unit before all x
unfolding structures_behind
structures_sound zero unit before all x e = absurd cc
structures_sound (suc most) unit before all x e =
    let i = bind_ok (next_structure unit before all)
    (λ next. cond (is_some next.0) (structures_behind most unit (before ++ added next.0) next.1)
    (Ok (before, next.1))) x e in
    next_then unit most before all x i.0 (next_sound unit before all i.0 i.1) i.2
    (λ b a. structures_sound most unit b a x)

next_end : (unit : ℕ) (before : List Structure) (end : RawRecord) (rest : List RecordOutcome)
    → end.kind ≡ ENDLIB → next_structure unit before (Ok end ∷ rest) ≡ Ok (None, rest)
unfolding next_structure
next_end unit before end rest e = rw e refl

pub shorter : (rs : List RawRecord) (end : RecordOutcome) (rest : List RecordOutcome)
    → length rs < length (records_then rs (end ∷ rest))
shorter [] end rest = omega arith
shorter (r ∷ rs) end rest = let h = shorter rs end rest in omega arith

structure_complete : (unit : ℕ) (before : List Structure) (strname end : RawRecord)
    (rs : List RawRecord) (name : List ℕ) (es : List Element) (rest : List RecordOutcome)
    → strname.kind ≡ STRNAME → name_of strname ≡ Ok name → DerivesElements unit rs es
    → end.kind ≡ ENDSTR → place_of before name ≡ None
    → structure unit before (Ok strname ∷ records_then rs (Ok end ∷ rest))
    ≡ Ok (record { name = name; elements = es }, rest)
unfolding structure
structure_complete unit before strname end rs name es rest k n d last new =
    let after : List RecordOutcome = records_then rs (Ok end ∷ rest) in
    rw (
      next_is_complete STRNAME strname after k,
      n,
      new,
      elements_complete d (length after) [] end
          rest last (shorter rs (Ok end) rest),
    ) refl

next_more : {unit : ℕ} {front : List RawRecord} {s : Structure} → DerivesStructure unit front s
    → (before : List Structure) (rest : List RecordOutcome) → place_of before s.name ≡ None
    → next_structure unit before (records_then front rest) ≡ Ok (Some s, rest)
unfolding next_structure
next_more {unit = unit} (DerivesStructure.structure {begin = begin} {strname = strname} end
    {rs = rs} {name = name} {es = es} k n is d last) before rest new =
    let not_last : eqb begin.kind ENDLIB ≡ false = rw k refl in
    ap (λ (os : List RecordOutcome). next_structure unit before (Ok begin ∷ Ok strname ∷ os))
    (records_both rs (end ∷ []) rest)
    ∙ rw (
      not_last,
      demanded_complete BGNSTR begin k,
      structure_complete unit before strname end rs
          name es rest n is d last new,
    ) refl

begins : {unit : ℕ} {front : List RawRecord} {s : Structure} → DerivesStructure unit front s
    → 0 < length front
begins (DerivesStructure.structure end k n is d last) = omega arith

pub structures_complete : {unit : ℕ} {rs : List RawRecord} {ss : List Structure}
    → DerivesStructures unit rs ss
    → (most : ℕ) (before : List Structure) (end : RawRecord) (rest : List RecordOutcome)
    → end.kind ≡ ENDLIB → HaveNamesApart (before ++ ss) → length rs < most
    → structures_behind most unit before (records_then rs (Ok end ∷ rest))
    ≡ Ok (before ++ ss, rest)
structures_complete d zero before end rest k apart lt = absurd (omega arith)
structures_complete {unit = unit} DerivesStructures.none (suc most) before end rest k apart lt =
    structures_next unit most before (Ok end ∷ rest) rest None (next_end unit before end rest k)
    ∙ ap (λ (l : List Structure). Ok (l, rest)) (sym (append-nil before))
structures_complete {unit = unit} (DerivesStructures.more {front = front} {rs = rs} {s = s}
    {ss = ss} a d) (suc most) before end rest k apart lt =
    let after : List RecordOutcome = records_then rs (Ok end ∷ rest) in
    let regrouped : HaveNamesApart ((before ++ s ∷ []) ++ ss) =
    subst HaveNamesApart (sym (append_assoc before (s ∷ []) ss)) apart in
    let new : place_of before s.name ≡ None =
    apart_new 0 before s (apart_front (before ++ s ∷ []) ss regrouped) in
    ap (structures_behind (suc most) unit before) (records_both front rs (Ok end ∷ rest))
    ∙ structures_next unit most before (records_then front after) after (Some s)
    (next_more a before after new)
    ∙ structures_complete d most (before ++ s ∷ []) end rest k regrouped
    (omega (arith, begins a, length-append front rs))
    ∙ ap (λ (l : List Structure). Ok (l, rest)) (append_assoc before (s ∷ []) ss)
