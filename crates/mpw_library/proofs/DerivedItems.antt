-- Elements are read exactly if the records derive them.
use Rattle.std.proofs.Common.{◌≡◌, ℕ, zero, suc, ◌<◌, Bool, true, false, cond, eqb, List, [], ◌∷◌, ◌++◌, length, Option, Some, None, Ok, Err, refl, sym, ap, subst, ◌∙◌, inl, inr, arith, append_assoc, length-append}
use Rattle.std.proofs.lemmas.Bool.{eqb-true}
use Rattle.std.proofs.lemmas.List.{append-nil}
use Rattle.mpw_structures.specs.declared.element.Element.{Element}
use Rattle.mpw_records.specs.declared.kind.TheConstants.{BOUNDARY, PATH, SREF, AREF, TEXT, ENDSTR, NODE, BOX}
use Rattle.mpw_records.specs.Records.{RawRecord, RecordOutcome}
use Rattle.mpw_elements.specs.Reading.{demanded}
use Rattle.mpw_elements.specs.Grammar.{element}
use Rattle.mpw_elements.specs.Derivation.{DerivesElement, records_then, Begins}
use Rattle.mpw_elements.proofs.DerivedFields.{bind_ok, ok_is, chosen, records_both, demanded_sound, demanded_complete}
use Rattle.mpw_elements.proofs.DerivedElements.{element_sound, element_complete}
use Rattle.mpw_library.specs.declared.read.Item.{Item}
use Rattle.mpw_library.specs.declared.read.Item.TheVariants as items
use Rattle.mpw_library.specs.Grammar.{next_is, is_between, item_of, item, is_end, placed, elements_behind}
use Rattle.mpw_library.specs.Derivation.{DerivesElements}
use Rattle.mpw_library.proofs.Loops.{elements_next}
use Rattle.mpw_library.proofs.Ended.{ManyIn, none_in, more_in}

-- ---- the next record

pub next_is_sound : (kind : ℕ) (all : List RecordOutcome) (x : RawRecord × List RecordOutcome)
    → next_is kind all ≡ Ok x → (all ≡ Ok x.0 ∷ x.1) × (x.0.kind ≡ kind)
unfolding next_is
next_is_sound kind [] x e = absurd cc
next_is_sound kind (Err f ∷ all) x e = absurd cc
next_is_sound kind (Ok r ∷ all) x e =
    let d = bind_ok (demanded kind r) (λ found. Ok (found, all)) x e in
    let g = demanded_sound kind r d.0 d.1 in
    subst (λ (y : RawRecord × List RecordOutcome). (Ok r ∷ all ≡ Ok y.0 ∷ y.1) × (y.0.kind ≡ kind))
    (ok_is (d.0, all) x d.2) (
      ap (λ (z : RawRecord). Ok z ∷ all) g.1,
      subst (λ (z : RawRecord). z.kind ≡ kind) g.1 g.0,
    )

pub next_is_complete : (kind : ℕ) (r : RawRecord) (rest : List RecordOutcome) → r.kind ≡ kind
    → next_is kind (Ok r ∷ rest) ≡ Ok (r, rest)
unfolding next_is
next_is_complete kind r rest e = rw (demanded_complete kind r e) refl

-- ---- elements

-- the next item of a structure
data ItemIn (unit : ℕ) (all : List RecordOutcome) : Item × List RecordOutcome → Type 0 where
  ends : {end : RawRecord} {rest : List RecordOutcome} → all ≡ Ok end ∷ rest → end.kind ≡ ENDSTR
      → ItemIn unit all (items.End, rest)
  between : {r : RawRecord} {rest : List RecordOutcome} → all ≡ Ok r ∷ rest
      → is_between r.kind ≡ true → ItemIn unit all (items.Other, rest)
  found : {o : Option Element} {rest : List RecordOutcome}
      → Begins all rest (λ rs. DerivesElement unit rs o) → ItemIn unit all (item_of o, rest)

item_sound : (unit : ℕ) (all : List RecordOutcome) (x : Item × List RecordOutcome)
    → item unit all ≡ Ok x → ItemIn unit all x
unfolding item
item_sound unit [] x e = absurd cc
item_sound unit (Err f ∷ all) x e = absurd cc
item_sound unit (Ok r ∷ all) x e =
    elim (chosen (eqb r.kind ENDSTR) _ _ (Ok x) e) [
      | inl p ↦ subst (ItemIn unit (Ok r ∷ all)) (ok_is (items.End, all) x p.1)
          (ItemIn.ends refl (eqb-true _ _ p.0))
      | inr p ↦ elim (chosen (is_between r.kind) _ _ (Ok x) p.1) [
        | inl q ↦ subst (ItemIn unit (Ok r ∷ all)) (ok_is (items.Other, all) x q.1)
            (ItemIn.between refl q.0)
        | inr q ↦
            let a = bind_ok (element unit r all) (λ e. Ok (item_of e.0, e.1)) x q.1 in
            let h = element_sound unit r all a.0 a.1 in
            subst (ItemIn unit (Ok r ∷ all)) (ok_is (item_of a.0.0, a.0.1) x a.2)
            (ItemIn.found (record {
              records = r ∷ h.records;
              parts = ap (λ (os : List RecordOutcome). Ok r ∷ os) h.parts;
              told = h.told;
            }))
      ]
    ]

-- the elements of some records up to ENDSTR, after others
abbrev pub ElementsIn : ℕ → List Element → List RecordOutcome → List Element × List RecordOutcome
    → Type 0
ElementsIn unit before all x = ManyIn ENDSTR (DerivesElements unit) before all x

item_then : (unit most : ℕ) (before : List Element) (all : List RecordOutcome)
    (x : List Element × List RecordOutcome) (i : Item × List RecordOutcome) → ItemIn unit all i
    → cond (is_end i.0) (Ok (before, i.1)) (elements_behind most unit (before ++ placed i.0) i.1)
    ≡ Ok x
    → ((before : List Element) (all : List RecordOutcome)
    → elements_behind most unit before all ≡ Ok x → ElementsIn unit before all x)
    → ElementsIn unit before all x
item_then unit most before all x i (ItemIn.ends {end = end} {rest = rest} p k) e more =
    subst (ElementsIn unit before all) (ok_is (before, rest) x e)
    (none_in before p k DerivesElements.none)
item_then unit most before all x i (ItemIn.between {r = r} {rest = rest} p k) e more =
    let h = more (before ++ []) rest e in
    more_in before (r ∷ []) [] p h (DerivesElements.between k h.derived)
item_then unit most before all x i (ItemIn.found {o = None} {rest = rest} b) e more =
    let h = more (before ++ []) rest e in
    more_in before b.records [] b.parts h (DerivesElements.passed b.told h.derived)
item_then unit most before all x i (ItemIn.found {o = Some el} {rest = rest} b) e more =
    let h = more (before ++ el ∷ []) rest e in
    more_in before b.records (el ∷ []) b.parts h (DerivesElements.placed b.told h.derived)

pub elements_sound : (most unit : ℕ) (before : List Element) (all : List RecordOutcome)
    (x : List Element × List RecordOutcome) → elements_behind most unit before all ≡ Ok x
    → ElementsIn unit before all x
unfolding elements_behind
elements_sound zero unit before all x e = absurd cc
elements_sound (suc most) unit before all x e =
    let i = bind_ok (item unit all) (λ next. cond (is_end next.0) (Ok (before, next.1))
    (elements_behind most unit (before ++ placed next.0) next.1)) x e in
    item_then unit most before all x i.0 (item_sound unit all i.0 i.1) i.2
    (λ b a. elements_sound most unit b a x)

-- what the first record of an element is not
record FirstOf (unit : ℕ) (front : List RawRecord) (found : Option Element) : Type 0 where
  first : RawRecord
  behind : List RawRecord
  parts : front ≡ first ∷ behind
  derived : DerivesElement unit (first ∷ behind) found
  not_end : eqb first.kind ENDSTR ≡ false
  not_between : is_between first.kind ≡ false

-- an element whose first record is of a type that a structure has nowhere else
starts : {unit : ℕ} {rs : List RawRecord} {found : Option Element} (first : RawRecord) (kind : ℕ)
    → first.kind ≡ kind → eqb kind ENDSTR ≡ false → is_between kind ≡ false
    → DerivesElement unit (first ∷ rs) found → FirstOf unit (first ∷ rs) found
starts {rs = rs} first kind e not_end not_between d =
    record {
      first = first;
      behind = rs;
      parts = refl;
      derived = d;
      not_end = ap (λ (n : ℕ). eqb n ENDSTR) e ∙ not_end;
      not_between = ap is_between e ∙ not_between;
    }

first_of : {unit : ℕ} {front : List RawRecord} {found : Option Element}
    → DerivesElement unit front found → FirstOf unit front found
first_of (DerivesElement.boundary {first = first} e d) =
    starts first BOUNDARY e refl refl (DerivesElement.boundary e d)
first_of (DerivesElement.box {first = first} e d) =
    starts first BOX e refl refl (DerivesElement.box e d)
first_of (DerivesElement.path {first = first} e d) =
    starts first PATH e refl refl (DerivesElement.path e d)
first_of (DerivesElement.single {first = first} e d) =
    starts first SREF e refl refl (DerivesElement.single e d)
first_of (DerivesElement.array {first = first} e d) =
    starts first AREF e refl refl (DerivesElement.array e d)
first_of (DerivesElement.text {first = first} e d) =
    starts first TEXT e refl refl (DerivesElement.text e d)
first_of (DerivesElement.node {first = first} e d) =
    starts first NODE e refl refl (DerivesElement.node e d)

item_found : {unit : ℕ} {front : List RawRecord} {o : Option Element} → DerivesElement unit front o
    → (rest : List RecordOutcome) → item unit (records_then front rest) ≡ Ok (item_of o, rest)
unfolding item
item_found {unit = unit} {o = o} d rest =
    let f = first_of d in
    ap (λ (rs : List RawRecord). item unit (records_then rs rest)) f.parts
    ∙ rw (f.not_end, f.not_between, element_complete f.derived rest) refl

item_end : (unit : ℕ) (end : RawRecord) (rest : List RecordOutcome) → end.kind ≡ ENDSTR
    → item unit (Ok end ∷ rest) ≡ Ok (items.End, rest)
unfolding item
item_end unit end rest e = rw e refl

item_between : (unit : ℕ) (r : RawRecord) (rest : List RecordOutcome) → is_between r.kind ≡ true
    → item unit (Ok r ∷ rest) ≡ Ok (items.Other, rest)
unfolding item
item_between unit r rest e = rw (not_end (eqb r.kind ENDSTR) refl, e) refl
  where
    not_end : (b : Bool) → eqb r.kind ENDSTR ≡ b → eqb r.kind ENDSTR ≡ false
    not_end true p = absurd (let k = sym e ∙ ap is_between (eqb-true _ _ p) in cc)
    not_end false p = p

longer : (n : ℕ) (front rs : List RawRecord) (first : RawRecord) (behind : List RawRecord)
    → front ≡ first ∷ behind → length (front ++ rs) < suc n → length rs < n
longer n front rs first behind e lt = let l : length front ≡ suc (length behind) = ap length e in
    omega (arith, length-append front rs)

pub elements_complete : {unit : ℕ} {rs : List RawRecord} {es : List Element}
    → DerivesElements unit rs es
    → (most : ℕ) (before : List Element) (end : RawRecord) (rest : List RecordOutcome)
    → end.kind ≡ ENDSTR → length rs < most
    → elements_behind most unit before (records_then rs (Ok end ∷ rest))
    ≡ Ok (before ++ es, rest)
elements_complete d zero before end rest k lt = absurd (omega arith)
elements_complete {unit = unit} DerivesElements.none (suc most) before end rest k lt =
    elements_next unit most before (Ok end ∷ rest) rest items.End (item_end unit end rest k)
    ∙ ap (λ (l : List Element). Ok (l, rest)) (sym (append-nil before))
elements_complete {unit = unit} {es = es} (DerivesElements.between {r = r} {rs = rs} k' d)
    (suc most) before end rest k lt =
    let after : List RecordOutcome = records_then rs (Ok end ∷ rest) in
    elements_next unit most before (Ok r ∷ after) after items.Other (item_between unit r after k')
    ∙ elements_complete d most (before ++ []) end rest k (omega arith)
    ∙ ap (λ (l : List Element). Ok (l ++ es, rest)) (append-nil before)
elements_complete {unit = unit} {es = es} (DerivesElements.passed {front = front} {rs = rs} a d)
    (suc most) before end rest k lt =
    let after : List RecordOutcome = records_then rs (Ok end ∷ rest) in
    let f = first_of a in
    ap (elements_behind (suc most) unit before) (records_both front rs (Ok end ∷ rest))
    ∙ elements_next unit most before (records_then front after) after items.Other
    (item_found a after)
    ∙ elements_complete d most (before ++ []) end rest k
    (longer most front rs f.first f.behind f.parts lt)
    ∙ ap (λ (l : List Element). Ok (l ++ es, rest)) (append-nil before)
elements_complete {unit = unit} (DerivesElements.placed {front = front} {rs = rs} {e = el} {es = es}
    a d) (suc most) before end rest k lt =
    let after : List RecordOutcome = records_then rs (Ok end ∷ rest) in
    let f = first_of a in
    ap (elements_behind (suc most) unit before) (records_both front rs (Ok end ∷ rest))
    ∙ elements_next unit most before (records_then front after) after (items.Placed el)
    (item_found a after)
    ∙ elements_complete d most (before ++ el ∷ []) end rest k
    (longer most front rs f.first f.behind f.parts lt)
    ∙ ap (λ (l : List Element). Ok (l, rest)) (append_assoc before (el ∷ []) es)
