-- Reading one item after another, as a loop does.
use Rattle.std.proofs.Common.{◌≡◌, ℕ, zero, suc, ◌<◌, ◌≤◌, true, false, cond, eqb, ◌||◌, List, [], ◌∷◌, ◌++◌, length, Option, Some, None, is_some, Result, Ok, Err, refl, sym, ap, ◌∙◌, inl, inr, arith}
use Rattle.std.proofs.lemmas.Bool.Decides.{eqb_tells}
use Rattle.std.proofs.lemmas.List.{append-nil}
use Rattle.mpw_structures.specs.declared.element.Element.{Element}
use Rattle.mpw_structures.specs.declared.structures.Structure.{Structure}
use Rattle.mpw_records.specs.declared.fault.Code.TheVariants.{Unexpected}
use Rattle.mpw_records.specs.declared.fault.ReadFault.{ReadFault}
use Rattle.mpw_records.specs.Records.{RawRecord, RecordOutcome}
use Rattle.mpw_elements.specs.declared.fault.ReadError.{ReadError}
use Rattle.mpw_elements.specs.declared.fault.ReadError.TheVariants as errors
use Rattle.mpw_elements.specs.Reading.{Reading, Fails, fault_at}
use Rattle.mpw_library.specs.declared.read.Item.{Item}
use Rattle.mpw_library.specs.declared.read.Item.TheVariants as items
use Rattle.mpw_library.specs.Grammar.{gone, ends_head, up_to, item, is_end, placed, elements_behind, next_structure, added, structures_behind}

-- ---- the head

pub up_to_end : (wanted unwanted : ℕ) (rs : List RecordOutcome) → rs ≡ []
    → up_to wanted unwanted rs ≡ Err gone
unfolding up_to
up_to_end wanted unwanted rs e = rw e refl

pub up_to_err : (wanted unwanted : ℕ) (rs rest : List RecordOutcome) (f : ReadFault)
    → rs ≡ Err f ∷ rest → up_to wanted unwanted rs ≡ Err f
unfolding up_to
up_to_err wanted unwanted rs rest f e = rw e refl

differs : (a b : ℕ) → (a ≡ b → ⊥) → eqb a b ≡ false
differs a b h = elim (eqb_tells a b) [ inl p ↦ absurd (h p.1) | inr p ↦ p.0 ]

equals : (a : ℕ) → eqb a a ≡ true
equals a = elim (eqb_tells a a) [ inl p ↦ p.0 | inr p ↦ absurd (p.1 refl) ]

pub up_to_found : (wanted unwanted : ℕ) (rs rest : List RecordOutcome) (r : RawRecord)
    → rs ≡ Ok r ∷ rest → r.kind ≡ wanted → up_to wanted unwanted rs ≡ Ok (r, rest)
unfolding up_to
up_to_found wanted unwanted rs rest r e h = rw (e, h, equals wanted) refl

pub up_to_refused : (wanted unwanted : ℕ) (rs rest : List RecordOutcome) (r : RawRecord)
    → rs ≡ Ok r ∷ rest → (r.kind ≡ wanted → ⊥) → (eqb r.kind unwanted || ends_head r.kind) ≡ true
    → up_to wanted unwanted rs ≡ Err (fault_at Unexpected r)
unfolding up_to
up_to_refused wanted unwanted rs rest r e h k = rw (e, differs r.kind wanted h, k) refl

pub up_to_more : (wanted unwanted : ℕ) (rs rest : List RecordOutcome) (r : RawRecord)
    → rs ≡ Ok r ∷ rest → (r.kind ≡ wanted → ⊥) → (eqb r.kind unwanted || ends_head r.kind) ≡ false
    → up_to wanted unwanted rs ≡ up_to wanted unwanted rest
unfolding up_to
up_to_more wanted unwanted rs rest r e h k = rw (e, differs r.kind wanted h, k) refl

-- ---- elements

-- the elements so far and those in the records make the whole
pub record ElementsTo (unit : ℕ) (es : List Element) (rs : List RecordOutcome)
    (total : Reading (List Element)) : Type 0 where
  pub most : ℕ
  pub enough : length rs ≤ most
  pub same : elements_behind most unit es rs ≡ total

abbrev failed : {A : Type 0} → ReadFault → Result A ReadFault
failed f = Err f

fault_is : {A : Type 0} (f g : ReadFault) → failed {A = A} f ≡ failed {A = A} g → f ≡ g
fault_is f g e = cc

pub empty : (rs : List RecordOutcome) → length rs ≤ 0 → rs ≡ []
empty [] h = refl
empty (r ∷ rs) h = absurd (omega arith)

pub item_gone : (unit : ℕ) → item unit [] ≡ Err gone
unfolding item
item_gone unit = refl

fails_from : (e : ReadError) {Y Z : Type 0} (read : Result Y ReadFault) (total : Result Z ReadFault)
    → ((f : ReadFault) → read ≡ Err f → total ≡ Err f) → Fails e read → Fails e total
fails_from errors.Memory read total h d = tt
fails_from (errors.Fault f) read total h d = h f d

pub elements_fail : (unit : ℕ) (most : ℕ) (es : List Element) (rs : List RecordOutcome)
    → length rs ≤ most → (f : ReadFault) → item unit rs ≡ Err f
    → elements_behind most unit es rs ≡ Err f
unfolding elements_behind
elements_fail unit zero es rs le f e =
    ap (λ g. Err g) (fault_is {A = Item × List RecordOutcome} gone f
    (sym (item_gone unit) ∙ sym (ap (item unit) (empty rs le)) ∙ e))
elements_fail unit (suc most) es rs le f e = rw e refl

pub elements_err : (e : ReadError) (unit : ℕ) (es : List Element) (rs : List RecordOutcome)
    (total : Reading (List Element)) → ElementsTo unit es rs total → Fails e (item unit rs)
    → Fails e total
elements_err e unit es rs total t d = fails_from e (item unit rs) total
    (λ f h. sym t.same ∙ elements_fail unit t.most es rs t.enough f h) d

pub elements_next : (unit : ℕ) (most : ℕ) (es : List Element) (rs rest : List RecordOutcome)
    (i : Item) → item unit rs ≡ Ok (i, rest)
    → elements_behind (suc most) unit es rs ≡ cond (is_end i) (Ok (es, rest))
    (elements_behind most unit (es ++ placed i) rest)
unfolding elements_behind
elements_next unit most es rs rest i e = rw e refl

pub elements_end : (unit : ℕ) (es : List Element) (rs rest : List RecordOutcome)
    (total : Reading (List Element)) → ElementsTo unit es rs total → length rest < length rs
    → item unit rs ≡ Ok (items.End, rest) → total ≡ Ok (es, rest)
elements_end unit es rs rest total t less e = ends t.most t.enough t.same
  where
    ends : (most : ℕ) → length rs ≤ most → elements_behind most unit es rs ≡ total
        → total ≡ Ok (es, rest)
    ends zero le s = absurd (omega arith)
    ends (suc most) le s = sym s ∙ elements_next unit most es rs rest items.End e

pub elements_more : (unit : ℕ) (es : List Element) (rs rest : List RecordOutcome) (i : Item)
    (total : Reading (List Element)) → ElementsTo unit es rs total → length rest < length rs
    → item unit rs ≡ Ok (i, rest) → is_end i ≡ false → ElementsTo unit (es ++ placed i) rest total
elements_more unit es rs rest i total t less e more = go t.most t.enough t.same
  where
    go : (most : ℕ) → length rs ≤ most → elements_behind most unit es rs ≡ total
        → ElementsTo unit (es ++ placed i) rest total
    go zero le s = absurd (omega arith)
    go (suc most) le s = record {
      most = most;
      enough = omega arith;
      same = sym (elements_next unit most es rs rest i e
          ∙ ap (λ b. cond b (Ok (es, rest)) (elements_behind most unit (es ++ placed i) rest)) more)
          ∙ s;
    }

pub elements_other : (unit : ℕ) (es : List Element) (rs rest : List RecordOutcome)
    (total : Reading (List Element)) → ElementsTo unit es rs total → length rest < length rs
    → item unit rs ≡ Ok (items.Other, rest) → ElementsTo unit es rest total
elements_other unit es rs rest total t less e =
    rw append-nil at (elements_more unit es rs rest items.Other total t less e refl)

-- ---- structures

pub record StructuresTo (unit : ℕ) (ss : List Structure) (rs : List RecordOutcome)
    (total : Reading (List Structure)) : Type 0 where
  pub most : ℕ
  pub enough : length rs ≤ most
  pub same : structures_behind most unit ss rs ≡ total

pub structure_gone : (unit : ℕ) (ss : List Structure) → next_structure unit ss [] ≡ Err gone
unfolding next_structure
structure_gone unit ss = refl

pub structures_fail : (unit : ℕ) (most : ℕ) (ss : List Structure) (rs : List RecordOutcome)
    → length rs ≤ most → (f : ReadFault) → next_structure unit ss rs ≡ Err f
    → structures_behind most unit ss rs ≡ Err f
unfolding structures_behind
structures_fail unit zero ss rs le f e =
    ap (λ g. Err g) (fault_is {A = Option Structure × List RecordOutcome} gone f
    (sym (structure_gone unit ss) ∙ sym (ap (next_structure unit ss) (empty rs le)) ∙ e))
structures_fail unit (suc most) ss rs le f e = rw e refl

pub structures_err : (e : ReadError) (unit : ℕ) (ss : List Structure) (rs : List RecordOutcome)
    (total : Reading (List Structure)) → StructuresTo unit ss rs total
    → Fails e (next_structure unit ss rs) → Fails e total
structures_err e unit ss rs total t d = fails_from e (next_structure unit ss rs) total
    (λ f h. sym t.same ∙ structures_fail unit t.most ss rs t.enough f h) d

pub structures_next : (unit : ℕ) (most : ℕ) (ss : List Structure) (rs rest : List RecordOutcome)
    (s : Option Structure) → next_structure unit ss rs ≡ Ok (s, rest)
    → structures_behind (suc most) unit ss rs ≡ cond (is_some s)
    (structures_behind most unit (ss ++ added s) rest) (Ok (ss, rest))
unfolding structures_behind
structures_next unit most ss rs rest s e = rw e refl

pub structures_end : (unit : ℕ) (ss : List Structure) (rs rest : List RecordOutcome)
    (total : Reading (List Structure)) → StructuresTo unit ss rs total → length rest < length rs
    → next_structure unit ss rs ≡ Ok (None, rest) → total ≡ Ok (ss, rest)
structures_end unit ss rs rest total t less e = ends t.most t.enough t.same
  where
    ends : (most : ℕ) → length rs ≤ most → structures_behind most unit ss rs ≡ total
        → total ≡ Ok (ss, rest)
    ends zero le s = absurd (omega arith)
    ends (suc most) le s = sym s ∙ structures_next unit most ss rs rest None e

pub structures_more : (unit : ℕ) (ss : List Structure) (rs rest : List RecordOutcome)
    (s : Structure) (total : Reading (List Structure)) → StructuresTo unit ss rs total
    → length rest < length rs → next_structure unit ss rs ≡ Ok (Some s, rest)
    → StructuresTo unit (ss ++ s ∷ []) rest total
structures_more unit ss rs rest s total t less e = go t.most t.enough t.same
  where
    go : (most : ℕ) → length rs ≤ most → structures_behind most unit ss rs ≡ total
        → StructuresTo unit (ss ++ s ∷ []) rest total
    go zero le h = absurd (omega arith)
    go (suc most) le h = record {
      most = most;
      enough = omega arith;
      same = sym (structures_next unit most ss rs rest (Some s) e) ∙ h;
    }
