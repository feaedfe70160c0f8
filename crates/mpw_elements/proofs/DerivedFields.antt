-- Reading one record of an element: it is read exactly if it is there, after records that are skipped.
use Rattle.std.proofs.Common.{◌≡◌, ℕ, Bool, true, false, cond, eqb, ◌||◌, List, [], ◌∷◌, ◌++◌, Result, Ok, Err, refl, sym, ap, subst, ◌∙◌, inl, inr}
use Rattle.std.specs.Prelude.{◌⊎◌}
use Rattle.std.proofs.lemmas.Bool.{eqb-true}
use Rattle.std.proofs.lemmas.Bool.Decides.{eqb_tells}
use Rattle.mpw_records.specs.declared.fault.Code.TheVariants.{Unexpected}
use Rattle.mpw_records.specs.declared.fault.ReadFault.{ReadFault}
use Rattle.mpw_records.specs.Records.{RawRecord, RecordOutcome}
use Rattle.mpw_elements.specs.Reading.{◌>>=◌, is_skipped, field, demanded, expected, optional, fault_at}
use Rattle.mpw_elements.specs.Derivation.{Behind, IsField, IsOptional, records_then, Begins}
use Rattle.mpw_elements.proofs.Fields.{field_ok, field_skip}

-- ---- steps of reading

-- the value of a step that did not fail
pub bind_ok : {A B : Type 0} (r : Result A ReadFault) (f : A → Result B ReadFault) (y : B)
    → (r >>= f) ≡ Ok y → (x : A) × (r ≡ Ok x) × (f x ≡ Ok y)
bind_ok (Ok x) f y e = (x, refl, e)
bind_ok (Err d) f y e = absurd cc

abbrev pub done : {A : Type 0} → A → Result A ReadFault
done x = Ok x

pub ok_is : {A : Type 0} (x y : A) → done x ≡ done y → x ≡ y
ok_is x y e = cc

-- a test that did not fail
pub guard_ok : {A : Type 0} (b : Bool) (d : ReadFault) (x y : A) → cond b (done x) (Err d) ≡ Ok y
    → (b ≡ true) × (x ≡ y)
guard_ok true d x y e = (refl, cc)
guard_ok false d x y e = absurd cc

pub chosen : {A : Type 0} (b : Bool) (x y z : A) → cond b x y ≡ z → ((b ≡ true) × (x ≡ z))
    ⊎ ((b ≡ false) × (y ≡ z))
chosen true x y z e = inl (refl, e)
chosen false x y z e = inr (refl, e)

pub equals : (a b : ℕ) → a ≡ b → eqb a b ≡ true
equals a b e = elim (eqb_tells a b) [ inl p ↦ p.0 | inr p ↦ absurd (p.1 e) ]

-- ---- records one after the other

pub records_both : (xs ys : List RawRecord) (rest : List RecordOutcome)
    → records_then (xs ++ ys) rest ≡ records_then xs (records_then ys rest)
records_both [] ys rest = refl
records_both (x ∷ xs) ys rest =
    ap (λ (os : List RecordOutcome). Ok x ∷ os) (records_both xs ys rest)

pub regroup3 : (a b c : List RawRecord) (rest : List RecordOutcome)
    → records_then (a ++ b ++ c) rest ≡ records_then a (records_then b (records_then c rest))
regroup3 a b c rest = simp records_both

pub regroup4 : (a b c d : List RawRecord) (rest : List RecordOutcome)
    → records_then (a ++ b ++ c ++ d) rest ≡ records_then a
    (records_then b (records_then c (records_then d rest)))
regroup4 a b c d rest = simp records_both

pub parts_both : (all mid rest : List RecordOutcome) (xs ys : List RawRecord)
    → all ≡ records_then xs mid → mid ≡ records_then ys rest → all ≡ records_then (xs ++ ys) rest
parts_both all mid rest xs ys p q = p ∙ ap (records_then xs) q ∙ sym (records_both xs ys rest)

-- ---- one record

pub field_sound : (start : ℕ) (all : List RecordOutcome) (x : RawRecord × List RecordOutcome)
    → field start all ≡ Ok x → Begins all x.1 (λ rs. IsField x.0.kind rs x.0)
unfolding field
field_sound start [] x e = absurd cc
field_sound start (Err f ∷ all) x e = absurd cc
field_sound start (Ok r ∷ all) x e =
    elim (chosen (is_skipped r.kind) (field start all) (Ok (r, all)) (Ok x) e) [
      | inl p ↦ let h = field_sound start all x p.1 in
          record {
            records = r ∷ h.records;
            parts = ap (λ (os : List RecordOutcome). Ok r ∷ os)
                h.parts;
            told = Behind.over p.0 h.told;
          }
      | inr p ↦ subst (λ (y : RawRecord × List RecordOutcome).
          Begins (Ok r ∷ all) y.1 (λ rs. IsField y.0.kind rs y.0)) (ok_is (r, all) x p.1)
          (record { records = r ∷ []; parts = refl; told = Behind.here refl })
    ]

pub field_complete : {kind : ℕ} {rs : List RawRecord} {r : RawRecord} → IsField kind rs r
    → (start : ℕ) (rest : List RecordOutcome) → is_skipped kind ≡ false
    → field start (records_then rs rest) ≡ Ok (r, rest)
field_complete {kind = kind} {r = r} (Behind.here e) start rest h =
    field_ok start (Ok r ∷ rest) rest r refl (ap is_skipped e ∙ h)
field_complete (Behind.over {s = s} {r = r} {rs = rs} p d) start rest h =
    field_skip start (Ok s ∷ records_then rs rest) (records_then rs rest) s refl p
    ∙ field_complete d start rest h

pub demanded_sound : (kind : ℕ) (r x : RawRecord) → demanded kind r ≡ Ok x
    → (r.kind ≡ kind) × (r ≡ x)
unfolding demanded
demanded_sound kind r x e =
    let g = guard_ok (eqb r.kind kind) (fault_at Unexpected r) r x e in
    (eqb-true _ _ g.0, g.1)

pub demanded_complete : (kind : ℕ) (r : RawRecord) → r.kind ≡ kind → demanded kind r ≡ Ok r
unfolding demanded
demanded_complete kind r e = rw (equals r.kind kind e) refl

-- a record that was read ahead, and has the type that is demanded
pub ahead_sound : (start kind : ℕ) (all : List RecordOutcome)
    (next : RawRecord × List RecordOutcome) (r : RawRecord) → field start all ≡ Ok next
    → demanded kind next.0 ≡ Ok r → Begins all next.1 (λ rs. IsField kind rs r)
ahead_sound start kind all next r e d =
    let h = field_sound start all next e in
    let g = demanded_sound kind next.0 r d in
    record {
      records = h.records;
      parts = h.parts;
      told = subst (λ (y : RawRecord). IsField kind h.records y) g.1
          (subst (λ (k : ℕ). IsField k h.records next.0) g.0 h.told);
    }

pub expected_sound : (start kind : ℕ) (all : List RecordOutcome)
    (x : RawRecord × List RecordOutcome) → expected start kind all ≡ Ok x
    → Begins all x.1 (λ rs. IsField kind rs x.0)
unfolding expected
expected_sound start kind all x e =
    let n = bind_ok (field start all) (λ next. demanded kind next.0 >>= λ r. Ok (r, next.1)) x e in
    let d = bind_ok (demanded kind n.0.0) (λ r. Ok (r, n.0.1)) x n.2 in
    subst (λ (y : RawRecord × List RecordOutcome). Begins all y.1 (λ rs. IsField kind rs y.0))
    (ok_is (d.0, n.0.1) x d.2) (ahead_sound start kind all n.0 d.0 n.1 d.1)

pub kind_of : {passed : ℕ → Bool} {kind : ℕ} {rs : List RawRecord} {r : RawRecord}
    → Behind passed kind rs r → r.kind ≡ kind
kind_of (Behind.here e) = e
kind_of (Behind.over p d) = kind_of d

pub expected_complete : {kind : ℕ} {rs : List RawRecord} {r : RawRecord} → IsField kind rs r
    → (start : ℕ) (rest : List RecordOutcome) → is_skipped kind ≡ false
    → expected start kind (records_then rs rest) ≡ Ok (r, rest)
unfolding expected
expected_complete {kind = kind} {r = r} d start rest h =
    rw (field_complete d start rest h, demanded_complete kind r (kind_of d)) refl

-- ---- a record that was read ahead

-- some records with a property, and the record read ahead after them
pub record BeginsAhead (start : ℕ) (all : List RecordOutcome)
    (next : RawRecord × List RecordOutcome) (Told : List RawRecord → Type 0) : Type 0 where
  pub rest : List RecordOutcome
  pub begins : Begins all rest Told
  pub ahead : field start rest ≡ Ok next

pub optional_sound : {V : Type 0} (start kind : ℕ) (value : RawRecord → Result V ReadFault)
    (default : V) (all : List RecordOutcome) (next : RawRecord × List RecordOutcome)
    → field start all ≡ Ok next
    → (x : (V × RawRecord) × List RecordOutcome) → optional start kind value default next.0 next.1
    ≡ Ok x → BeginsAhead start all (x.0.1, x.1) (λ rs. IsOptional kind value default rs x.0.0)
unfolding optional
optional_sound {V = V} start kind value default all next read x e =
    elim (chosen (eqb next.0.kind kind) _ _ (Ok x) e) [
      | inl p ↦
          let v = bind_ok (value next.0) _ x p.1 in
          let n = bind_ok (field start next.1) _ x v.2 in
          let h = field_sound start all next read in
          subst (λ (y : (V × RawRecord) × List RecordOutcome). BeginsAhead start all (y.0.1, y.1)
          (λ rs. IsOptional kind value default rs y.0.0)) (ok_is ((v.0, n.0.0), n.0.1) x n.2)
          (record {
            rest = next.1;
            begins = record {
              records = h.records;
              parts = h.parts;
              told = IsOptional.present
                  (subst (λ (k : ℕ). IsField k h.records next.0) (eqb-true _ _ p.0) h.told) v.1;
            };
            ahead = n.1;
          })
      | inr p ↦
          subst (λ (y : (V × RawRecord) × List RecordOutcome). BeginsAhead start all (y.0.1, y.1)
          (λ rs. IsOptional kind value default rs y.0.0))
          (ok_is ((default, next.0), next.1) x p.1) (record {
            rest = all;
            begins = record { records = []; parts = refl; told = IsOptional.absent };
            ahead = read;
          })
    ]

abbrev pub is_among : List ℕ → ℕ → Bool
is_among [] kind = false
is_among (k ∷ kinds) kind = eqb kind k || is_among kinds kind

-- the next record has one of these types
pub record Ahead (start : ℕ) (all : List RecordOutcome) (next : RawRecord × List RecordOutcome)
    (kinds : List ℕ) : Type 0 where
  pub reads : field start all ≡ Ok next
  pub among : is_among kinds next.0.kind ≡ true

pub field_ahead : {kind : ℕ} {rs : List RawRecord} {r : RawRecord} → IsField kind rs r
    → (start : ℕ) (rest : List RecordOutcome) → is_skipped kind ≡ false
    → Ahead start (records_then rs rest) (r, rest) (kind ∷ [])
field_ahead {kind = kind} {r = r} d start rest h =
    record {
      reads = field_complete d start rest h;
      among = rw (equals r.kind kind (kind_of d)) refl;
    }

pub not_among : (kinds : List ℕ) (k kind : ℕ) → is_among kinds k ≡ true
    → is_among kinds kind ≡ false → eqb k kind ≡ false
not_among kinds k kind is without =
    elim (eqb_tells k kind) [
      | inl p ↦ absurd (let q = sym is ∙ ap (is_among kinds) p.1
          ∙ without in cc)
      | inr p ↦ p.0
    ]

or_more : (a b : Bool) → b ≡ true → (a || b) ≡ true
or_more true b e = refl
or_more false b e = e

-- the record ahead of an optional one, and the result of reading from there
pub record OptionalAhead {V : Type 0} (start kind : ℕ) (value : RawRecord → Result V ReadFault)
    (default v : V) (all : List RecordOutcome) (next : RawRecord × List RecordOutcome)
    (kinds : List ℕ) : Type 0 where
  pub before : RawRecord × List RecordOutcome
  pub ahead : Ahead start all before kinds
  pub reads : optional start kind value default before.0 before.1 ≡ Ok ((v, next.0), next.1)

pub optional_complete : {V : Type 0} {kind : ℕ} {value : RawRecord → Result V ReadFault}
    {default v : V} {rs : List RawRecord} → IsOptional kind value default rs v
    → (start : ℕ) (rest : List RecordOutcome) (next : RawRecord × List RecordOutcome)
    (kinds : List ℕ) → is_skipped kind ≡ false → is_among kinds kind ≡ false
    → Ahead start rest next kinds
    → OptionalAhead start kind value default v (records_then rs rest) next (kind ∷ kinds)
unfolding optional
optional_complete {kind = kind} {value = value} {default = default} IsOptional.absent start rest
    next kinds skip without a = record {
      before = next;
      ahead = record {
        reads = a.reads;
        among = or_more (eqb next.0.kind kind)
            (is_among kinds next.0.kind) a.among;
      };
      reads = rw (not_among kinds next.0.kind kind a.among without) refl;
    }
optional_complete {kind = kind} {value = value} {default = default}
    (IsOptional.present {rs = rs} {r = r} {v = v} d e) start rest next kinds skip without a =
    record {
      before = (r, rest);
      ahead = record {
        reads = field_complete d start rest skip;
        among = rw (equals r.kind kind (kind_of d)) refl;
      };
      reads = rw (equals r.kind kind (kind_of d), e, a.reads) refl;
    }
