-- An element is read exactly if the records derive it.
use Rattle.std.proofs.Common.{◌≡◌, ℕ, Bool, true, false, eqb, ◌||◌, ◌&&◌, not, List, [], ◌∷◌, Option, Some, None, Ok, Err, refl, ap, subst, ◌∙◌, inl, inr}
use Rattle.std.proofs.lemmas.Bool.{eqb-true}
use Rattle.mpw_structures.specs.declared.element.Element.{Element}
use Rattle.mpw_structures.specs.declared.element.Element.TheVariants as elements
use Rattle.mpw_records.specs.declared.kind.TheConstants.{ENDLIB, BOUNDARY, PATH, SREF, AREF, TEXT, DATATYPE, ENDEL, NODE, BOX, BOXTYPE}
use Rattle.mpw_records.specs.Records.{RawRecord, RecordOutcome}
use Rattle.std.specs.Prelude.{◌⊎◌}
use Rattle.mpw_elements.specs.Reading.{Reading, ◌>>=◌}
use Rattle.mpw_elements.specs.Grammar.{boundary, path, single, array, ignored, element}
use Rattle.mpw_elements.specs.Derivation.{Behind, is_inner, DerivesBoundary, DerivesPath, DerivesSingle, DerivesArray, DerivesElement, records_then, Begins, ElementsAreDerived}
use Rattle.mpw_elements.proofs.DerivedFields.{bind_ok, done, ok_is, chosen}
use Rattle.mpw_elements.proofs.DerivedShapes.{boundary_sound, boundary_complete, path_sound, path_complete}
use Rattle.mpw_elements.proofs.DerivedReferences.{single_sound, single_complete, array_sound, array_complete}

-- ---- texts and nodes

inner_is : (a b : Bool) → (not a && not b) ≡ true → (a ≡ false) × (b ≡ false)
inner_is true b e = absurd cc
inner_is false true e = absurd cc
inner_is false false e = (refl, refl)

is_inner_of : (a b : Bool) → a ≡ false → b ≡ false → (not a && not b) ≡ true
is_inner_of a b p q = rw (p, q) refl

record EndsAt (rs : List RawRecord) : Type 0 where
  last : RawRecord
  derived : Behind is_inner ENDEL rs last

ignored_sound : (start : ℕ) (all : List RecordOutcome) (x : Unit {0} × List RecordOutcome)
    → ignored start all ≡ Ok x → Begins all x.1 EndsAt
unfolding ignored
ignored_sound start [] x e = absurd cc
ignored_sound start (Err f ∷ all) x e = absurd cc
ignored_sound start (Ok r ∷ all) x e =
    elim (chosen (eqb r.kind ENDEL) _ _ (Ok x) e) [
      | inl p ↦ subst (λ (y : Unit {0} × List RecordOutcome). Begins (Ok r ∷ all) y.1 EndsAt)
          (ok_is (tt, all) x p.1) (record {
            records = r ∷ [];
            parts = refl;
            told = record { last = r; derived = Behind.here (eqb-true _ _ p.0) };
          })
      | inr p ↦ elim (chosen (eqb r.kind ENDLIB) _ _ (Ok x) p.1) [
        | inl q ↦ absurd (let h = q.1 in cc)
        | inr q ↦
            let h = ignored_sound start all x q.1 in
            record {
              records = r ∷ h.records;
              parts = ap (λ (os : List RecordOutcome). Ok r ∷ os)
                  h.parts;
              told = record {
                last = h.told.last;
                derived = Behind.over (is_inner_of (eqb r.kind ENDEL) (eqb r.kind ENDLIB) p.0 q.0)
                    h.told.derived;
              };
            }
      ]
    ]

ignored_complete : {rs : List RawRecord} {last : RawRecord} → Behind is_inner ENDEL rs last
    → (start : ℕ) (rest : List RecordOutcome) → ignored start (records_then rs rest) ≡ Ok (tt, rest)
unfolding ignored
ignored_complete {last = last} (Behind.here e) start rest = rw e refl
ignored_complete (Behind.over {s = s} p d) start rest =
    let h = inner_is (eqb s.kind ENDEL) (eqb s.kind ENDLIB) p in
    rw (h.0, h.1) (ignored_complete d start rest)

-- ---- all of them

-- an element that is read after its first record is derived with it, if what is read is derived
first_of : {A : Type 0} (unit : ℕ) (first : RawRecord) (all : List RecordOutcome)
    (read : Reading A) (make : A → Option Element) (D : List RawRecord → A → Type 0)
    (x : Option Element × List RecordOutcome)
    → ((a : A × List RecordOutcome) → read ≡ Ok a → Begins all a.1 (λ rs. D rs a.0))
    → ((rs : List RawRecord) (a : A) → D rs a → DerivesElement unit (first ∷ rs) (make a))
    → (read >>= λ a. done (make a.0, a.1)) ≡ Ok x
    → Begins all x.1 (λ rs. DerivesElement unit (first ∷ rs) x.0)
first_of unit first all read make D x sound derives e =
    let a = bind_ok read (λ a. Ok (make a.0, a.1)) x e in
    let h = sound a.0 a.1 in
    subst (λ (y : Option Element × List RecordOutcome).
    Begins all y.1 (λ rs. DerivesElement unit (first ∷ rs) y.0))
    (ok_is (make a.0.0, a.0.1) x a.2) (record {
      records = h.records;
      parts = h.parts;
      told = derives h.records a.0.0 h.told;
    })

either : (a b : Bool) → (a || b) ≡ true → (a ≡ true) ⊎ (b ≡ true)
either true b e = inl refl
either false b e = inr e

text_first : (unit : ℕ) (first : RawRecord) (all : List RecordOutcome)
    (x : Option Element × List RecordOutcome) → (eqb first.kind TEXT || eqb first.kind NODE) ≡ true
    → (ignored first.offset all >>= λ i. done (None, i.1)) ≡ Ok x
    → Begins all x.1 (λ rs. DerivesElement unit (first ∷ rs) x.0)
text_first unit first all x is e =
    let a = bind_ok (ignored first.offset all) (λ i. Ok (None, i.1)) x e in
    let h = ignored_sound first.offset all a.0 a.1 in
    subst (λ (y : Option Element × List RecordOutcome).
    Begins all y.1 (λ rs. DerivesElement unit (first ∷ rs) y.0)) (ok_is (None, a.0.1) x a.2) (
    elim (either (eqb first.kind TEXT) (eqb first.kind NODE) is) [
      | inl p ↦ record {
        records = h.records;
        parts = h.parts;
        told = DerivesElement.text
            (eqb-true _ _ p) h.told.derived;
      }
      | inr p ↦ record {
        records = h.records;
        parts = h.parts;
        told = DerivesElement.node
            (eqb-true _ _ p) h.told.derived;
      }
    ])

pub element_sound : (unit : ℕ) (first : RawRecord) (all : List RecordOutcome)
    (x : Option Element × List RecordOutcome) → element unit first all ≡ Ok x
    → Begins all x.1 (λ rs. DerivesElement unit (first ∷ rs) x.0)
unfolding element
element_sound unit first all x e =
    elim (chosen (eqb first.kind BOUNDARY) _ _ (Ok x) e) [
      | inl p ↦ first_of unit first all (boundary first.offset unit DATATYPE all)
          (λ b. Some (elements.Boundary b)) (DerivesBoundary unit DATATYPE) x
          (boundary_sound first.offset unit DATATYPE all)
          (λ rs b d. DerivesElement.boundary (eqb-true _ _ p.0) d) p.1
      | inr p ↦ elim (chosen (eqb first.kind BOX) _ _ (Ok x) p.1) [
        | inl q ↦ first_of unit first all (boundary first.offset unit BOXTYPE all)
            (λ b. Some (elements.Boundary b)) (DerivesBoundary unit BOXTYPE) x
            (boundary_sound first.offset unit BOXTYPE all)
            (λ rs b d. DerivesElement.box (eqb-true _ _ q.0) d) q.1
        | inr q ↦ elim (chosen (eqb first.kind PATH) _ _ (Ok x) q.1) [
          | inl r ↦ first_of unit first all (path first.offset unit all)
              (λ p. Some (elements.Path p)) (DerivesPath unit) x
              (path_sound first.offset unit all)
              (λ rs p d. DerivesElement.path (eqb-true _ _ r.0) d) r.1
          | inr r ↦ elim (chosen (eqb first.kind SREF) _ _ (Ok x) r.1) [
            | inl s ↦ first_of unit first all (single first.offset unit all)
                (λ r. Some (elements.Reference r)) (DerivesSingle unit) x
                (single_sound first.offset unit all)
                (λ rs r d. DerivesElement.single (eqb-true _ _ s.0) d) s.1
            | inr s ↦ elim (chosen (eqb first.kind AREF) _ _ (Ok x) s.1) [
              | inl t ↦ first_of unit first all (array first.offset unit all)
                  (λ r. Some (elements.Reference r)) (DerivesArray unit) x
                  (array_sound first.offset unit all)
                  (λ rs r d. DerivesElement.array (eqb-true _ _ t.0) d) t.1
              | inr t ↦ elim (chosen (eqb first.kind TEXT || eqb first.kind NODE) _ _ (Ok x) t.1) [
                | inl u ↦ text_first unit first all x u.0 u.1
                | inr u ↦ absurd (let h = u.1 in cc)
              ]
            ]
          ]
        ]
      ]
    ]

pub element_complete : {unit : ℕ} {first : RawRecord} {rs : List RawRecord} {found : Option Element}
    → DerivesElement unit (first ∷ rs) found → (rest : List RecordOutcome)
    → element unit first (records_then rs rest) ≡ Ok (found, rest)
unfolding element
element_complete (DerivesElement.boundary {first = first} e d) rest =
    rw (e, boundary_complete d first.offset rest refl) refl
element_complete (DerivesElement.box {first = first} e d) rest =
    rw (e, boundary_complete d first.offset rest refl) refl
element_complete (DerivesElement.path {first = first} e d) rest =
    rw (e, path_complete d first.offset rest) refl
element_complete (DerivesElement.single {first = first} e d) rest =
    rw (e, single_complete d first.offset rest) refl
element_complete (DerivesElement.array {first = first} e d) rest =
    rw (e, array_complete d first.offset rest) refl
element_complete (DerivesElement.text {first = first} e d) rest =
    rw (e, ignored_complete d first.offset rest) refl
element_complete (DerivesElement.node {first = first} e d) rest =
    rw (e, ignored_complete d first.offset rest) refl

pub elements_are_derived : ElementsAreDerived
elements_are_derived unit first all rest found = (
  λ e. element_sound unit first all (found, rest) e,
  λ h. ap (element unit first) h.parts
      ∙ element_complete h.told rest,
)
