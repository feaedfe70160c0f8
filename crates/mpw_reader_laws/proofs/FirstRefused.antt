-- A text with a first fault is refused there.
use Rattle.std.proofs.Common.{◌≡◌, ℕ, List, [], ◌∷◌, ◌++◌, Result, Ok, Err, refl, sym, ap, subst, ◌∙◌, append_assoc}
use Rattle.std.specs.Prelude.{IsErrAnd}
use Rattle.mpw_structures.specs.declared.structures.Structure.{Structure}
use Rattle.mpw_records.specs.declared.fault.ReadFault.{ReadFault}
use Rattle.mpw_records.specs.Records.{RawRecord, RecordOutcome}
use Rattle.mpw_elements.specs.Derivation.{records_then}
use Rattle.mpw_library.specs.Grammar.{library_of}
use Rattle.mpw_library.specs.Derivation.{DerivesLibrary}
use Rattle.mpw_library.specs.Fronts.{IsFront}
use Rattle.mpw_library.proofs.DerivedLibrary.{libraries_are_derived}
use Rattle.mpw_reader_laws.specs.FirstFault.{IsFaultThere, EndsThere, IsFirstFault, FirstFaultIsRefused}
use Rattle.mpw_reader_laws.proofs.Changed.{all_ok}
use Rattle.mpw_reader_laws.proofs.Offsets.{fault_offset}
use Rattle.mpw_reader_laws.proofs.FirstFault.{first_fault_is_told}

-- ---- a text with a first fault is refused there

not_whole : (xs ys : List RawRecord) (g : ReadFault) (os : List RecordOutcome)
    → records_then xs [] ≡ records_then ys (Err g ∷ os) → ⊥
not_whole [] [] g os e = cc
not_whole [] (y ∷ ys) g os e = cc
not_whole (x ∷ xs) [] g os e = cc
not_whole (x ∷ xs) (y ∷ ys) g os e =
    let others : records_then xs [] ≡ records_then ys (Err g ∷ os) = cc in
    not_whole xs ys g os others

-- the first records of some
pub record Begins (xs ys : List RawRecord) (r : RawRecord) : Type 0 where
  pub more : List RawRecord
  pub is : xs ≡ ys ++ r ∷ more

cons_begins : (x y : RawRecord) (xs ys : List RawRecord) (r : RawRecord) → x ≡ y → Begins xs ys r
    → Begins (x ∷ xs) (y ∷ ys) r
cons_begins x y xs ys r e b = record {
  more = b.more;
  is = ap (λ (z : RawRecord). z ∷ xs) e ∙ ap (λ (l : List RawRecord). y ∷ l) b.is;
}

pub among : (xs ys : List RawRecord) (r : RawRecord) (os : List RecordOutcome)
    → records_then xs [] ≡ records_then ys (Ok r ∷ os) → Begins xs ys r
among [] [] r os e = absurd cc
among [] (y ∷ ys) r os e = absurd cc
among (x ∷ xs) [] r os e =
    let first : x ≡ r = cc in
    record { more = xs; is = ap (λ (z : RawRecord). z ∷ xs) first }
among (x ∷ xs) (y ∷ ys) r os e =
    let first : x ≡ y = cc in
    let others : records_then xs [] ≡ records_then ys (Ok r ∷ os) = cc in
    cons_begins x y xs ys r first (among xs ys r os others)

-- how two ways to split a list differ
pub data Compared (xs ys : List RawRecord) (o u : RecordOutcome) : Type 0 where
  same : xs ≡ ys → o ≡ u → Compared xs ys o u
  shorter : (r : RawRecord) → o ≡ Ok r → Begins ys xs r → Compared xs ys o u
  longer : (r : RawRecord) → u ≡ Ok r → Begins xs ys r → Compared xs ys o u

pub compared : (xs ys : List RawRecord) (o u : RecordOutcome) (os us : List RecordOutcome)
    → records_then xs (o ∷ os) ≡ records_then ys (u ∷ us) → Compared xs ys o u
compared [] [] o u os us e = let first : o ≡ u = cc in Compared.same refl first
compared [] (y ∷ ys) o u os us e =
    let first : o ≡ Ok y = cc in
    Compared.shorter y first (record { more = ys; is = refl })
compared (x ∷ xs) [] o u os us e =
    let first : u ≡ Ok x = cc in
    Compared.longer x first (record { more = xs; is = refl })
compared (x ∷ xs) (y ∷ ys) o u os us e =
    let first : x ≡ y = cc in
    let others : records_then xs (o ∷ os) ≡ records_then ys (u ∷ us) = cc in
    go first (compared xs ys o u os us others)
  where
    go : x ≡ y → Compared xs ys o u → Compared (x ∷ xs) (y ∷ ys) o u
    go f (Compared.same e s) =
        Compared.same
        (ap (λ (z : RawRecord). z ∷ xs) f ∙ ap (λ (l : List RawRecord). y ∷ l) e) s
    go f (Compared.shorter r s b) = Compared.shorter r s (cons_begins y x ys xs r (sym f) b)
    go f (Compared.longer r s b) = Compared.longer r s (cons_begins x y xs ys r f b)

-- records with which no library begins are no front
no_front : (xs ys : List RawRecord) (o : RecordOutcome) (r : RawRecord) → o ≡ Ok r
    → EndsThere xs o → Begins ys xs r → IsFront ys → ⊥
no_front xs ys o r is ends b f =
    let ends_at = subst (EndsThere xs) is ends in
    ends_at (b.more ++ f.behind) f.structures
    (subst (λ (l : List RawRecord). DerivesLibrary l f.structures)
    (ap (λ (l : List RawRecord). l ++ f.behind) b.is
    ∙ append_assoc xs (r ∷ b.more) f.behind) f.derived)

same_place : (o : RecordOutcome) (f g : ReadFault) → IsFaultThere o f → IsFaultThere o g
    → f.offset ≡ g.offset
same_place (Err h) f g a b = ap (λ (x : ReadFault). x.offset) (sym a ∙ b)
same_place (Ok r) f g a b = fault_offset r f a ∙ sym (fault_offset r g b)

pub one_first_fault : (text : List ℕ) (f g : ReadFault) → IsFirstFault text f
    → IsFirstFault text g → f.offset ≡ g.offset
one_first_fault text f g h k =
    go (compared h.before k.before h.there k.there h.rest k.rest (sym h.parts ∙ k.parts))
  where
    go : Compared h.before k.before h.there k.there → f.offset ≡ g.offset
    go (Compared.same e s) =
        same_place h.there f g h.is (subst (λ (o : RecordOutcome). IsFaultThere o g) (sym s) k.is)
    go (Compared.shorter r s b) =
        absurd (no_front h.before k.before h.there r s h.ends b k.goes_on)
    go (Compared.longer r s b) =
        absurd (no_front k.before h.before k.there r s k.ends b h.goes_on)

pub first_fault_is_refused : FirstFaultIsRefused
first_fault_is_refused text fault few h = go (library_of text) refl
  where
    good : (o : RecordOutcome) → h.there ≡ o → EndsThere h.before o → (records : List RawRecord)
        → (ss : List Structure) → DerivesLibrary records ss
        → records_then records [] ≡ records_then h.before (o ∷ h.rest) → ⊥
    good (Err g) is ends records ss d e = not_whole records h.before g h.rest e
    good (Ok r) is ends records ss d e =
        let b = among records h.before r h.rest e in
        ends b.more ss (subst (λ (l : List RawRecord). DerivesLibrary l ss) b.is d)

    go : (told : Result (List Structure) ReadFault) → library_of text ≡ told
        → IsErrAnd told (λ t. t.offset ≡ fault.offset)
    go (Ok ss) e =
        let t = (libraries_are_derived text ss).0 e in
        absurd
        (good h.there refl h.ends t.records ss t.derived
        (sym (all_ok t.records) ∙ sym t.whole ∙ h.parts))
    go (Err f) e = one_first_fault text f fault (first_fault_is_told text f few e) h
