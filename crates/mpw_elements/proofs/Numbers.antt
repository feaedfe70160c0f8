-- Bounds of what is read, and names without their NULs.
use Rattle.std.proofs.Common.{◌≡◌, ℕ, ◌+◌, ◌-◌, ◌^◌, ◌<◌, ◌≤◌, Bool, true, false, ◌&&◌, eqb, pos, List, [], ◌∷◌, ◌++◌, length, get_or, take, refl, sym, ap, ◌∙◌, inl, inr, arith, length-append}
use mir.Syntax.{w32}
use Rattle.std.specs.Prelude.{unsigned_abs}
use Rattle.std.specs.Int.{cast_signed}
use Rattle.std.proofs.lemmas.Nat.{mul-le}
use Rattle.std.proofs.lemmas.Int.{ints, unsigned_abs-mul}
use Rattle.std.proofs.lemmas.List.{take_more}
use Rattle.std.proofs.lemmas.Bool.Decides.{eqb_tells, nat_tests}
use Rattle.byteorder.specs.Endian.{big_number}
use Rattle.std.proofs.Common.{leb, Ok, All}
use Rattle.std.specs.Bool.{Decides}
use Rattle.std.specs.List.{list_all}
use Rattle.std.proofs.lemmas.Bool.Decides.{leb_tells, Decides-and, Decides-by_and}
use Rattle.mpw_geom.specs.Name.{IsName, IsVisible}
use Rattle.mpw_records.specs.Records.{RawRecord}
use Rattle.mpw_structures.specs.Coordinates.{scaled}
use Rattle.mpw_elements.specs.Values.{without_nuls, is_visible, is_name, name_of}

pub nul_last : (xs : List ℕ) → without_nuls (xs ++ 0 ∷ []) ≡ without_nuls xs
unfolding without_nuls
nul_last [] = refl
nul_last (x ∷ xs) = rw (nul_last xs) refl

no_nul : (b : ℕ) → (b ≡ 0 → ⊥) → eqb b 0 ≡ false
no_nul b h = elim (eqb_tells b 0) [ inl p ↦ absurd (h p.1) | inr p ↦ p.0 ]

and_false : (a : Bool) → (a && false) ≡ false
and_false true = refl
and_false false = refl

pub byte_last : (xs : List ℕ) (b : ℕ) → (b ≡ 0 → ⊥) → without_nuls (xs ++ b ∷ []) ≡ xs ++ b ∷ []
unfolding without_nuls
byte_last [] b h = rw (no_nul b h) refl
byte_last (x ∷ xs) b h =
    let some : eqb (length (xs ++ b ∷ [])) 0 ≡ false = no_nul (length (xs ++ b ∷ []))
    (λ e. omega (arith, e, length-append xs (b ∷ []))) in
    rw (byte_last xs b h, some, and_false (eqb x 0)) refl

pub none_left : without_nuls [] ≡ []
unfolding without_nuls
none_left = refl

joined : (xs : List ℕ) (e : ℕ) → 0 < e → e ≤ length xs → take e xs ≡ take (e - 1) xs
    ++ get_or xs (e - 1) 0 ∷ []
joined xs e some within =
    let at : (e - 1) + 1 ≡ e = omega arith in
    sym (ap (λ n. take n xs) at) ∙ take_more xs (e - 1) 0 (omega arith)

-- a NUL after the rest is taken off
pub trim_zero : (xs : List ℕ) (e : ℕ) → 0 < e → e ≤ length xs → get_or xs (e - 1) 0 ≡ 0
    → without_nuls (take (e - 1) xs) ≡ without_nuls (take e xs)
trim_zero xs e some within h = sym (ap without_nuls
    (joined xs e some within ∙ ap (λ b. take (e - 1) xs ++ b ∷ []) h) ∙ nul_last (take (e - 1) xs))

-- after another byte nothing is
pub trim_done : (xs : List ℕ) (e : ℕ) → 0 < e → e ≤ length xs → (get_or xs (e - 1) 0 ≡ 0 → ⊥)
    → without_nuls (take e xs) ≡ take e xs
trim_done xs e some within h =
    let j = joined xs e some within in
    ap without_nuls j ∙ byte_last (take (e - 1) xs) (get_or xs (e - 1) 0) h ∙ sym j

-- ---- names

Decides-leb : (a b : ℕ) → Decides (leb a b) (a ≤ b)
Decides-leb a b = elim (leb_tells a b) [
  | inl p ↦ (λ e. p.1, λ h. p.0)
  | inr p
      ↦ (λ e. absurd (let q = sym p.0 ∙ e in cc), λ h. absurd (omega (arith, h, p.1)))
]

visible : (b : ℕ) → Decides (is_visible b) (IsVisible b)
visible b = Decides-and (leb 0x21 b) (leb b 0x7E) (Decides-leb 0x21 b) (Decides-leb b 0x7E)

regroup : (a b c : Bool) (A B C : Type 0) → Decides a A → Decides b B → Decides c C
    → Decides (a && b && c) (A × B × C)
regroup true true c A B C p q r = (λ e. (p.0 refl, q.0 refl, r.0 e), λ h. r.1 h.2)
regroup true false c A B C p q r = (λ e. absurd cc, λ h. absurd (let x = q.1 h.1 in cc))
regroup false b c A B C p q r = (λ e. absurd cc, λ h. absurd (let x = p.1 h.0 in cc))

pub is_name_decides : (bytes : List ℕ) → Decides (is_name bytes) (IsName bytes)
is_name_decides bytes =
    regroup (leb 1 (length bytes)) (leb (length bytes) 255) (list_all is_visible bytes)
    (1 ≤ length bytes) (length bytes ≤ 255) (All IsVisible bytes)
    (Decides-leb 1 (length bytes)) (Decides-leb (length bytes) 255)
    (Decides-by_and is_visible IsVisible (list_all is_visible) visible refl (λ _ _. refl) bytes)

pub named : (r : RawRecord) → IsName (without_nuls r.bytes) → name_of r ≡ Ok (without_nuls r.bytes)
unfolding name_of
named r h = rw ((is_name_decides (without_nuls r.bytes)).1 h) refl
