-- A sign and a magnitude compared with a signed number.
use Rattle.std.proofs.Common.{◌≡◌, ℕ, zero, suc, ◌*◌, ◌<◌, Bool, true, false, ℤ, pos, negsuc, neg_ℤ, ◌*ℤ◌, refl, sym, ap, ◌⊎◌, inl, inr, ◌∙◌, arith}
use mathlib.Core.Bool.{beq}
use lib.Signed.{lt_z}
use Rattle.std.specs.Prelude.{unsigned_abs, None}
use Rattle.std.proofs.lemmas.Nat.{mul-le}
use Rattle.std.specs.Ordering.{int_eq}
use Rattle.std.proofs.lemmas.Int.{unsigned_abs-mul}
use Rattle.std.proofs.lemmas.Bool.{le-ltb}
use Rattle.std.proofs.lemmas.Bool.Decides.{Decides-int_eq}
use Rattle.mpw_real8.specs.Real.{signed, nanometres}

when_false : (b : Bool) → (b ≡ true → ⊥) → false ≡ b
when_false true h = absurd (h refl)
when_false false h = refl

when_true : (x y : ℤ) → x ≡ y → true ≡ int_eq x y
when_true x y e = sym ((Decides-int_eq x y).1 e)

differ : (m x : ℕ) → 0 < x → neg_ℤ (pos x) ≡ pos m → ⊥
differ m zero h e = omega arith
differ m (suc x) h e = cc

product_pos : (k c : ℕ) → 0 < c → 0 < suc k * c
product_pos k c h = let p = mul-le 1 c (suc k) c (omega arith) (omega arith) in omega (arith, p)

-- of equal magnitudes, those with the same sign are equal
pub same_size : (s : Bool) (m : ℕ) (n : ℤ) (c : ℕ) → 0 < c → (n ≡ pos 0 → ⊥)
    → m ≡ unsigned_abs n * c → beq s (lt_z n (pos 0)) ≡ int_eq (signed s m) (n *ℤ pos c)
same_size s m (pos zero) c h other e = absurd (other refl)
same_size false m (pos (suc k)) c h other e =
    rw (le-ltb (suc k) 0 (omega arith)) (when_true (pos m) (pos (suc k * c)) (ap pos e))
same_size true m (pos (suc k)) c h other e =
    rw (le-ltb (suc k) 0 (omega arith)) (when_false (int_eq (neg_ℤ (pos m)) (pos (suc k * c))) (λ t.
    differ (suc k * c) m (let p = product_pos k c h in omega (arith, p, e))
    ((Decides-int_eq (neg_ℤ (pos m)) (pos (suc k * c))).0 t)))
same_size true m (negsuc k) c h other e =
    when_true (neg_ℤ (pos m)) (neg_ℤ (pos (suc k * c))) (ap (λ x. neg_ℤ (pos x)) e)
same_size false m (negsuc k) c h other e =
    when_false (int_eq (pos m) (neg_ℤ (pos (suc k * c)))) (λ t.
    differ m (suc k * c) (product_pos k c h)
    (sym ((Decides-int_eq (pos m) (neg_ℤ (pos (suc k * c)))).0 t)))

-- a negative number is no number of nanometres
pub none_below : (m : ℕ) → 0 < m → None ≡ nanometres (neg_ℤ (pos m))
none_below zero h = absurd (omega arith)
none_below (suc m) h = refl

-- what is not negative
pub not_below : (s : Bool) (m : ℕ) → (s ≡ false) ⊎ (m ≡ 0) → signed s m ≡ pos m
not_below false m h = refl
not_below true m (inl h) = absurd cc
not_below true m (inr h) = rw h refl
