-- A record without a fault has at least the size that its type requires.
use Rattle.std.proofs.Common.{◌≡◌, ℕ, ◌%◌, ◌≤◌, Bool, true, false, cond, not, ◌&&◌, eqb, leb, Option, None, refl, ◌⊎◌, inl, inr, arith}
use Rattle.std.proofs.lemmas.Bool.{eqb-true}
use Rattle.std.proofs.lemmas.Bool.Decides.{leb_tells, eqb_tells}
use Rattle.mpw_records.specs.declared.fault.Code.{Code}
use Rattle.mpw_records.specs.declared.kind.TheConstants.{UNITS, STRNAME, SNAME, LAYER, DATATYPE, PATHTYPE, BOXTYPE, WIDTH, BGNEXTN, ENDEXTN, XY, COLROW, STRANS, MAG, ANGLE}
use Rattle.mpw_records.specs.Format.{form_fault, data_fault, least_size}

either : (b : Bool) (x y : Option Code) (m n len : ℕ) → (x ≡ None → m ≤ len) → (y ≡ None → n ≤ len)
    → cond b x y ≡ None → cond b m n ≤ len
either true x y m n len p q e = p e
either false x y m n len p q e = q e

told_size : (a b : Bool) → form_fault a b ≡ None → b ≡ true
told_size false b e = absurd cc
told_size true false e = absurd cc
told_size true true e = refl

exact : (len n : ℕ) (a : Bool) → form_fault a (eqb len n) ≡ None → n ≤ len
exact len n a e = let h = eqb-true len n (told_size a (eqb len n) e) in omega (arith, h)

at_least : (len n : ℕ) (a : Bool) → form_fault a (leb n len) ≡ None → n ≤ len
at_least len n a e = elim (leb_tells n len)
    [ inl p ↦ p.1 | inr p ↦ absurd (let h = told_size a (leb n len) e in cc) ]

eights : (len : ℕ) (a : Bool) → form_fault a (not (eqb len 0) && eqb (len % 8) 0) ≡ None → 8 ≤ len
eights len a e = go (eqb len 0) (eqb (len % 8) 0) (eqb_tells len 0) (eqb_tells (len % 8) 0)
    (told_size a (not (eqb len 0) && eqb (len % 8) 0) e)
  where
    go : (b d : Bool) → ((b ≡ true) × (len ≡ 0)) ⊎ ((b ≡ false) × (len ≡ 0 → ⊥))
        → ((d ≡ true) × (len % 8 ≡ 0)) ⊎ ((d ≡ false) × (len % 8 ≡ 0 → ⊥)) → (not b && d) ≡ true
        → 8 ≤ len
    go true d p q h = absurd cc
    go false false p q h = absurd cc
    go false true (inl p) q h = absurd (let r = p.0 in cc)
    go false true (inr p) (inl q) h = omega (arith, p.1, q.1)
    go false true (inr p) (inr q) h = absurd (let r = q.0 in cc)

pub least_from_none : (kind data_type len : ℕ) → data_fault kind data_type len ≡ None
    → least_size kind ≤ len
unfolding data_fault least_size
least_from_none kind data_type len =
    either (eqb kind UNITS) _ _ 16 _ len (exact len 16 (eqb data_type 5)) (
    either (eqb kind STRNAME) _ _ 2 _ len (at_least len 2 (eqb data_type 6)) (
    either (eqb kind LAYER) _ _ 2 _ len (exact len 2 (eqb data_type 2)) (
    either (eqb kind DATATYPE) _ _ 2 _ len (exact len 2 (eqb data_type 2)) (
    either (eqb kind WIDTH) _ _ 4 _ len (exact len 4 (eqb data_type 3)) (
    either (eqb kind XY) _ _ 8 _ len (eights len (eqb data_type 3)) (
    either (eqb kind SNAME) _ _ 2 _ len (at_least len 2 (eqb data_type 6)) (
    either (eqb kind COLROW) _ _ 4 _ len (exact len 4 (eqb data_type 2)) (
    either (eqb kind STRANS) _ _ 2 _ len (exact len 2 (eqb data_type 1)) (
    either (eqb kind MAG) _ _ 8 _ len (exact len 8 (eqb data_type 5)) (
    either (eqb kind ANGLE) _ _ 8 _ len (exact len 8 (eqb data_type 5)) (
    either (eqb kind PATHTYPE) _ _ 2 _ len (exact len 2 (eqb data_type 2)) (
    either (eqb kind BOXTYPE) _ _ 2 _ len (exact len 2 (eqb data_type 2)) (
    either (eqb kind BGNEXTN) _ _ 4 _ len (exact len 4 (eqb data_type 3)) (
    either (eqb kind ENDEXTN) _ _ 4 0 len (exact len 4 (eqb data_type 3))
    (λ e. omega arith)))))))))))))))
