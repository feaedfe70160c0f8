-- The records of a text end with ENDLIB, or with a fault other than their order.
use Rattle.std.proofs.Common.{◌≡◌, ℕ, zero, suc, ◌+◌, ◌-◌, ◌%◌, ◌<◌, ◌≤◌, Bool, true, false, cond, eqb, ltb, leb, ◌||◌, ◌&&◌, not, List, [], ◌∷◌, length, drop, Option, Some, None, refl, sym, ap, subst, ◌∙◌, arith, length-drop}
use Rattle.std.specs.Prelude.{slice_index}
use Rattle.mpw_records.specs.declared.fault.Code.{Code}
use Rattle.mpw_records.specs.declared.fault.Code.TheVariants.{Short, BadLength, Unexpected}
use Rattle.mpw_records.specs.declared.kind.TheConstants.{UNITS, STRNAME, LAYER, DATATYPE, WIDTH, XY, SNAME, COLROW, STRANS, MAG, ANGLE, PATHTYPE, BOXTYPE, BGNEXTN, ENDEXTN}
use Rattle.mpw_records.specs.Format.{form_fault, data_fault}
use Rattle.mpw_records.specs.Records.{told_length, first_fault, record_of, unless_fault, front, is_last, outcomes}
use Rattle.mpw_records.proofs.Fronts.{fits_of}
use Rattle.mpw_library.proofs.Refusals.{IsEnded}

abbrev IsOther : Option Code → Type 0
IsOther o = o ≡ Some Unexpected → ⊥

none_other : IsOther None
none_other e = cc

other_if : (b : Bool) (o p : Option Code) → IsOther o → IsOther p → IsOther (cond b o p)
other_if true o p h k = h
other_if false o p h k = k

told_other : (a b : Bool) → IsOther (form_fault a b)
told_other false b e = cc
told_other true false e = cc
told_other true true e = cc

short_other : IsOther (Some Short)
short_other e = cc

length_other : IsOther (Some BadLength)
length_other e = cc

data_other : (kind data_type size : ℕ) → IsOther (data_fault kind data_type size)
unfolding data_fault
data_other kind data_type size =
    other_if (eqb kind UNITS) _ _ (told_other (eqb data_type 5) (eqb size 16)) (
    other_if (eqb kind STRNAME) _ _ (told_other (eqb data_type 6) (leb 2 size)) (
    other_if (eqb kind LAYER) _ _ (told_other (eqb data_type 2) (eqb size 2)) (
    other_if (eqb kind DATATYPE) _ _ (told_other (eqb data_type 2) (eqb size 2)) (
    other_if (eqb kind WIDTH) _ _ (told_other (eqb data_type 3) (eqb size 4)) (
    other_if (eqb kind XY) _ _ (told_other (eqb data_type 3) (not (eqb size 0) && eqb (size % 8) 0))
    (
    other_if (eqb kind SNAME) _ _ (told_other (eqb data_type 6) (leb 2 size)) (
    other_if (eqb kind COLROW) _ _ (told_other (eqb data_type 2) (eqb size 4)) (
    other_if (eqb kind STRANS) _ _ (told_other (eqb data_type 1) (eqb size 2)) (
    other_if (eqb kind MAG) _ _ (told_other (eqb data_type 5) (eqb size 8)) (
    other_if (eqb kind ANGLE) _ _ (told_other (eqb data_type 5) (eqb size 8)) (
    other_if (eqb kind PATHTYPE) _ _ (told_other (eqb data_type 2) (eqb size 2)) (
    other_if (eqb kind BOXTYPE) _ _ (told_other (eqb data_type 2) (eqb size 2)) (
    other_if (eqb kind BGNEXTN) _ _ (told_other (eqb data_type 3) (eqb size 4)) (
    other_if (eqb kind ENDEXTN) _ _ (told_other (eqb data_type 3) (eqb size 4)) (
    none_other)))))))))))))))

first_other : (bytes : List ℕ) → IsOther (first_fault bytes)
first_other bytes =
    other_if (ltb (length bytes) 4) _ _ short_other
    (other_if (ltb (told_length bytes) 4 || eqb (told_length bytes % 2) 1) _ _ length_other
    (other_if (ltb (length bytes) (told_length bytes)) _ _ short_other
    (data_other (slice_index bytes 2) (slice_index bytes 3) (told_length bytes - 4))))

-- the records of a text end with ENDLIB, or with a fault other than their order
pub outcomes_ended : (most : ℕ) (text : List ℕ) (offset : ℕ) → offset ≤ length text
    → length text < most + offset → IsEnded (outcomes most text offset)
unfolding outcomes
outcomes_ended zero text offset le lt = absurd (omega (arith, le, lt))
outcomes_ended (suc most) text offset le lt =
    go (first_fault (drop offset text)) refl
    (λ a b. outcomes_ended most text (offset + told_length (drop offset text)) a b)
  where
    next : ℕ
    next = offset + told_length (drop offset text)

    go : (o : Option Code) → first_fault (drop offset text) ≡ o
        → (next ≤ length text → length text < most + next → IsEnded (outcomes most text next))
        → IsEnded
        (unless_fault o (record_of offset (drop offset text))
        ∷ cond (is_last (unless_fault o (record_of offset (drop offset text)))) []
        (outcomes most text next))
    go None is more =
        let f = fits_of (drop offset text) is in
        let l = length-drop offset text in
        λ h. subst (λ (b : Bool). IsEnded (cond b [] (outcomes most text next))) (sym h)
        (more (omega (arith, f.whole, l, le)) (omega (arith, f.header, lt)))
    go (Some code) is more = λ e. first_other (drop offset text) (is ∙ ap Some e)

pub few_outcomes : (most : ℕ) (text : List ℕ) (offset : ℕ)
    → length (outcomes most text offset) ≤ most
unfolding outcomes
few_outcomes zero text offset = omega arith
few_outcomes (suc most) text offset =
    go (is_last (front text offset))
    (few_outcomes most text (offset + told_length (drop offset text)))
  where
    go : (b : Bool) → length (outcomes most text (offset + told_length (drop offset text))) ≤ most
        → suc (length (cond b [] (outcomes most text (offset + told_length (drop offset text)))))
        ≤ suc most
    go true h = omega arith
    go false h = omega (arith, h)
