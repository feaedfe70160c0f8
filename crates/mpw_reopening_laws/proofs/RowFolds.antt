-- Rows, one after another.
use Rattle.std.proofs.Common.{◌≡◌, ◌∙◌, ℕ, suc, ◌+◌, List, [], ◌∷◌, ◌++◌, drop, get_or, length, refl, sym, ap, subst, arith, append_assoc, length-append}
use Rattle.mpw_events.specs.History.{Desk}
use Rattle.mpw_events.specs.declared.keeper.KeptChange.{KeptChange}
use Rattle.mpw_store_rows.specs.Rows.{Entry}
use Rattle.mpw_store_keeper.specs.Kept.{row_of, rows_from}
use Rattle.mpw_stored_desk.specs.Reopening.{gone_row, gone_rows}
use Rattle.mpw_store_restoring.specs.Restoring.{Folds}

-- ---- where rows lead

pub folds_on : (d : Desk) (first more : List Entry) (middle last : Desk) → Folds d first middle
    → Folds middle more last → Folds d (first ++ more) last
folds_on d [] more middle last f g = subst (λ x. Folds x more last) f g
folds_on d (e ∷ first) more middle last (near, restores, f) g =
    (near, restores, folds_on near first more middle last f g)

pub folds_part : (d : Desk) (first more : List Entry) (last : Desk) → Folds d (first ++ more) last
    → (middle : Desk) × Folds d first middle × Folds middle more last
folds_part d [] more last f = (d, refl, f)
folds_part d (e ∷ first) more last (near, restores, f) =
    let p = folds_part near first more last f in (p.0, (near, restores, p.1), p.2)

-- ---- one more row

-- a row among the others, or the last one
pub data Splits (entries : List Entry) (row : Entry) (first : List Entry) (next : Entry) : Type 0
  where
    last : first ≡ entries → next ≡ row → Splits entries row first next
    within : (others : List Entry) → entries ≡ first ++ next ∷ others
        → Splits entries row first next

splits_on : (e f : Entry) (entries first : List Entry) (row next : Entry) → e ≡ f
    → Splits entries row first next → Splits (e ∷ entries) row (f ∷ first) next
splits_on e f entries first row next same (Splits.last all own) =
    Splits.last (ap (λ x. x ∷ first) (sym same) ∙ ap (λ l. e ∷ l) all) own
splits_on e f entries first row next same (Splits.within others is) =
    Splits.within others (ap (λ x. x ∷ entries) same ∙ ap (λ l. f ∷ l) is)

pub splits : (entries : List Entry) (row : Entry) (first : List Entry) (next : Entry)
    (others : List Entry) → entries ++ row ∷ [] ≡ first ++ next ∷ others
    → Splits entries row first next
splits [] row [] next others is =
    Splits.last refl (ap (λ (l : List Entry). get_or l 0 row) (sym is))
splits [] row (f ∷ first) next others is =
    absurd (omega (
      arith,
      ap (λ (l : List Entry). length l) is,
      length-append first (next ∷ others),
    ))
splits (e ∷ entries) row [] next others is =
    Splits.within entries (ap (λ x. x ∷ entries) (ap (λ (l : List Entry). get_or l 0 e) is))
splits (e ∷ entries) row (f ∷ first) next others is =
    splits_on e f entries first row next (ap (λ (l : List Entry). get_or l 0 e) is)
    (splits entries row first next others (ap (λ (l : List Entry). drop 1 l) is))

-- ---- rows of changes, and of ends

pub length_rows : (place : ℕ) (changes : List KeptChange)
    → length (rows_from place changes) ≡ length changes
length_rows place [] = refl
length_rows place (kept ∷ changes) = ap suc (length_rows (place + 1) changes)

pub rows_append : (place : ℕ) (first more : List KeptChange)
    → rows_from place (first ++ more) ≡ rows_from place first
    ++ rows_from (place + length first) more
rows_append place [] more = ap (λ p. rows_from p more) (omega arith)
rows_append place (kept ∷ first) more =
    ap (λ l. row_of place kept ∷ l) (rows_append (place + 1) first more
    ∙ ap (λ p. rows_from (place + 1) first ++ rows_from p more) (omega arith))

-- rows after others, whose changes come after those of these
pub rows_behind : (entries : List Entry) (first more : List KeptChange)
    → (entries ++ rows_from (length entries + 1) first)
    ++ rows_from (length (entries ++ rows_from (length entries + 1) first) + 1) more
    ≡ entries ++ rows_from (length entries + 1) (first ++ more)
rows_behind entries first more =
    let rows = rows_from (length entries + 1) first in
    append_assoc entries rows (rows_from (length (entries ++ rows) + 1) more)
    ∙ ap (λ p. entries ++ (rows ++ rows_from p more))
    (omega (arith, length-append entries rows, length_rows (length entries + 1) first))
    ∙ ap (λ l. entries ++ l) (sym (rows_append (length entries + 1) first more))

-- the end of one connection, and after it those of others
pub ends_behind : (entries : List Entry) (c : ℕ) (connections : List ℕ)
    → (entries ++ gone_row (length entries + 1) c ∷ [])
    ++ gone_rows (length (entries ++ gone_row (length entries + 1) c ∷ []) + 1) connections
    ≡ entries ++ gone_rows (length entries + 1) (c ∷ connections)
ends_behind entries c connections =
    let row = gone_row (length entries + 1) c in
    append_assoc entries (row ∷ []) (gone_rows (length (entries ++ row ∷ []) + 1) connections)
    ∙ ap (λ p. entries ++ row ∷ gone_rows p connections)
    (omega (arith, length-append entries (row ∷ [])))
