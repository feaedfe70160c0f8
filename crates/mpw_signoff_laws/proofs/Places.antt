-- Waivers at their indexes.
use Rattle.std.proofs.Common.{◌≡◌, ℕ, ◌<◌, Bool, true, false, ltb, List, length, Option, None, Some, refl, sym, ap, ◌∙◌, inl, inr}
use Rattle.std.specs.Prelude.{get_or, slice_set, ◌≢◌}
use Rattle.std.specs.Option.{option_flatten}
use Rattle.std.proofs.lemmas.Bool.{ltb-true, ltb-false}
use Rattle.std.proofs.lemmas.Bool.Decides.{eqb_tells}
use Rattle.std.proofs.lemmas.List.{get_or-set_same, get_or-set_other, get_or_past}
use Rattle.std.proofs.lemmas.Option.{slice_get_past, slice_get-get_or}
use Rattle.mpw_waiver.specs.declared.waiver.Waiver.{Waiver}
use Rattle.mpw_waiver.specs.Waivers.{waiver_at}

abbrev Places : Type 0
Places = List (Option Waiver)

at_is : (ws : Places) (i : ℕ) → waiver_at ws i ≡ get_or ws i None
at_is ws i = go (ltb i (length ws)) refl
  where
    go : (b : Bool) → ltb i (length ws) ≡ b → waiver_at ws i ≡ get_or ws i None
    go true e = ap option_flatten (slice_get-get_or ws i None (ltb-true i (length ws) e))
    go false e =
        let le = ltb-false i (length ws) e in
        ap option_flatten (slice_get_past ws i le) ∙ sym (get_or_past ws i None le)

pub at_within : (ws : Places) (i : ℕ) (w : Waiver) → waiver_at ws i ≡ Some w → i < length ws
at_within ws i w e = go (ltb i (length ws)) refl
  where
    go : (b : Bool) → ltb i (length ws) ≡ b → i < length ws
    go true h = ltb-true i (length ws) h
    go false h =
        absurd
        (let k = sym (ap option_flatten (slice_get_past ws i (ltb-false i (length ws) h))) ∙ e in cc)

pub put_same : (ws : Places) (i : ℕ) (o : Option Waiver) → i < length ws
    → waiver_at (slice_set ws i o) i ≡ o
put_same ws i o lt = at_is (slice_set ws i o) i ∙ get_or-set_same ws i o None lt

pub put_other : (ws : Places) (i j : ℕ) (o : Option Waiver) → j ≢ i
    → waiver_at (slice_set ws i o) j ≡ waiver_at ws j
put_other ws i j o other =
    at_is (slice_set ws i o) j ∙ get_or-set_other ws i j o None other ∙ sym (at_is ws j)

-- the same index, or another
pub data Same (i j : ℕ) : Type 0 where
  same : j ≡ i → Same i j
  other : j ≢ i → Same i j

pub same_place : (i j : ℕ) → Same i j
same_place i j = elim (eqb_tells j i) [ inl p ↦ Same.same p.1 | inr p ↦ Same.other p.1 ]
