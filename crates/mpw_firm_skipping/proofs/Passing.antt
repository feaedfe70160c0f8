-- One step further in a list of cuts.
use Rattle.std.proofs.Common.{◌≡◌, ◌∙◌, ◌<◌, ◌≤◌, ◌+◌, ◌-◌, ◌^◌, ℕ, List, ◌++◌, drop, take, length, get_or, refl}
use Rattle.std.specs.Prelude.{min}
use Rattle.std.proofs.lemmas.Bool.{lt-ltb, le-ltb}
use Rattle.std.proofs.lemmas.List.{at_drop_all, at_drop_more}
use Rattle.mpw_firm_skipping.specs.Cuts.{left_from, original_from}
use Rattle.mpw_firm_skipping.specs.declared.cut.Cut.{Cut}

-- ---- what is left

pub left_end : (reached : ℕ) (cuts : List Cut) (i : ℕ) (text : List ℕ) → length cuts ≤ i
    → left_from reached (drop i cuts) text ≡ drop reached text
unfolding left_from
left_end reached cuts i text h = at_drop_all (λ cs. left_from reached cs text) cuts i h

pub left_more : (reached : ℕ) (cuts : List Cut) (i : ℕ) (d : Cut) (text : List ℕ)
    → i < length cuts
    → left_from reached (drop i cuts) text
    ≡ take ((get_or cuts i d).start - reached) (drop reached text)
    ++ left_from (get_or cuts i d).end (drop (i + 1) cuts) text
unfolding left_from
left_more reached cuts i d text h =
    at_drop_more (λ cs. left_from reached cs text) cuts i d h

-- ---- offsets in the text

pub original_end : (reached : ℕ) (cuts : List Cut) (i : ℕ) (at : ℕ) → length cuts ≤ i
    → original_from reached (drop i cuts) at ≡ min (reached + at) (2 ^ 64 - 1)
unfolding original_from
original_end reached cuts i at h = at_drop_all (λ cs. original_from reached cs at) cuts i h

pub original_here : (reached : ℕ) (cuts : List Cut) (i : ℕ) (d : Cut) (at : ℕ)
    → i < length cuts → at < (get_or cuts i d).start - reached
    → original_from reached (drop i cuts) at ≡ min (reached + at) (2 ^ 64 - 1)
unfolding original_from
original_here reached cuts i d at h there =
    at_drop_more (λ cs. original_from reached cs at) cuts i d h
    ∙ rw (lt-ltb at ((get_or cuts i d).start - reached) there) refl

pub original_more : (reached : ℕ) (cuts : List Cut) (i : ℕ) (d : Cut) (at : ℕ)
    → i < length cuts → (get_or cuts i d).start - reached ≤ at
    → original_from reached (drop i cuts) at
    ≡ original_from (get_or cuts i d).end (drop (i + 1) cuts)
    (at - ((get_or cuts i d).start - reached))
unfolding original_from
original_more reached cuts i d at h there =
    at_drop_more (λ cs. original_from reached cs at) cuts i d h
    ∙ rw (le-ltb at ((get_or cuts i d).start - reached) there) refl
