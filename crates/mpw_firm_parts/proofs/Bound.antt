-- Markers that are a book's.
use Rattle.std.proofs.Common.{◌≡◌, ◌∙◌, ◌<◌, ◌≤◌, ◌+◌, ◌-◌, ℕ, List, length, get_or, map, inl, inr, sym, subst, arith}
use Rattle.std.specs.Prelude.{All, AllPairs}
use Rattle.std.proofs.lemmas.Bool.{cases_lt}
use Rattle.std.proofs.lemmas.List.{get_or_default}
use Rattle.std.proofs.lemmas.List.Elements.{All-map}
use Rattle.mpw_markers.specs.declared.marker.Key.{Key}
use Rattle.mpw_markers.specs.declared.marker.Marker.{Marker}
use Rattle.mpw_markers.specs.Markers.{IsFilled}
use Rattle.mpw_markers.specs.Met.{IsAscending}
use Rattle.mpw_markers.specs.Order.{StandsBefore}
use Rattle.mpw_markers.proofs.Order.{StandsBefore-chain}
use Rattle.mpw_columns_keys.specs.Keys.{of_first}

-- each of the first n markers is before those after it
abbrev pub AreApartBelow : ℕ → List Marker → Type 0
AreApartBelow n markers = (i j : ℕ) (d : Marker) → i < j → j < n
    → StandsBefore (get_or markers i d) (get_or markers j d)

pub apart_more : (markers : List Marker) (n : ℕ) → All IsFilled markers → 1 ≤ n
    → n < length markers → AreApartBelow n markers
    → ((d : Marker) → StandsBefore (get_or markers (n - 1) d) (get_or markers n d))
    → AreApartBelow (n + 1) markers
apart_more markers n filled some inside apart next i j d less below = elim (cases_lt j n) [
  | inl before ↦ apart i j d less before
  | inr past ↦
      let here : n ≡ j = omega (arith, past, below) in
      subst (λ (m : ℕ). StandsBefore (get_or markers i d) (get_or markers m d)) here
      (elim (cases_lt i (n - 1)) [
        | inl far ↦ StandsBefore-chain (get_or markers i d) (get_or markers (n - 1) d)
            (get_or markers n d) (filled (n - 1) d (omega (arith, some, inside)))
            (apart i (n - 1) d far (omega (arith, some))) (next d)
        | inr near ↦
            let last : n - 1 ≡ i = omega (arith, near, less, here) in
            subst (λ (m : ℕ). StandsBefore (get_or markers m d) (get_or markers n d)) last (next d)
      ])
]

one_ascends : (k : Key) → IsAscending (of_first k).met
one_ascends k i j d less below = absurd (omega (arith, less, below))

-- the markers of keys meet the first submission alone, so what each meets ascends
pub firsts_ascend : (keys : List Key) → All (λ (m : Marker). IsAscending m.met) (map of_first keys)
firsts_ascend keys = All-map (λ (m : Marker). IsAscending m.met) of_first keys
    (λ i d less. one_ascends (get_or keys i d))

-- ---- a marker and the next

pub not_apart : (markers : List Marker) (n : ℕ) (a b d e : Marker) → 1 ≤ n → n < length markers
    → AllPairs StandsBefore markers → a ≡ get_or markers (n - 1) d → b ≡ get_or markers n e
    → StandsBefore a b
not_apart markers n a b d e some inside apart first second =
    let same = get_or_default markers n e d inside in
    subst (λ (m : Marker). StandsBefore m b) (sym first)
    (subst (λ (m : Marker). StandsBefore (get_or markers (n - 1) d) m) (sym (second ∙ same))
    (apart (n - 1) n d (omega (arith, some)) inside))

pub apart_next : (markers : List Marker) (n : ℕ) (a b d e : Marker) → All IsFilled markers → 1 ≤ n
    → n < length markers → AreApartBelow n markers → a ≡ get_or markers (n - 1) d
    → b ≡ get_or markers n e → StandsBefore a b → (1 ≤ n + 1) × AreApartBelow (n + 1) markers
apart_next markers n a b d e filled some inside apart first second next =
    let before : n - 1 < length markers = omega (arith, some, inside) in (
      omega arith,
      apart_more markers n filled some inside apart (λ f.
          subst (λ (m : Marker). StandsBefore m (get_or markers n f))
          (first ∙ get_or_default markers (n - 1) d f before)
          (subst (λ (m : Marker). StandsBefore a m) (second ∙ get_or_default markers n e f inside)
          next)),
    )
