-- Markers counted by rules.
use Rattle.std.proofs.Common.{◌≡◌, ◌<◌, ◌≤◌, ◌+◌, ◌-◌, ◌^◌, ◌==◌, ℕ, cond, List, length, get_or, take, refl, sym, ap, ◌∙◌, arith}
use Rattle.std.specs.Prelude.{min, not, slice_index}
use Rattle.std.proofs.lemmas.List.{length-take-le}
use Rattle.std.proofs.lemmas.List.Filters.{length-filter_both, length-filter_more}
use Rattle.mpw_firm_listing.specs.Limited.{count_of}
use Rattle.mpw_markers.specs.declared.marker.Marker.{Marker}
use Rattle.mpw_firm_outputs.specs.Counted.{capped}
use Rattle.mpw_firm_outputs.specs.Internal.Counted.{AreCounts}

-- One marker more.
count_more : (markers : List Marker) (i k : ℕ) (m : Marker) → i < length markers
    → m ≡ get_or markers i m
    → count_of (take (i + 1) markers) k
    ≡ count_of (take i markers) k + cond (m.key.rule == k) 1 0
count_more markers i k m inside at =
    length-filter_more (λ (x : Marker). x.key.rule == k) markers i m inside
    ∙ ap (λ (x : Marker). count_of (take i markers) k + cond (x.key.rule == k) 1 0) (sym at)

-- A rule has as many markers as there are, at most.
count_few : (markers : List Marker) (k : ℕ) → count_of markers k ≤ length markers
count_few markers k =
    omega (
      arith,
      length-filter_both (λ (x : Marker). x.key.rule == k) (λ (x : Marker). not (x.key.rule == k))
          (λ x. refl)
          markers,
    )

-- As many as markers so far, at most.
pub counts_few : (markers : List Marker) (counts : List ℕ) (i : ℕ) → i < length markers
    → AreCounts (take i markers) counts
    → (k : ℕ) → k < length counts → slice_index counts k ≤ i
counts_few markers counts i inside are k within =
    omega (
      arith,
      are k within,
      count_few (take i markers) k,
      length-take-le i markers (omega (arith, inside)),
    )

pub counts_on : (markers : List Marker) (counts new : List ℕ) (i : ℕ) (m : Marker)
    → i < length markers → m ≡ get_or markers i m → length new ≡ length counts
    → ((k : ℕ) → k < length counts
    → slice_index new k ≡ slice_index counts k + cond (m.key.rule == k) 1 0)
    → AreCounts (take i markers) counts → AreCounts (take (i + 1) markers) new
counts_on markers counts new i m inside at many more are k within =
    let old : k < length counts = omega (arith, within, many) in
    more k old ∙ ap (λ n. n + cond (m.key.rule == k) 1 0) (are k old)
    ∙ sym (count_more markers i k m inside at)

small_is : (n many most : ℕ) → n ≤ many → many ≤ most → n ≡ min n most
small_is n many most few short = omega (arith, few, short)

-- A slice's markers are no more than the greatest number.
pub count_whole : (markers : List Marker) (k : ℕ) → length markers < 2 ^ 64
    → count_of markers k ≡ capped (count_of markers k)
count_whole markers k short =
    small_is (count_of markers k) (length markers) (2 ^ 64 - 1) (count_few markers k)
    (omega (arith, short))
