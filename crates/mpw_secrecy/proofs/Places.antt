-- A marker of a book is the only one with its key; and a list of waivers after one of them is put.
use Rattle.std.proofs.Common.{◌≡◌, ◌∙◌, ℕ, zero, suc, ◌<◌, Bool, true, false, cond, nat_lt, not, List, [], ◌∷◌, length, get_or, slice_get, slice_set, Option, None, Some, inl, inr, refl, sym, ap, arith, true≢false}
use Rattle.std.specs.List.{position_or_len}
use Rattle.std.proofs.lemmas.Bool.{cases_lt}
use Rattle.std.proofs.lemmas.Bool.Decides.{Decides-ltb}
use Rattle.std.proofs.lemmas.Int.{ints}
use Rattle.std.proofs.lemmas.List.Quantifiers.{position-Some}
use Rattle.std.proofs.lemmas.List.Sums.{fails_before_first}
use Rattle.std.proofs.lemmas.Option.{get_or_from_slice_get, none-some, same_Some, slice_get_within}
use Rattle.mpw_markers.specs.declared.marker.Key.{Key}
use Rattle.mpw_markers.specs.declared.marker.Marker.{Marker}
use Rattle.mpw_markers.specs.Book.{IsBook, place_in}
use Rattle.mpw_markers.specs.Laws.{PlacesAreOfKeys}
use Rattle.mpw_markers.specs.Markers.{IsFilled, key_eq, line_of, line_of_key}
use Rattle.mpw_markers.specs.Order.{StandsBefore}
use Rattle.mpw_markers.proofs.Order.{line_before}
use Rattle.mpw_waiver.specs.declared.waiver.Waiver.{Waiver}
use Rattle.mpw_waiver.specs.Waivers.{waiver_at}
use Rattle.mpw_secrecy.proofs.Waived.{IsNowhere, IsOnlyAt}

-- ---- keys

abbrev with_key : Key → Marker
with_key k = record { key = k; met = [] }

pub key_same : PlacesAreOfKeys → (k l : Key) → key_eq k l ≡ true → k ≡ l
key_same keys k l e =
    let at : place_in (with_key k ∷ []) l ≡ Some 0 =
    ap (λ b. cond (nat_lt (cond (not b) 1 0) 1) (Some (cond (not b) 1 0)) None) e in
    let found = keys (with_key k ∷ []) l 0 at in
    (λ i. (same_Some (with_key k) found.0 found.1 i).key) ∙ found.2

-- no two markers of a book have the same key
apart : (m n : Marker) → IsFilled m → StandsBefore m n → m.key ≡ n.key → ⊥
apart m n filled (inl less) same = line_before (line_of m) (line_of n) less (ap line_of_key same)
apart m n filled (inr p) same =
    let first : m.key.piece.y0 ≡ n.key.piece.y0 = ap (λ (k : Key). k.piece.y0) same in
    omega (arith, ints, p.1, first, filled)

before : (book : List Marker) (i j : ℕ) (m n : Marker) → IsBook book → slice_get book i ≡ Some m
    → slice_get book j ≡ Some n → i < j → m.key ≡ n.key → ⊥
before book i j m n is at there less same =
    let first = get_or_from_slice_get book i m m at in
    let second = get_or_from_slice_get book j n m there in
    let within = slice_get_within book j n there in
    apart (get_or book i m) (get_or book j m) (is.filled i m (omega (arith, within, less)))
    (is.ordered i j m less within)
    ((λ k. (first k).key) ∙ same ∙ sym (λ k. (second k).key))

pub only_at : PlacesAreOfKeys → (book : List Marker) (key : Key) (i : ℕ) (m : Marker) → IsBook book
    → slice_get book i ≡ Some m → m.key ≡ key → IsOnlyAt book key i
only_at keys book key i m is at has j n there same =
    let of : n.key ≡ key = key_same keys n.key key same in
    elim (cases_lt j i) [
      | inl less ↦ absurd (before book j i n m is there at less (of ∙ sym has))
      | inr more ↦ elim (cases_lt i j) [
        | inl less ↦ absurd (before book i j m n is at there less (has ∙ sym of))
        | inr other ↦ omega (arith, more, other)
      ]
    ]

abbrev has_key : Key → Marker → Bool
has_key key m = key_eq m.key key

past : (b : Bool) (n : ℕ) → cond b (Some n) None ≡ None → b ≡ false
past true n gone = absurd (none-some n (sym gone))
past false n gone = refl

not_less : (n l k : ℕ) → nat_lt n l ≡ false → k < l → k < n
not_less n l k e less = elim (cases_lt k n) [
  | inl q ↦ q
  | inr q ↦ absurd (true≢false (sym ((Decides-ltb n l).1 (omega (arith, q, less))) ∙ e))
]

pub nowhere : (book : List Marker) (key : Key) → place_in book key ≡ None → IsNowhere book key
nowhere book key e j m there =
    let n = position_or_len (has_key key) book in
    let less = not_less n (length book) j (past (nat_lt n (length book)) n e)
    (slice_get_within book j m there) in
    ap (has_key key) (sym (get_or_from_slice_get book j m m there))
    ∙ fails_before_first (has_key key) book j m less

pub found_key : (book : List Marker) (key : Key) (i : ℕ) (m : Marker) → place_in book key ≡ Some i
    → slice_get book i ≡ Some m → key_eq m.key key ≡ true
found_key book key i m e at = ap (has_key key) (sym (get_or_from_slice_get book i m m at))
    ∙ (position-Some (has_key key) book i m e).1

-- ---- waivers

pub put_here : (waivers : List (Option Waiver)) (i : ℕ) (o : Option Waiver) → i < length waivers
    → waiver_at (slice_set waivers i o) i ≡ o
put_here [] i o less = absurd (omega (arith, less))
put_here (w ∷ waivers) zero o less = refl
put_here (w ∷ waivers) (suc i) o less = put_here waivers i o (omega (arith, less))

pub put_there : (waivers : List (Option Waiver)) (i k : ℕ) (o : Option Waiver) → (k ≡ i → ⊥)
    → waiver_at (slice_set waivers i o) k ≡ waiver_at waivers k
put_there [] i k o apart = refl
put_there (w ∷ waivers) zero zero o apart = absurd (apart refl)
put_there (w ∷ waivers) zero (suc k) o apart = refl
put_there (w ∷ waivers) (suc i) zero o apart = refl
put_there (w ∷ waivers) (suc i) (suc k) o apart = put_there waivers i k o (λ e. apart (ap suc e))
