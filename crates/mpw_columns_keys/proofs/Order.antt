-- The order of lines and of keys.
use Rattle.std.proofs.Common.{◌≡◌, ◌∙◌, ◌+◌, ◌*◌, ◌<◌, ◌≤◌, ℤ, ◌≤ℤ◌, ◌<ℤ◌, false, List, get_or, length, Ordering, Less, Equal, Greater, is_lt, int_cmp, refl, sym, ap, inl, inr, arith}
use Rattle.std.specs.Prelude.{All, AllPairs, Contains}
use Rattle.std.specs.Cmp.{IsTotalOrder}
use Rattle.std.specs.List.Sorted.{IsSorted}
use Rattle.std.specs.Ordering.{ordering_then, nat_cmp}
use Rattle.std.proofs.lemmas.Cmp.{then_total, on_total, nat_cmp_total, int_cmp_total, tied_itself}
use Rattle.std.proofs.lemmas.Int.{ints}
use Rattle.std.proofs.lemmas.List.Elements.{Contains-get_or}
use Rattle.std.proofs.lemmas.List.Sorted.{sorted_far, ranks_by}
use Rattle.std.proofs.lemmas.Map.Lookups.{exact_unsigned, exact_signed}
use Rattle.mpw_region.proofs.Orderings.{then_first, then_second, then_not_less, not_after, reversed, before_itself, chain}
use Rattle.mpw_markers.specs.declared.marker.Line.{Line}
use Rattle.mpw_markers.specs.declared.marker.Key.{Key}
use Rattle.mpw_markers.specs.Markers.{line_of_key}
use Rattle.mpw_columns_keys.specs.Keys.{key_cmp, AreInOrder}
use Rattle.mpw_columns_keys.proofs.SameKey.{same_line}
use Rattle.mpw_columns_keys.proofs.KeyOrder.{key_total}
use Rattle.mpw_columns_keys.specs.Internal.{line_number, line_cmp, IsFilled, BeginsFirst, StandsBefore, IsApart}

line_total : IsTotalOrder line_cmp
line_total =
    then_total (on_total line_number nat_cmp_total)
    (then_total (on_total (λ l. l.x1) int_cmp_total) (on_total (λ l. l.x2) int_cmp_total))

-- lines of one axis that compare as equal are equal
line_tied : (a b : Line) → a.axis ≡ b.axis → a.side ≤ 1 → b.side ≤ 1 → line_cmp a b ≡ Equal → a ≡ b
line_tied a b axis first second e =
    let number : 2 * a.rule + a.side ≡ 2 * b.rule + b.side =
    exact_unsigned _ _ (then_first (nat_cmp (line_number a) (line_number b)) _ e) in
    let edges = then_second (nat_cmp (line_number a) (line_number b)) _ e in
    same_line a b (omega (arith, number, first, second)) axis (omega (arith, number, first, second))
    (exact_signed _ _ (then_first (int_cmp a.x1 b.x1) _ edges))
    (exact_signed _ _ (then_second (int_cmp a.x1 b.x1) _ edges))

-- no line comes before itself
line_before : (a b : Line) → line_cmp a b ≡ Less → a ≡ b → ⊥
line_before = before_itself line_cmp line_total

-- ---- what begins first, and what comes before

pub begins_below : (k l : Key) → BeginsFirst k l → line_of_key k ≡ line_of_key l
    → k.piece.y0 ≤ℤ l.piece.y0
begins_below k l (inl less) e = absurd (line_before (line_of_key k) (line_of_key l) less e)
begins_below k l (inr begins) e = begins.1

pub ends_below : (k l : Key) → StandsBefore k l → line_of_key k ≡ line_of_key l
    → k.piece.y1 <ℤ l.piece.y0
ends_below k l (inl less) e = absurd (line_before (line_of_key k) (line_of_key l) less e)
ends_below k l (inr stands) e = stands.1

pub begins_chain : (k l m : Key) → BeginsFirst k l → BeginsFirst l m → BeginsFirst k m
begins_chain k l m p q =
    chain line_cmp line_total (line_of_key k) (line_of_key l) (line_of_key m)
    (λ e f. omega (arith, ints, e, f)) p q

pub stands_begins : (k l m : Key) → StandsBefore k l → BeginsFirst l m → StandsBefore k m
stands_begins k l m p q =
    chain line_cmp line_total (line_of_key k) (line_of_key l) (line_of_key m)
    (λ e f. omega (arith, ints, e, f)) p q

pub stands_apart : (k l : Key) → BeginsFirst k l → IsApart k l → StandsBefore k l
stands_apart k l (inl less) apart = inl less
stands_apart k l (inr begins) apart = inr (begins.0, apart begins.0)

-- ---- keys in order

then_within : (a b c o : Ordering) → ordering_then a (ordering_then b (ordering_then c o))
    ≡ ordering_then (ordering_then a (ordering_then b c)) o
then_within Less b c o = refl
then_within Greater b c o = refl
then_within Equal Less c o = refl
then_within Equal Greater c o = refl
then_within Equal Equal c o = refl

key_by_line : (k l : Key) → key_cmp k l
    ≡ ordering_then (line_cmp (line_of_key k) (line_of_key l)) (int_cmp k.piece.y0 l.piece.y0)
key_by_line k l =
    then_within (nat_cmp (line_number (line_of_key k)) (line_number (line_of_key l)))
    (int_cmp k.piece.x1 l.piece.x1) (int_cmp k.piece.x2 l.piece.x2) (int_cmp k.piece.y0 l.piece.y0)

-- runs of which each comes before the later ones are in order
less_row : (x y z : ℤ) → x <ℤ y → y <ℤ z → int_cmp x z ≡ Less
less_row x y z l m = grind (arith, ints)

key_less : (k l : Key) → IsFilled k → StandsBefore k l → key_cmp k l ≡ Less
key_less k l f (inl less) =
    key_by_line k l ∙ ap (λ (o : Ordering). ordering_then o (int_cmp k.piece.y0 l.piece.y0)) less
key_less k l f (inr stands) =
    let tied : line_cmp (line_of_key k) (line_of_key l) ≡ Equal =
    ap (line_cmp (line_of_key k)) (sym stands.0) ∙ tied_itself line_total (line_of_key k) in
    key_by_line k l
    ∙ ap (λ (o : Ordering). ordering_then o (int_cmp k.piece.y0 l.piece.y0)) tied
    ∙ less_row k.piece.y0 k.piece.y1 l.piece.y0 f stands.1

pub runs_in_order : (runs : List Key) → All IsFilled runs → AllPairs StandsBefore runs
    → AreInOrder runs
runs_in_order runs f h i j d less within =
    key_less (get_or runs i d) (get_or runs j d) (f i d (omega (arith, less, within)))
    (h i j d less within)

-- what a sort guarantees for two keys
begins_from_sort : (k l : Key) → k.piece.axis ≡ l.piece.axis → k.piece.side ≤ 1 → l.piece.side ≤ 1
    → is_lt (key_cmp l k) ≡ false → BeginsFirst k l
begins_from_sort k l axis first second e =
    elim (then_not_less (line_cmp (line_of_key l) (line_of_key k)) _
    (sym (ap is_lt (key_by_line l k)) ∙ e)) [
      | inl greater ↦ inl (reversed _
          (sym (line_total.antisymm (line_of_key l) (line_of_key k)) ∙ greater))
      | inr tied ↦ inr (
        sym (line_tied (line_of_key l) (line_of_key k) (sym axis) second first tied.0),
        not_after k.piece.y0 l.piece.y0 tied.1,
      )
    ]

pub begins_in_order : (pieces : List Key)
    → ((k l : Key) → Contains pieces k → Contains pieces l → k.piece.axis ≡ l.piece.axis)
    → All (λ k. k.piece.side ≤ 1) pieces → IsSorted key_cmp pieces → AllPairs BeginsFirst pieces
begins_in_order pieces axis sides h i j d less within =
    let before : i < length pieces = omega (arith, less, within) in
    begins_from_sort (get_or pieces i d) (get_or pieces j d)
    (axis _ _ (Contains-get_or pieces i d before) (Contains-get_or pieces j d within))
    (sides i d before) (sides j d within)
    (sorted_far (λ x y. is_lt (key_cmp x y)) (ranks_by key_total (λ (k : Key). k)) pieces h i j d
    (omega (arith, less)) within)
