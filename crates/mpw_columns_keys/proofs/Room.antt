-- Keys that are added as markers, as long as there is room; and numbers up to a limit.
use Rattle.std.proofs.Common.{◌≡◌, ◌∙◌, ℕ, zero, suc, ◌+◌, ◌-◌, ◌<◌, ◌≤◌, ◌^◌, min, List, [], ◌∷◌, ◌++◌, length, get_or, take, map, length-append, append-nil, slice_get, Some, sum_by, sym, ap, ap₂, subst, ℤ, arith}
use Rattle.std.specs.List.{flat_map, range_with_len}
use Rattle.std.proofs.Math.Seq.{take-nil}
use Rattle.std.proofs.lemmas.List.FromFn.{map-range_with_len_more}
use Rattle.std.proofs.lemmas.List.Sums.{sum_by_more}
use Rattle.std.proofs.lemmas.List.{flat_map_more, take_more, take_all, take_min, take-map, map-append, length-map}
use Rattle.mpw_markers.specs.declared.marker.Key.{Key}
use Rattle.mpw_markers.specs.declared.marker.Marker.{Marker}
use Rattle.mpw_columns_keys.specs.Keys.{displaced_key, of_first}
use Rattle.mpw_columns_keys.specs.Firsts.{AddsFirst, capped, first_in, first_placed, keys_in, placed_keys, rule_placed}
use Rattle.mpw_columns_keys.specs.declared.first.First.{First}
use Rattle.mpw_columns_keys.specs.declared.first.Firsts.{Firsts}
use Rattle.mpw_columns_keys.specs.declared.placed.Placed.{Placed}
use Rattle.mpw_columns_keys.specs.declared.placed.Together.{Together}
use Rattle.mpw_columns_keys.proofs.Added.{added}

-- ---- the first of two lists

pub take_both : {X : Type 0} (m : ℕ) (xs ys : List X)
    → take m (xs ++ ys) ≡ take m xs ++ take (m - length xs) ys
take_both {X = X} m [] ys =
    let same : m ≡ m - 0 = omega arith in
    ap (λ (n : ℕ). take n ys) same ∙ ap (λ (zs : List X). zs ++ take (m - 0) ys) (sym (take-nil m))
take_both {X = X} zero (x ∷ xs) ys =
    let none : 0 ≡ 0 - length (x ∷ xs) = omega arith in ap (λ (n : ℕ). take n ys) none
take_both {X = X} (suc m) (x ∷ xs) ys =
    let same : m - length xs ≡ suc m - length (x ∷ xs) = omega arith in
    ap (λ (zs : List X). x ∷ zs) (take_both m xs ys
    ∙ ap (λ (n : ℕ). take m xs ++ take n ys) same)

-- ---- added

pub adds_none : (t : Together) → AddsFirst [] t t
adds_none t = record {
  added = sym (ap (λ (ks : List Key). t.markers.items ++ map of_first ks) (take-nil t.room)
      ∙ append-nil t.markers.items);
  left = omega arith;
}

pub adds_more : (xs ys : List Key) (old mid new : Together) → AddsFirst xs old mid
    → AddsFirst ys mid new → AddsFirst (xs ++ ys) old new
adds_more xs ys old mid new a b = record {
  added = added old.markers.items mid.markers.items new.markers.items (take old.room xs)
      (take mid.room ys) a.added b.added
      ∙ ap (λ (ks : List Key). old.markers.items ++ map of_first ks)
      (ap (λ (n : ℕ). take old.room xs ++ take n ys) a.left ∙ sym (take_both old.room xs ys));
  left = let long = length-append xs ys in omega (arith, long, a.left, b.left);
}

-- those of the next column
pub adds_next : {X : Type 0} (f : X → List Key) (old mid new : Together) (xs : List X) (i : ℕ)
    (d : X) → i < length xs → AddsFirst (flat_map f (take i xs)) old mid
    → AddsFirst (f (get_or xs i d)) mid new → AddsFirst (flat_map f (take (i + 1) xs)) old new
adds_next {X = X} f old mid new xs i d lt a b =
    subst (λ (ks : List Key). AddsFirst ks old new)
    (flat_map_more f [] (take i xs) (get_or xs i d)
    ∙ ap (flat_map f) (sym (take_more xs i d lt)))
    (adds_more (flat_map f (take i xs)) (f (get_or xs i d)) old mid new a b)

pub adds_all : {X : Type 0} (f : X → List Key) (old new : Together) (xs : List X) (i : ℕ)
    → length xs ≤ i → AddsFirst (flat_map f (take i xs)) old new
    → AddsFirst (flat_map f xs) old new
adds_all {X = X} f old new xs i le a =
    subst (λ (zs : List X). AddsFirst (flat_map f zs) old new) (take_all i xs le) a

-- the marker of the next key of a list, displaced
pub next_displaced : (by : ℤ) (old mid new : List Marker) (keys : List Key) (i : ℕ) (d : Key)
    (m : Marker) → i < length keys
    → mid ≡ old ++ map of_first (map (displaced_key by) (take i keys)) → new ≡ mid ++ m ∷ []
    → m ≡ of_first (displaced_key by (get_or keys i d))
    → new ≡ old ++ map of_first (map (displaced_key by) (take (i + 1) keys))
next_displaced by old mid new keys i d m lt e f g =
    added old mid new (map (displaced_key by) (take i keys))
    (displaced_key by (get_or keys i d) ∷ []) e (f ∙ ap (λ (x : Marker). mid ++ x ∷ []) g)
    ∙ ap (λ (ks : List Key). old ++ map of_first ks)
    (sym (map-append (displaced_key by) (take i keys) (get_or keys i d ∷ []))
    ∙ ap (map (displaced_key by)) (sym (take_more keys i d lt)))

-- as many keys were added as there was room for
pub room_filled : (by : ℤ) (old mid : Together) (keys first : List Key) (i : ℕ) (room : ℕ)
    → first ≡ take (min old.room (length keys)) keys → length first ≤ i
    → mid.markers.items ≡ old.markers.items ++ map of_first (map (displaced_key by) (take i first))
    → room ≡ old.room - length keys
    → AddsFirst (map (displaced_key by) keys) old (record { markers = mid.markers; room = room })
room_filled by old mid keys first i room is le e left = record {
  added = e ∙ ap (λ (ks : List Key). old.markers.items ++ map of_first ks)
      (ap (map (displaced_key by)) (take_all i first le ∙ is ∙ take_min old.room keys)
      ∙ sym (take-map (displaced_key by) old.room keys));
  left = left ∙ ap (λ (n : ℕ). old.room - n) (sym (length-map keys (displaced_key by)));
}

-- the first of one rule more
pub next_first : (most : ℕ) (firsts : List Firsts) (upright across : List Placed) (n : ℕ)
    (old new : Together) → old.room ≡ most
    → old.markers.items ≡ map of_first (first_placed most firsts upright across n)
    → AddsFirst (rule_placed firsts upright across n) old new
    → new.markers.items ≡ map of_first (first_placed most firsts upright across (n + 1))
next_first most firsts upright across n old new room e a =
    let more : n + 1 ≡ suc n = omega arith in
    added [] old.markers.items new.markers.items (first_placed most firsts upright across n)
    (take most (rule_placed firsts upright across n)) e
    (a.added ∙ ap (λ (m : ℕ). old.markers.items
    ++ map of_first (take m (rule_placed firsts upright across n))) room)
    ∙ ap (λ (m : ℕ). map of_first (first_placed most firsts upright across m)) (sym more)

-- what a column's list adds
pub placed_there : (firsts : List Firsts) (n : ℕ) (p : Placed) (first : First) (keys : List Key)
    → keys ≡ first.keys.items → Some first ≡ first_in (slice_get firsts p.list) n
    → map (displaced_key p.by) keys ≡ placed_keys firsts n p
placed_there firsts n p first keys e f = ap (map (displaced_key p.by)) (e ∙ ap keys_in f)

-- ---- up to a limit

pub capped_same : (a b : ℕ) → a ≡ capped b → capped a ≡ capped b
capped_same a b e = grind (arith, e)

pub counted_more : {X : Type 0} (f : X → ℕ) (xs : List X) (i : ℕ) (d : X) (old one new : ℕ)
    → i < length xs → old ≡ capped (sum_by f (take i xs)) → capped one ≡ capped (f (get_or xs i d))
    → new ≡ min (old + one) (2 ^ 64 - 1) → new ≡ capped (sum_by f (take (i + 1) xs))
counted_more f xs i d old one new lt e g h =
    let more = sum_by_more f xs i d lt in grind (arith, e, g, h, more)

pub counted_all : {X : Type 0} (f : X → ℕ) (xs : List X) (i n : ℕ) → length xs ≤ i
    → n ≡ capped (sum_by f (take i xs)) → n ≡ capped (sum_by f xs)
counted_all {X = X} f xs i n le e =
    e ∙ ap (λ (zs : List X). capped (sum_by f zs)) (take_all i xs le)

-- the number of the next rule
pub next_number : (f : ℕ → ℕ) (n one : ℕ) (old new : List ℕ) → old ≡ map f (range_with_len 0 n)
    → one ≡ f n → new ≡ old ++ one ∷ [] → new ≡ map f (range_with_len 0 (n + 1))
next_number f n one old new e g h =
    let at : 0 + n ≡ n = omega arith in
    h ∙ ap₂ (λ (ns : List ℕ) (m : ℕ). ns ++ m ∷ []) e g ∙ sym (map-range_with_len_more f 0 n n at)
