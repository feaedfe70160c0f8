-- Lists with the same first elements; and the first keys of columns' lists.
use Rattle.std.proofs.Common.{◌≡◌, ◌∙◌, ℕ, zero, suc, ◌+◌, ◌-◌, ◌*◌, ◌<◌, ◌≤◌, Bool, true, false, cond, List, [], ◌∷◌, ◌++◌, Option, Some, length, take, map, slice_get, sum_by, filter, length-append, length-take, take-take, sym, refl, ap, ap₂, subst, le_refl, arith}
use Rattle.std.specs.List.{AllZip, flat_map}
use Rattle.std.proofs.lemmas.List.{length-map, take-map}
use Rattle.std.proofs.lemmas.List.Sums.{sum_by-cons}
use Rattle.std.proofs.lemmas.Option.{get_or_from_slice_get}
use Rattle.mpw_markers.specs.declared.marker.Key.{Key}
use Rattle.mpw_columns_keys.specs.Keys.{displaced_key, is_of_list, list_of, lists_of_rule, lists_of_sides}
use Rattle.mpw_columns_keys.specs.Firsts.{count_in, first_in, keys_in, placed_count, placed_keys, rule_counted, rule_placed, sides_counted, sides_placed, IsFirst, IsListed}
use Rattle.mpw_columns_keys.specs.declared.first.First.{First}
use Rattle.mpw_columns_keys.specs.declared.first.Firsts.{Firsts}
use Rattle.mpw_columns_keys.specs.declared.placed.Placed.{Placed}
use Rattle.mpw_columns_keys.proofs.Room.{take_both}

-- ---- lists

module _ {X : Type 0} where
  same_room : (m : ℕ) (xs ys : List X) → take m xs ≡ take m ys → m - length xs ≡ m - length ys
  same_room m xs ys e =
      let long = length-take m xs in
      let other = length-take m ys in
      let same = ap (λ (zs : List X). length zs) e in
      grind (arith, long, other, same)

  fewer : (k m : ℕ) (xs ys : List X) → k ≤ m → take m xs ≡ take m ys → take k xs ≡ take k ys
  fewer k m xs ys le e = sym (take-take k m xs le) ∙ ap (take k) e ∙ take-take k m ys le

  both_agree : (m : ℕ) (xs us ys vs : List X) → take m xs ≡ take m us → take m ys ≡ take m vs
      → take m (xs ++ ys) ≡ take m (us ++ vs)
  both_agree m xs us ys vs e f =
      take_both m xs ys
      ∙ ap₂ (λ (zs ws : List X). zs ++ ws) e
      (fewer (m - length xs) m ys vs (omega arith) f
      ∙ ap (λ (n : ℕ). take n vs) (same_room m xs us e))
      ∙ sym (take_both m us vs)

  there : (xs : List X) (n : ℕ) → n < length xs → (x : X) × (slice_get xs n ≡ Some x)
  there [] n lt = absurd (omega (arith, lt))
  there (x ∷ xs) zero lt = (x, refl)
  there (x ∷ xs) (suc n) lt = there xs n (omega (arith, lt))

module _ {X Y : Type 0} (p : Y → Bool) (f : X → Y) where
  either : (b : Bool) (x : X) (xs : List X)
      → cond b (f x ∷ map f xs) (map f xs) ≡ map f (cond b (x ∷ xs) xs)
  either true x xs = refl
  either false x xs = refl

  pub filter_mapped : (xs : List X) → filter p (map f xs) ≡ map f (filter (λ x. p (f x)) xs)
  filter_mapped [] = refl
  filter_mapped (x ∷ xs) =
      ap (λ (ys : List Y). cond (p (f x)) (f x ∷ ys) ys) (filter_mapped xs)
      ∙ either (p (f x)) x (filter (λ z. p (f z)) xs)

-- ---- columns

module _ (most lists : ℕ) (firsts : List Firsts) (n : ℕ) (lt : n < lists) where
  module _ (p : Placed) (keys : List Key) (h : IsListed most lists firsts p keys) where
    abbrev own : List Key
    own = filter (is_of_list n) h.own

    found : (first : First) × (first_in (slice_get firsts p.list) n ≡ Some first)
        × IsFirst most own first
    found =
        let items = h.f.lists.items in
        let x = there items n (subst (λ (l : ℕ). n < l) (sym h.are.long) lt) in (
          x.0,
          ap (λ (o : Option Firsts). first_in o n) h.at ∙ x.1,
          subst (IsFirst most own) (get_or_from_slice_get items n x.0 x.0 x.1)
              (h.are.each n x.0 lt),
        )

    of_list : filter (is_of_list n) keys ≡ map (displaced_key p.by) own
    of_list =
        ap (filter (is_of_list n)) h.displaced
        ∙ filter_mapped (is_of_list n) (displaced_key p.by) h.own

    column_agrees : take most (placed_keys firsts n p) ≡ take most (filter (is_of_list n) keys)
    column_agrees =
        ap (λ (o : Option First). take most (map (displaced_key p.by) (keys_in o))) found.1
        ∙ ap (λ (ks : List Key). take most (map (displaced_key p.by) ks)) found.2.keys
        ∙ take-map (displaced_key p.by) most (take most own)
        ∙ ap (map (displaced_key p.by)) (take-take most most own (le_refl most))
        ∙ sym (take-map (displaced_key p.by) most own) ∙ ap (take most) (sym of_list)

    column_counted : placed_count firsts n p ≡ length (filter (is_of_list n) keys)
    column_counted =
        ap count_in found.1 ∙ found.2.count ∙ sym (length-map own (displaced_key p.by))
        ∙ ap (λ (ks : List Key). length ks) (sym of_list)

  columns_agree : (ps : List Placed) (ls : List (List Key))
      → AllZip (IsListed most lists firsts) ps ls
      → take most (flat_map (placed_keys firsts n) ps) ≡ take most (list_of n ls)
  columns_agree [] [] h = refl
  columns_agree [] (l ∷ ls) h = absurd h
  columns_agree (p ∷ ps) [] h = absurd h
  columns_agree (p ∷ ps) (l ∷ ls) h =
      both_agree most (placed_keys firsts n p) (filter (is_of_list n) l)
      (flat_map (placed_keys firsts n) ps) (list_of n ls) (column_agrees p l h.0)
      (columns_agree ps ls h.1)

  columns_counted : (ps : List Placed) (ls : List (List Key))
      → AllZip (IsListed most lists firsts) ps ls
      → sum_by (placed_count firsts n) ps ≡ length (list_of n ls)
  columns_counted [] [] h = refl
  columns_counted [] (l ∷ ls) h = absurd h
  columns_counted (p ∷ ps) [] h = absurd h
  columns_counted (p ∷ ps) (l ∷ ls) h =
      sum_by-cons (placed_count firsts n) p ps
      ∙ ap₂ (λ (a b : ℕ). a + b) (column_counted p l h.0) (columns_counted ps ls h.1)
      ∙ sym (length-append (filter (is_of_list n) l) (list_of n ls))

-- ---- rules

module _ (most rules : ℕ) (firsts : List Firsts) (rule : ℕ) (lt : rule < rules) where
  module _ (ps : List Placed) (ls : List (List Key))
      (h : AllZip (IsListed most (2 * rules) firsts) ps ls) where
    low : 2 * rule < 2 * rules
    low = omega (arith, lt)

    high : 2 * rule + 1 < 2 * rules
    high = omega (arith, lt)

    sides_agree : take most (sides_placed firsts rule ps) ≡ take most (lists_of_sides rule ls)
    sides_agree =
        both_agree most (flat_map (placed_keys firsts (2 * rule)) ps) (list_of (2 * rule) ls)
        (flat_map (placed_keys firsts (2 * rule + 1)) ps) (list_of (2 * rule + 1) ls)
        (columns_agree most (2 * rules) firsts (2 * rule) low ps ls h)
        (columns_agree most (2 * rules) firsts (2 * rule + 1) high ps ls h)

    sides_same : sides_counted firsts rule ps ≡ length (lists_of_sides rule ls)
    sides_same =
        ap₂ (λ (a b : ℕ). a + b) (columns_counted most (2 * rules) firsts (2 * rule) low ps ls h)
        (columns_counted most (2 * rules) firsts (2 * rule + 1) high ps ls h)
        ∙ sym (length-append (list_of (2 * rule) ls) (list_of (2 * rule + 1) ls))

  module _ (upright across : List Placed) (vs hs : List (List Key))
      (v : AllZip (IsListed most (2 * rules) firsts) upright vs)
      (h : AllZip (IsListed most (2 * rules) firsts) across hs) where
    pub rule_agrees : take most (rule_placed firsts upright across rule)
        ≡ take most (lists_of_rule vs hs rule)
    rule_agrees =
        both_agree most (sides_placed firsts rule upright) (lists_of_sides rule vs)
        (sides_placed firsts rule across) (lists_of_sides rule hs) (sides_agree upright vs v)
        (sides_agree across hs h)

    pub rule_counts : rule_counted firsts upright across rule ≡ length (lists_of_rule vs hs rule)
    rule_counts =
        ap₂ (λ (a b : ℕ). a + b) (sides_same upright vs v) (sides_same across hs h)
        ∙ sym (length-append (lists_of_sides rule vs) (lists_of_sides rule hs))
