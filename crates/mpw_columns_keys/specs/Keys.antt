-- The keys of columns, and their lists, joined in the order of a book.
use Rattle.std.specs.Prelude.{◌≡◌, ◌+◌, ◌*◌, ◌==◌, ◌^◌, ◌&&◌, ℕ, zero, suc, ℤ, pos, neg_ℤ, ◌+ℤ◌, ◌≤ℤ◌, Bool, true, List, [], ◌∷◌, ◌++◌, filter, AllPairs}
use Rattle.std.specs.List.{flat_map}
use Rattle.std.specs.Ordering.{nat_cmp, int_cmp, ordering_then, is_lt}
use Rattle.std.specs.declared.cmp.Ordering.{Ordering}
use Rattle.std.specs.declared.cmp.Ordering.TheVariants.{Less}
use Rattle.mpw_markers.specs.declared.marker.Key.{Key}
use Rattle.mpw_markers.specs.declared.marker.Marker.{Marker}

-- The number of the key's list among those of its axis: two for each rule, one for each side.
abbrev pub list_number : Key → ℕ
list_number k = 2 * k.rule + k.piece.side

-- Keys of one axis by the number of their list, x1, x2 and y0.
abbrev pub key_cmp : Key → Key → Ordering
key_cmp k l = ordering_then (nat_cmp (list_number k) (list_number l))
    (ordering_then (int_cmp k.piece.x1 l.piece.x1)
    (ordering_then (int_cmp k.piece.x2 l.piece.x2) (int_cmp k.piece.y0 l.piece.y0)))

abbrev pub AreInOrder : List Key → Type 0
AreInOrder keys = AllPairs (λ k l. key_cmp k l ≡ Less) keys

-- The same as a test: each comes before the next one.
abbrev pub comes_before_next : Key → List Key → Bool
comes_before_next k [] = true
comes_before_next k (l ∷ ls) = is_lt (key_cmp k l)

abbrev pub are_in_order : List Key → Bool
are_in_order [] = true
are_in_order (k ∷ ks) = comes_before_next k ks && are_in_order ks

-- ---- displaced

-- The key, displaced across its edges.
abbrev pub displaced_key : ℤ → Key → Key
displaced_key by k =
    record k { piece = record k.piece { x1 = k.piece.x1 +ℤ by; x2 = k.piece.x2 +ℤ by } }

-- The number is within bounds: an edge that a column finds, or the distance of two columns.
pub record IsNear (x : ℤ) : Type 0 where
  pub low : neg_ℤ (pos (2 ^ 41)) ≤ℤ x
  pub high : x ≤ℤ pos (2 ^ 41)

-- Both of the key's edges are within bounds.
pub record HasNearEdges (k : Key) : Type 0 where
  pub first : IsNear k.piece.x1
  pub second : IsNear k.piece.x2

-- ---- together

-- The list with that number: those of the columns, one after another.
abbrev pub is_of_list : ℕ → Key → Bool
is_of_list n k = list_number k == n

abbrev pub list_of : ℕ → List (List Key) → List Key
list_of n lists = flat_map (filter (is_of_list n)) lists

-- The lists of a rule: on an axis those of side 0 and of side 1; those of axis V, and then those of axis H.
abbrev pub lists_of_sides : ℕ → List (List Key) → List Key
lists_of_sides rule lists = list_of (2 * rule) lists ++ list_of (2 * rule + 1) lists

abbrev pub lists_of_rule : (upright across : List (List Key)) → ℕ → List Key
lists_of_rule upright across rule = lists_of_sides rule upright ++ lists_of_sides rule across

-- The lists of the first n rules, one rule after another.
abbrev pub together : ℕ → (upright across : List (List Key)) → List Key
together zero upright across = []
together (suc n) upright across = together n upright across ++ lists_of_rule upright across n

-- The marker of the key, which touches only the first submission.
abbrev pub of_first : Key → Marker
of_first k = record { key = k; met = 0 ∷ [] }
