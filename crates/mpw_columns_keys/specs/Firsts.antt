-- The first keys of each list of a column, with how many keys it has; and the lists of columns that share them, displaced.
use Rattle.std.specs.Prelude.{◌≡◌, ◌+◌, ◌*◌, ◌-◌, ◌<◌, ◌^◌, ◌==◌, ℕ, zero, suc, List, [], ◌++◌, length, map, take, filter, min, sum_by, get_or, All, Option, None, Some, slice_get}
use Rattle.std.specs.List.{AllZip, flat_map, range_with_len}
use Rattle.mpw_markers.specs.declared.marker.Key.{Key}
use Rattle.mpw_markers.specs.declared.marker.Marker.{Marker}
use Rattle.mpw_columns_keys.specs.Keys.{displaced_key, is_of_list, of_first, together, HasNearEdges}
use Rattle.mpw_columns_keys.specs.declared.first.First.{First}
use Rattle.mpw_columns_keys.specs.declared.first.Firsts.{Firsts}
use Rattle.mpw_columns_keys.specs.declared.placed.Placed.{Placed}
use Rattle.mpw_columns_keys.specs.declared.placed.Together.{Together}

-- ---- of a column

-- The first keys of a list, at most `most`, and how many keys it has.
pub record IsFirst (most : ℕ) (list : List Key) (f : First) : Type 0 where
  pub keys : f.keys.items ≡ take most list
  pub count : f.count ≡ length list

-- The first keys of each of the first `lists` lists of a column's keys.
pub record AreFirsts (most lists : ℕ) (keys : List Key) (f : Firsts) : Type 0 where
  pub long : length f.lists.items ≡ lists
  pub each : (n : ℕ) (d : First) → n < lists
      → IsFirst most (filter (is_of_list n) keys) (get_or f.lists.items n d)

-- All keys are within bounds.
abbrev pub AreNear : Firsts → Type 0
AreNear f = All (λ first. All HasNearEdges first.keys.items) f.lists.items

-- ---- of columns

-- The first keys of that list of a column, and how many keys it has: none if there is no such list.
abbrev pub first_in : Option Firsts → ℕ → Option First
first_in None n = None
first_in (Some f) n = slice_get f.lists.items n

abbrev pub keys_in : Option First → List Key
keys_in None = []
keys_in (Some first) = first.keys.items

abbrev pub count_in : Option First → ℕ
count_in None = 0
count_in (Some first) = first.count

abbrev pub placed_keys : List Firsts → ℕ → Placed → List Key
placed_keys firsts n p =
    map (displaced_key p.by) (keys_in (first_in (slice_get firsts p.list) n))

abbrev pub placed_count : List Firsts → ℕ → Placed → ℕ
placed_count firsts n p = count_in (first_in (slice_get firsts p.list) n)

-- The lists of a rule: on an axis those of side 0 and of side 1; those of axis V, and then those of axis H.
abbrev pub sides_placed : List Firsts → ℕ → List Placed → List Key
sides_placed firsts rule placed =
    flat_map (placed_keys firsts (2 * rule)) placed
    ++ flat_map (placed_keys firsts (2 * rule + 1)) placed

abbrev pub rule_placed : List Firsts → (upright across : List Placed) → ℕ → List Key
rule_placed firsts upright across rule =
    sides_placed firsts rule upright ++ sides_placed firsts rule across

-- The first of each of the first n rules, one rule after another.
abbrev pub first_placed : (most : ℕ) → List Firsts → (upright across : List Placed) → ℕ → List Key
first_placed most firsts upright across zero = []
first_placed most firsts upright across (suc n) =
    first_placed most firsts upright across n ++ take most (rule_placed firsts upright across n)

-- The first of these keys, as many as there is room for, are added as markers, and the room is reduced by as many.
pub record AddsFirst (keys : List Key) (old new : Together) : Type 0 where
  pub added : new.markers.items ≡ old.markers.items ++ map of_first (take old.room keys)
  pub left : new.room ≡ old.room - length keys

-- How many there are, up to the greatest number of 64 bits.
abbrev pub capped : ℕ → ℕ
capped n = min n (2 ^ 64 - 1)

abbrev pub sides_counted : List Firsts → ℕ → List Placed → ℕ
sides_counted firsts rule placed =
    sum_by (placed_count firsts (2 * rule)) placed
    + sum_by (placed_count firsts (2 * rule + 1)) placed

abbrev pub rule_counted : List Firsts → (upright across : List Placed) → ℕ → ℕ
rule_counted firsts upright across rule =
    sides_counted firsts rule upright + sides_counted firsts rule across

-- ---- how they relate to the columns' lists

-- The column's keys are other keys, displaced, of which these are the first.
pub record IsListed (most lists : ℕ) (firsts : List Firsts) (p : Placed) (keys : List Key) : Type 0
  where
    pub own : List Key
    pub f : Firsts
    pub at : slice_get firsts p.list ≡ Some f
    pub are : AreFirsts most lists own f
    pub displaced : keys ≡ map (displaced_key p.by) own

-- Each key is of one of the two sides.
abbrev pub HasSide : Key → Type 0
HasSide k = k.piece.side < 2

-- ---- markers by rule

-- The markers of the rule at that index in the deck.
abbrev pub of_rule : List Marker → ℕ → List Marker
of_rule markers place = filter (λ m. m.key.rule == place) markers

-- The first markers of each rule, at most `most`, are the same.
abbrev pub AgreeFirst : (most : ℕ) → List Marker → List Marker → Type 0
AgreeFirst most a b = (place : ℕ) → take most (of_rule a place) ≡ take most (of_rule b place)

-- How many markers each of the first `rules` rules has, and how many there are.
abbrev pub counts_of : (rules : ℕ) → List Marker → List ℕ
counts_of rules markers =
    map (λ place. capped (length (of_rule markers place))) (range_with_len 0 rules)

-- The markers are the first of each rule of the book, at most `most` of a rule, and the numbers are those of the book's.
pub record AreFirstOf (most rules : ℕ) (book first : List Marker) (counts : List ℕ) (all : ℕ) :
    Type 0
  where
    pub first_are : AgreeFirst most first book
    pub few : (place : ℕ) → take most (of_rule first place) ≡ of_rule first place
    pub counts_are : counts ≡ counts_of rules book
    pub all_is : all ≡ capped (length book)

-- ---- law

-- What is joined from the first keys is the first of each rule of what is joined from all.
abbrev pub SharedListsHaveTheFirst : Type 0
SharedListsHaveTheFirst =
    (most rules : ℕ) (firsts : List Firsts) (upright across : List Placed) (vs hs : List (List Key))
    → AllZip (IsListed most (2 * rules) firsts) upright vs
    → AllZip (IsListed most (2 * rules) firsts) across hs
    → All (All HasSide) vs → All (All HasSide) hs
    → AreFirstOf most rules (map of_first (together rules vs hs))
    (map of_first (first_placed most firsts upright across rules))
    (map (λ rule. capped (rule_counted firsts upright across rule)) (range_with_len 0 rules))
    (capped (sum_by (rule_counted firsts upright across) (range_with_len 0 rules)))
