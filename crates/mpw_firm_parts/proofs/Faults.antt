-- Why parts don't follow on: a column that none has, or that more than one has.
use Rattle.std.proofs.Common.{◌≡◌, ◌∙◌, ◌<◌, ◌≤◌, ◌+◌, inl, inr, ℕ, Bool, true, false, cond, List, [], ◌∷◌, ◌++◌, length, take, drop, get_or, refl, sym, ap, subst, arith, rules, append_assoc}
use Rattle.std.specs.Prelude.{All, nat_lt}
use Rattle.std.specs.List.Sorted.{IsPermutation, IsSortedByKey}
use Rattle.std.specs.Fn.{Called, ComputesKey}
use Rattle.std.specs.Ordering.{nat_cmp, is_lt}
use denote.Param.Members.{Mut}
use denote.Ref.{Bor}
use Rattle.std.proofs.lemmas.Bool.{cases_lt}
use Rattle.std.proofs.lemmas.Bool.Decides.{nat_tests}
use Rattle.std.proofs.lemmas.Cmp.{nat_cmp_total}
use Rattle.std.proofs.lemmas.Fn.{always_returns_same}
use Rattle.std.proofs.lemmas.List.{get_or-drop, get_or_default, length-drop, take_more, take-append-drop}
use Rattle.std.proofs.lemmas.List.Elements.{All-head, All-tail}
use Rattle.std.proofs.lemmas.List.Sorted.{All-permutation, sorted_far, ranks_by, sum_by-IsPermutation}
use Rattle.std.proofs.lemmas.List.Sums.{sum_by-cons, sum_by-append}
use Rattle.mpw_firm_parts.specs.Parts.{Found}
use Rattle.mpw_firm_parts.specs.Stitching.{BeginsAt, FollowOn, has_column, holders, IsOfColumns}
use Rattle.mpw_firm_parts.specs.Internal.Stitching.{AreInOrder, fault_at}
use Rattle.mpw_firm_parts.specs.declared.fault.PartsFault.{PartsFault}
use Rattle.mpw_firm_parts.specs.declared.fault.PartsFault.TheVariants as faults

-- ---- one part

abbrev one : Bool → ℕ
one b = cond b 1 0

abbrev count : ℕ → Found → ℕ
count column part = one (has_column column part)

has_it : (column : ℕ) (part : Found) → part.first ≤ column → column < part.first + length part.lists
    → has_column column part ≡ true
has_it column part low high = search (rules, nat_tests)

lacks_below : (column : ℕ) (part : Found) → column < part.first → has_column column part ≡ false
lacks_below column part low = search (rules, nat_tests)

lacks_past : (column : ℕ) (part : Found) → part.first + length part.lists ≤ column
    → has_column column part ≡ false
lacks_past column part past = search (rules, nat_tests)

counted : (b : Bool) → b ≡ true → one b ≡ 1
counted b e = rw e refl

uncounted : (b : Bool) → b ≡ false → one b ≡ 0
uncounted b e = rw e refl

-- a part from a column on has the columns up to where it ends
begun : (from : ℕ) (part : Found) (column : ℕ) → BeginsAt from part → from ≤ column
    → column < from + length part.lists → count column part ≡ 1
begun from part column (inl begins) low high =
    counted (has_column column part)
    (has_it column part (omega (arith, begins)) (omega (arith, begins)))
begun from part column (inr none) low high =
    absurd (let empty : length part.lists ≡ 0 = ap length none in omega (arith, empty))

-- and none after
ended : (from : ℕ) (part : Found) (column : ℕ) → BeginsAt from part
    → from + length part.lists ≤ column
    → count column part ≡ 0
ended from part column (inl begins) past =
    uncounted (has_column column part) (lacks_past column part (omega (arith, begins)))
ended from part column (inr none) past =
    let empty : length part.lists ≡ 0 = ap length none in
    uncounted (has_column column part) (elim (cases_lt column part.first) [
      | inl below ↦ lacks_below column part below
      | inr from ↦ lacks_past column part (omega (arith, empty))
    ])

-- ---- parts that follow on

pub covered : (from : ℕ) (parts : List Found) (end column : ℕ) → FollowOn from parts end
    → from ≤ column → column < end → 1 ≤ holders column parts
covered from [] end column so low high = absurd (omega (arith, so))
covered from (p ∷ ps) end column so low high =
    let split = sum_by-cons (count column) p ps in
    elim (cases_lt column (from + length p.lists)) [
      | inl inside ↦ let own = begun from p column so.0 low inside in omega (arith, split, own)
      | inr past ↦
          let rest = covered (from + length p.lists) ps end column so.1 past high in
          omega (arith, split, rest)
    ]

pub none_past : (from : ℕ) (parts : List Found) (end column : ℕ) → FollowOn from parts end
    → end ≤ column → (from ≤ end) × (holders column parts ≡ 0)
none_past from [] end column so past = (omega (arith, so), refl)
none_past from (p ∷ ps) end column so past =
    let split = sum_by-cons (count column) p ps in
    let rest = none_past (from + length p.lists) ps end column so.1 past in
    let grows = rest.0 in
    let without = rest.1 in
    let own = ended from p column so.0 (omega (arith, grows)) in
    (omega (arith, grows), omega (arith, split, own, without))

none_later : (column : ℕ) (parts : List Found) → All (λ (p : Found). column < p.first) parts
    → holders column parts ≡ 0
none_later column [] later = refl
none_later column (p ∷ ps) later =
    let split = sum_by-cons (count column) p ps in
    let own = uncounted (has_column column p)
    (lacks_below column p (All-head (λ (p : Found). column < p.first) p ps later)) in
    let rest = none_later column ps (All-tail (λ (p : Found). column < p.first) p ps later) in
    omega (arith, split, own, rest)

-- ---- a part that doesn't follow on

some_list : {X : Type 0} (xs : List X) → (xs ≡ [] → ⊥) → 0 < length xs
some_list [] none = absurd (none refl)
some_list (x ∷ xs) none = omega arith

by_test : (b : Bool) (columns n first : ℕ) (parts : List Found)
    → (b ≡ true → 2 ≤ holders first parts)
    → (b ≡ false → (n < columns) × (holders n parts ≡ 0))
    → IsOfColumns columns parts (cond b (faults.Doubled first) (faults.Missing n))
by_test true columns n first parts doubled missing = doubled refl
by_test false columns n first parts doubled missing = missing refl

fault_there : (columns : ℕ) (front : List Found) (part : Found) (rest : List Found) (n : ℕ)
    → FollowOn 0 front n → (BeginsAt n part → ⊥)
    → All (λ (q : Found). part.first ≤ q.first) rest → part.first + length part.lists ≤ columns
    → IsOfColumns columns (front ++ part ∷ rest) (fault_at n part.first)
fault_there columns front part rest n so begins later within =
    by_test (nat_lt part.first n) columns n part.first (front ++ part ∷ rest) doubled missing
  where
    some : 0 < length part.lists
    some = some_list part.lists (λ none. begins (inr none))

    all : (column : ℕ) → holders column (front ++ part ∷ rest)
        ≡ holders column front + (count column part + holders column rest)
    all column = sum_by-append (count column) front (part ∷ rest)
        ∙ ap (λ n. holders column front + n) (sum_by-cons (count column) part rest)

    doubled : nat_lt part.first n ≡ true → 2 ≤ holders part.first (front ++ part ∷ rest)
    doubled e =
        let before : part.first < n = search (rules, nat_tests, e) in
        let split = all part.first in
        let held = covered 0 front n part.first so (omega arith) before in
        let own = counted (has_column part.first part)
        (has_it part.first part (omega arith) (omega (arith, some))) in
        omega (arith, split, held, own)

    missing : nat_lt part.first n ≡ false
        → (n < columns) × (holders n (front ++ part ∷ rest) ≡ 0)
    missing e =
        let behind : n ≤ part.first = search (rules, nat_tests, e) in
        let apart : part.first ≡ n → ⊥ = λ same. begins (inl same) in
        let past : n < part.first = omega (arith, behind, apart) in
        let split = all n in
        let held = (none_past 0 front n n so (omega arith)).1 in
        let own = uncounted (has_column n part) (lacks_below n part past) in
        let behind_it = none_later n rest (λ k d l. (let q = later k d l in omega (arith, past, q)))
        in
        (omega (arith, past, within), omega (arith, split, held, own, behind_it))

parted : (parts : List Found) (i : ℕ) (part : Found) → i < length parts → get_or parts i part ≡ part
    → take i parts ++ part ∷ drop (i + 1) parts ≡ parts
parted parts i part less at =
    let taken : take (i + 1) parts ≡ take i parts ++ part ∷ [] = take_more parts i part less
    ∙ ap (λ p. take i parts ++ p ∷ []) at in
    sym (append_assoc (take i parts) (part ∷ []) (drop (i + 1) parts))
    ∙ ap (λ front. front ++ drop (i + 1) parts) (sym taken)
    ∙ take-append-drop (i + 1) parts

later_parts : (parts : List Found) (i : ℕ) (part : Found) → AreInOrder parts → i < length parts
    → get_or parts i part ≡ part
    → All (λ (q : Found). part.first ≤ q.first) (drop (i + 1) parts)
later_parts parts i part ordered less at k d l =
    let long = length-drop (i + 1) parts in
    let inside : i + 1 + k < length parts = omega (arith, l, long) in
    let own : get_or parts i d ≡ part = get_or_default parts i d part less ∙ at in
    subst (λ (p : Found). p.first ≤ (get_or (drop (i + 1) parts) k d).first) own
    (subst (λ (q : Found). (get_or parts i d).first ≤ q.first)
    (sym (get_or-drop (i + 1) parts k d))
    (ordered i (i + 1 + k) d (omega arith) inside))

-- The part at a place is the first that doesn't follow on.
pub fault_here : (columns : ℕ) (parts : List Found) (i : ℕ) (part : Found) (n : ℕ)
    → AreInOrder parts
    → i < length parts → get_or parts i part ≡ part → FollowOn 0 (take i parts) n
    → (BeginsAt n part → ⊥) → part.first + length part.lists ≤ columns
    → IsOfColumns columns parts (fault_at n part.first)
fault_here columns parts i part n ordered less at so begins within =
    subst (λ ps. IsOfColumns columns ps (fault_at n part.first)) (parted parts i part less at)
    (fault_there columns (take i parts) part (drop (i + 1) parts) n so begins
    (later_parts parts i part ordered less at) within)

-- Parts that end before the last column have none from there on.
pub ends_early : (columns : ℕ) (parts : List Found) (n : ℕ) → FollowOn 0 parts n → n < columns
    → IsOfColumns columns parts (faults.Missing n)
ends_early columns parts n so less = (less, (none_past 0 parts n n so (omega arith)).1)

-- ---- in any order

pub own_columns : (columns : ℕ) (parts ordered : List Found) → IsPermutation parts ordered
    → All (λ (p : Found). p.subject.columns ≡ columns) parts
    → All (λ (p : Found). p.subject.columns ≡ columns) ordered
own_columns columns parts ordered permuted own =
    All-permutation (λ (p : Found). p.subject.columns ≡ columns) parts ordered permuted own

same_holders : (column : ℕ) (parts ordered : List Found) → IsPermutation parts ordered
    → holders column ordered ≡ holders column parts
same_holders column parts ordered permuted =
    sum_by-IsPermutation (count column) parts ordered permuted

pub of_columns_again : (columns : ℕ) (parts ordered : List Found) (fault : PartsFault)
    → IsPermutation parts ordered → IsOfColumns columns ordered fault
    → IsOfColumns columns parts fault
of_columns_again columns parts ordered (faults.Missing column) permuted of =
    (of.0, sym (same_holders column parts ordered permuted) ∙ of.1)
of_columns_again columns parts ordered (faults.Doubled column) permuted of =
    subst (λ n. 2 ≤ n) (same_holders column parts ordered permuted) of
of_columns_again columns parts ordered faults.Memory permuted of = absurd of
of_columns_again columns parts ordered faults.NoPart permuted of = absurd of
of_columns_again columns parts ordered (faults.Other place what) permuted of = absurd of
of_columns_again columns parts ordered (faults.NoRule place) permuted of = absurd of
of_columns_again columns parts ordered faults.Apart permuted of = absurd of
of_columns_again columns parts ordered faults.NoBook permuted of = absurd of

-- ---- the order of a sort

not_after : (x y : ℕ) → is_lt (nat_cmp y x) ≡ false → x ≤ y
not_after x y e = grind (arith, nat_tests)

ordered_from_sort : (parts : List Found) → IsSortedByKey (λ (p : Found). p.first) nat_cmp parts
    → AreInOrder parts
ordered_from_sort parts sorted i j d l b =
    not_after (get_or parts i d).first (get_or parts j d).first
    (sorted_far (λ (x y : Found). is_lt (nat_cmp x.first y.first))
    (ranks_by nat_cmp_total (λ (p : Found). p.first)) parts sorted i j d (omega arith) b)

pub ordered_from_sort_by_key : {F : Type 0} {g : Mut F (Bor Found × Unit {0}) ℕ} {f : F}
    (parts : List Found) → ((key : Found → ℕ) → ComputesKey g key f
    → IsSortedByKey key nat_cmp parts)
    → ((a : Bor Found × Unit {0}) (r : ℕ) (f' : F) → Called g f a r f'
    → (r ≡ a.0.now.first) × (f' ≡ f)) → AreInOrder parts
ordered_from_sort_by_key {g = g} {f = f} parts up h =
    ordered_from_sort parts (up (λ (p : Found). p.first)
    (always_returns_same g (λ a r. r ≡ a.0.now.first) f h))
