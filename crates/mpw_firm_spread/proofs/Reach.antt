-- How many of the first columns it takes until their costs reach so much.
use Rattle.std.proofs.Common.{◌≡◌, ◌∙◌, ◌≤◌, ◌<◌, ◌+◌, ◌-◌, ◌*◌, ℕ, zero, suc, List, [], ◌∷◌, length, take, drop, get_or, ap, sym, refl, subst, arith}
use Rattle.std.specs.Prelude.{sum, All}
use Rattle.std.proofs.Math.Nat.{mul-add, mul-le-mul_left}
use Rattle.std.proofs.lemmas.List.{at_drop_more, at_drop_all}
use Rattle.std.proofs.lemmas.List.Elements.{All-head, All-tail}
use Rattle.std.proofs.lemmas.List.Sums.{sum_by-cons}
use Rattle.mpw_firm_spread.specs.Ranges.{reach_of}

sum_cons : (cost : ℕ) (costs : List ℕ) → sum (cost ∷ costs) ≡ cost + sum costs
sum_cons cost costs = sum_by-cons (λ x. x) cost costs

-- the same, each as often
times_cons : (count cost : ℕ) (costs : List ℕ)
    → count * sum (cost ∷ costs) ≡ count * cost + count * sum costs
times_cons count cost costs =
    ap (λ n. count * n) (sum_cons cost costs) ∙ mul-add count cost (sum costs)

-- ---- one step of the loop

pub reach_none : (count : ℕ) (costs : List ℕ) → reach_of count 0 costs ≡ 0
unfolding reach_of
reach_none count costs = refl

reach_cons : (count wanted cost : ℕ) (costs : List ℕ) → 1 ≤ wanted
    → reach_of count wanted (cost ∷ costs) ≡ suc (reach_of count (wanted - count * cost) costs)
unfolding reach_of
reach_cons count zero cost costs some = absurd (omega (arith, some))
reach_cons count (suc wanted) cost costs some = refl

reach_empty : (count wanted : ℕ) → reach_of count wanted [] ≡ 0
unfolding reach_of
reach_empty count zero = refl
reach_empty count (suc wanted) = refl

pub reach_step : (count wanted : ℕ) (costs : List ℕ) (i d : ℕ) → 1 ≤ wanted → i < length costs
    → i + reach_of count wanted (drop i costs)
    ≡ (i + 1) + reach_of count (wanted - count * get_or costs i d) (drop (i + 1) costs)
reach_step count wanted costs i d some less =
    let more = at_drop_more (reach_of count wanted) costs i d less in
    let step = reach_cons count wanted (get_or costs i d) (drop (i + 1) costs) some in
    omega (arith, more, step)

pub reach_end : (count wanted : ℕ) (costs : List ℕ) (i : ℕ) → length costs ≤ i
    → reach_of count wanted (drop i costs) ≡ 0
reach_end count wanted costs i beyond =
    at_drop_all (reach_of count wanted) costs i beyond ∙ reach_empty count wanted

-- ---- what the costs of these columns are

pub reach_within : (count wanted : ℕ) (costs : List ℕ) → reach_of count wanted costs ≤ length costs
unfolding reach_of
reach_within count zero costs = omega arith
reach_within count (suc wanted) [] = omega arith
reach_within count (suc wanted) (cost ∷ costs) =
    let more = reach_within count (suc wanted - count * cost) costs in omega (arith, more)

pub reach_grows : (count less more : ℕ) (costs : List ℕ) → less ≤ more
    → reach_of count less costs ≤ reach_of count more costs
unfolding reach_of
reach_grows count zero more costs h = omega arith
reach_grows count (suc less) zero costs h = absurd (omega (arith, h))
reach_grows count (suc less) (suc more) [] h = omega arith
reach_grows count (suc less) (suc more) (cost ∷ costs) h =
    let step = reach_grows count (suc less - count * cost) (suc more - count * cost) costs
    (omega (arith, h)) in omega (arith, step)

-- they are at least so much, if all columns together are
pub reach_enough : (count wanted : ℕ) (costs : List ℕ) → wanted ≤ count * sum costs
    → wanted ≤ count * sum (take (reach_of count wanted costs) costs)
unfolding reach_of
reach_enough count zero costs h = omega arith
reach_enough count (suc wanted) [] h = h
reach_enough count (suc wanted) (cost ∷ costs) h =
    let left = suc wanted - count * cost in
    let all = times_cons count cost costs in
    let step = reach_enough count left costs (omega (arith, h, all)) in
    let taken = times_cons count cost (take (reach_of count left costs) costs) in
    omega (arith, step, taken)

none_taken : (count left : ℕ) (costs : List ℕ) → left ≡ 0
    → count * sum (take (reach_of count left costs) costs) ≡ 0
none_taken count left costs none =
    let nothing : sum (take 0 costs) ≡ 0 = refl in
    ap (λ n. count * sum (take n costs))
    (ap (λ n. reach_of count n costs) none ∙ reach_none count costs)
    ∙ ap (λ n. count * n) nothing ∙ omega arith

by_left : (wanted cost most taken left : ℕ) → left ≡ suc wanted - cost → (left ≡ 0 → taken ≡ 0)
    → taken ≤ left + most → cost ≤ most → cost + taken ≤ suc wanted + most
by_left wanted cost most taken zero is none step one =
    let t = none refl in omega (arith, is, t, one)
by_left wanted cost most taken (suc left) is none step one = omega (arith, is, step, one)

-- and more by at most one column
pub reach_close : (count wanted most : ℕ) (costs : List ℕ) → All (λ cost. cost ≤ most) costs
    → count * sum (take (reach_of count wanted costs) costs) ≤ wanted + count * most
unfolding reach_of
reach_close count zero most costs h = omega arith
reach_close count (suc wanted) most [] h = omega arith
reach_close count (suc wanted) most (cost ∷ costs) h =
    let left = suc wanted - count * cost in
    let one = mul-le-mul_left count (All-head (λ cost. cost ≤ most) cost costs h) in
    let step = reach_close count left most costs (All-tail (λ cost. cost ≤ most) cost costs h) in
    let rest = take (reach_of count left costs) costs in
    let taken = times_cons count cost rest in
    let both = by_left wanted (count * cost) (count * most) (count * sum rest) left refl
    (none_taken count left costs) step one in
    omega (arith, taken, both)

-- all columns, if each costs something
pub reach_all : (count : ℕ) (costs : List ℕ) → 1 ≤ count → All (λ cost. 1 ≤ cost) costs
    → reach_of count (count * sum costs) costs ≡ length costs
reach_all count [] some h = reach_empty count (count * sum [])
reach_all count (cost ∷ costs) some h =
    let all = times_cons count cost costs in
    let each = mul-le-mul_left count (All-head (λ cost. 1 ≤ cost) cost costs h) in
    let step = reach_all count costs some (All-tail (λ cost. 1 ≤ cost) cost costs h) in
    let wanted = count * sum (cost ∷ costs) in
    let left : wanted - count * cost ≡ count * sum costs = omega (arith, all) in
    reach_cons count wanted cost costs (omega (arith, all, each, some))
    ∙ ap suc (ap (λ n. reach_of count n costs) left ∙ step)
