-- Shares of a layout's columns.
use Rattle.std.proofs.Common.{◌≡◌, ◌∙◌, ◌≤◌, ◌+◌, ◌-◌, ◌*◌, ℕ, suc, Bool, true, false, cond, List, length, take, drop, Some, None, ap, sym, refl, subst, arith, rules}
use Rattle.std.specs.Prelude.{◌&&◌, nat_le, sum, All}
use Rattle.std.proofs.Math.Nat.{add-mul, mul-add, mul-le-mul_left, mul-le-mul_right}
use Rattle.std.proofs.lemmas.Bool.Decides.{nat_tests}
use Rattle.std.proofs.Math.Seq.{take-add}
use Rattle.std.proofs.lemmas.List.Sums.{sum_by-append}
use Rattle.mpw_firm_spread.specs.Ranges.{reach_of, border_of, share_of, SharesFollowOn}
use Rattle.mpw_firm_spread.specs.declared.range.Span.{Span}
use Rattle.mpw_firm_spread.proofs.Reach.{reach_none, reach_grows, reach_enough, reach_close, reach_all}

given : (b : Bool) (x one : Span) → cond b (Some x) None ≡ Some one → (b ≡ true) × (one ≡ x)
given true x one e = (refl, cc)
given false x one e = absurd cc

record IsShare (number count : ℕ) (costs : List ℕ) (one : Span) : Type 0 where
  first : 1 ≤ number
  last : number ≤ count
  begins : one.first ≡ border_of (number - 1) count costs
  ends : one.end ≡ border_of number count costs

share_is : (number count : ℕ) (costs : List ℕ) (one : Span) → share_of number count costs ≡ Some one
    → IsShare number count costs one
unfolding share_of
share_is number count costs one e =
    let is = given (nat_le 1 number && nat_le number count) (record {
      first = border_of (number - 1) count costs;
      end = border_of number count costs;
    }) one e in
    record {
      first = search (rules, nat_tests, is.0);
      last = search (rules, nat_tests, is.0);
      begins = ap (λ (s : Span). s.first) is.1;
      ends = ap (λ (s : Span). s.end) is.1;
    }

-- a share doesn't end before it begins
pub borders_grow : (less more count : ℕ) (costs : List ℕ) → less ≤ more
    → border_of less count costs ≤ border_of more count costs
borders_grow less more count costs h =
    reach_grows count (less * sum costs) (more * sum costs) costs
    (mul-le-mul_right (sum costs) h)

-- the costs from one column to another
between : (first many : ℕ) (costs : List ℕ)
    → sum (take first costs) + sum (take many (drop first costs)) ≡ sum (take (first + many) costs)
between first many costs =
    sym (ap (λ l. sum l) (take-add first many costs)
    ∙ sum_by-append (λ x. x) (take first costs) (take many (drop first costs)))

-- what a share costs, from the sums before its borders
share_costs : (before all most low high own : ℕ) (b : before * all ≤ low)
    → high ≤ suc before * all + most → low + own ≡ high → own ≤ all + most
share_costs before all most low high own b h e =
    let more = add-mul 1 before all in omega (arith, b, h, e, more)

shares_are_even : (number count most : ℕ) (costs : List ℕ) (one : Span)
    → All (λ cost. cost ≤ most) costs → share_of number count costs ≡ Some one
    → count * sum (take (one.end - one.first) (drop one.first costs)) ≤ sum costs + count * most
shares_are_even number count most costs one h e =
    let s = share_is number count costs one e in
    let own = sum (take (one.end - one.first) (drop one.first costs)) in
    let less : number - 1 ≤ number = omega arith in
    let grow = borders_grow (number - 1) number count costs less in
    let up : one.first + (one.end - one.first) ≡ one.end =
    omega (arith, grow, s.begins, s.ends) in
    let both : sum (take one.first costs) + own ≡ sum (take one.end costs) =
    between one.first (one.end - one.first) costs ∙ ap (λ n. sum (take n costs)) up in
    let times : count * sum (take one.first costs) + count * own ≡ count * sum
    (take one.end costs) =
    sym (mul-add count (sum (take one.first costs)) own) ∙ ap (λ n. count * n) both in
    let within : number - 1 ≤ count = omega (arith, s.last) in
    let low : (number - 1) * sum costs ≤ count * sum (take one.first costs) =
    subst (λ n. (number - 1) * sum costs ≤ count * sum (take n costs)) (sym s.begins)
    (reach_enough count ((number - 1) * sum costs) costs (mul-le-mul_right (sum costs) within)) in
    let high : count * sum (take one.end costs) ≤ number * sum costs + count * most =
    subst (λ n. count * sum (take n costs) ≤ number * sum costs + count * most) (sym s.ends)
    (reach_close count (number * sum costs) most costs h) in
    let one_more : suc (number - 1) ≡ number = omega (arith, s.first) in
    share_costs (number - 1) (sum costs) (count * most) (count * sum (take one.first costs))
    (count * sum (take one.end costs)) (count * own) low
    (subst (λ n. count * sum (take one.end costs) ≤ n * sum costs + count * most) (sym one_more)
    high)
    times

pub shares_follow_on : SharesFollowOn
shares_follow_on = record {
  begin = λ count costs one e. (let s = share_is 1 count costs one e in
      let none : (1 - 1) * sum costs ≡ 0 = omega arith in
      s.begins ∙ ap (λ n. reach_of count n costs) none ∙ reach_none count costs);
  follow = λ number count costs one next a b. (let s = share_is number count costs one a in
      let t = share_is (number + 1) count costs next b in
      let back : number + 1 - 1 ≡ number = omega arith in
      t.begins ∙ ap (λ n. border_of n count costs) back ∙ sym s.ends);
  finish = λ count costs one h e. (let s = share_is count count costs one e in
      s.ends ∙ reach_all count costs s.first h);
  even = λ number count most costs one h e. shares_are_even number count most costs one h e;
}
