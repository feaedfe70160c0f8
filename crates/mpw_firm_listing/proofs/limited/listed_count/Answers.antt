-- Answers to the goals of `listed_count` in `src/limited.rt`.
use Rattle.std.proofs.Common.{◌≡◌, ◌∙◌, ◌+◌, ◌-◌, ◌^◌, ℕ, take, sym, ap, arith}
use Rattle.std.specs.Prelude.{min, sum_by}
use Rattle.std.specs.List.{enumerate_from}
use Rattle.mpw_firm_listing.specs.Limited.{limited_of, listed_count, listed_of}
use Rattle.mpw_firm_listing.proofs.Rows.{sum_all, sum_more}
use Rattle.mpw_firm_listing.proofs.limited.listed_count.Goals as goal

-- One more, up to the most.
clamped : (count sum more next most : ℕ) → count ≡ min sum most → next ≡ sum + more
    → min (count + more) most ≡ min next most
clamped count sum more next most a b = omega (arith, a, b)

pub loop-place-preserved : goal.loop-place-preserved
loop-place-preserved c =
    let l = limited_of c.args.listing.now in
    let rules = c.args.listing.now.rules.now in
    let i = c.loop-place.place in
    let rule = c.rule-item.result in
    let more = sum_more (listed_of l) rules i rule c.loop-place-test.true
    ∙ ap (λ r. sum_by (listed_of l) (take i (enumerate_from 0 rules)) + listed_of l (i, r)) (sym c.rule-item.is) in
    c.saturating_add-count.ensures
    ∙ ap (λ n. min (c.loop-place.count + n) (2 ^ 64 - 1)) c.listed_of.ensures
    ∙ clamped c.loop-place.count (sum_by (listed_of l) (take i (enumerate_from 0 rules)))
    (listed_of l (i, rule)) (sum_by (listed_of l) (take (i + 1) (enumerate_from 0 rules)))
    (2 ^ 64 - 1) c.loop-place.invariant more

pub returns : goal.returns
unfolding listed_count
returns c =
    c.loop-place.invariant
    ∙ ap (λ n. min n (2 ^ 64 - 1)) (sum_all (listed_of (limited_of c.args.listing.now))
    c.args.listing.now.rules.now c.loop-place.place c.loop-place-test.false)
