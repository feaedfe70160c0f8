-- Answers to the goals of `spans_missed` in `src/skip.rt`.
use Rattle.std.proofs.Common.{rules, ◌≡◌, ◌*ℤ◌, ◌-ℤ◌, ◌<ℤ◌, pos, neg_ℤ, w64, arith, SFits, subst}
use Rattle.std.specs.Prelude.{unsigned_abs}
use Rattle.std.proofs.lemmas.Int.{ints, to_z-of_z}
use Rattle.mpw_walk.proofs.Skipping.{below_misses, above_misses}
use Rattle.mpw_walk.proofs.skip.spans_missed.Goals as goal

pub returns-then-there-window-clause-missed : goal.returns-then-there-window-clause-missed
returns-then-there-window-clause-missed c =
    let f : SFits w64 c.args.step = c.ranges.step in
    let a : SFits w64 c.args.there.high = search rules in
    let b : SFits w64 c.args.window.low = search rules in
    let h : c.args.there.high <ℤ c.args.window.low =
    (let e = c.if-there-window.true in omega (arith, ints)) in
    let gap : c.abs_diff.result ≡ unsigned_abs (c.args.window.low -ℤ c.args.there.high) =
    simp to_z-of_z at c.abs_diff.ensures in
    λ k lt.
    let short : (pos k *ℤ c.args.step) <ℤ pos c.abs_diff.result =
    simp to_z-of_z at (c.steps_short.ensures.short k lt) in
    below_misses c.args.there c.args.window c.args.step k h
    (subst (λ n. (pos k *ℤ c.args.step) <ℤ pos n) gap short)

pub returns-then-window-there-clause-missed : goal.returns-then-window-there-clause-missed
returns-then-window-there-clause-missed c =
    let f : SFits w64 c.args.step = c.ranges.step in
    let a : SFits w64 c.args.there.low = search rules in
    let b : SFits w64 c.args.window.high = search rules in
    let back : SFits w64 (pos 0 -ℤ c.args.step) =
    omega (arith, ints, c.requires.low, c.requires.high) in
    let same : pos 0 -ℤ c.args.step ≡ neg_ℤ c.args.step = omega (arith, ints) in
    let h : c.args.window.high <ℤ c.args.there.low =
    (let e = c.if-window-there.true in omega (arith, ints)) in
    let gap : c.abs_diff-then-window-there.result
    ≡ unsigned_abs (c.args.there.low -ℤ c.args.window.high) =
    simp to_z-of_z at c.abs_diff-then-window-there.ensures in
    λ k lt.
    let short : (pos k *ℤ (pos 0 -ℤ c.args.step)) <ℤ pos c.abs_diff-then-window-there.result =
    simp to_z-of_z at (c.steps_short-then-window-there.ensures.short k lt) in
    above_misses c.args.there c.args.window c.args.step k h
    (subst (λ z. (pos k *ℤ z) <ℤ pos (unsigned_abs (c.args.there.low -ℤ c.args.window.high))) same
    (subst (λ n. (pos k *ℤ (pos 0 -ℤ c.args.step)) <ℤ pos n) gap short))
