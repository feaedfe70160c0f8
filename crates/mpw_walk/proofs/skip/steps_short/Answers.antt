-- Answers to the goals of `steps_short` in `src/skip.rt`.
use Rattle.std.proofs.Common.{◌≡◌, ◌-◌, ◌/◌, ◌<ℤ◌, pos, ap, w64, arith, SFits}
use Rattle.std.specs.Prelude.{unsigned_abs}
use Rattle.std.proofs.lemmas.Int.{ints, to_z-of_z}
use Rattle.mpw_walk.proofs.Skipping.{short_on}
use Rattle.mpw_walk.proofs.skip.steps_short.Goals as goal

pub returns-then-steps-from-clause-short : goal.returns-then-steps-from-clause-short
returns-then-steps-from-clause-short c =
    let f : SFits w64 c.args.step = c.ranges.step in
    let h : pos 0 <ℤ c.args.step = (let e = c.if-step-le0.false in omega (arith, ints)) in
    let size : c.unsigned_abs.result ≡ unsigned_abs c.args.step =
    simp to_z-of_z at c.unsigned_abs.ensures.value in
    let same = ap (λ s. (c.args.gap - 1) / s) size in
    λ k lt. short_on c.args.gap k _ c.args.step h c.requires (omega (arith, same)) lt

pub returns-else-steps-from-clause-short : goal.returns-else-steps-from-clause-short
returns-else-steps-from-clause-short c =
    let f : SFits w64 c.args.step = c.ranges.step in
    let h : pos 0 <ℤ c.args.step = (let e = c.if-step-le0.false in omega (arith, ints)) in
    let size : c.unsigned_abs.result ≡ unsigned_abs c.args.step =
    simp to_z-of_z at c.unsigned_abs.ensures.value in
    let same = ap (λ s. (c.args.gap - 1) / s) size in
    let few = c.if-steps-from.false in
    λ k lt. short_on c.args.gap k c.args.most c.args.step h c.requires
    (omega (arith, same, few, c.from.ensures)) lt
