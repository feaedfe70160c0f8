-- Answers to the goals of `places_met` in `src/fit.rt`.
use Rattle.std.proofs.Common.{◌≡◌, pos, negsuc, ℤ, neg_ℤ, ◌<ℤ◌, w64, SFits, arith, rules, refl, ap, subst, ◌∙◌}
use Rattle.std.specs.Prelude.{unsigned_abs}
use Rattle.std.proofs.lemmas.Int.{ints, to_z-of_z}
use Rattle.mpw_columns_contents.specs.Internal.Fitting.{SpansMissed}
use Rattle.mpw_columns_contents.proofs.fit.places_met.Goals as goal

below : (z : ℤ) → z <ℤ pos 0 → neg_ℤ (pos (unsigned_abs z)) ≡ z
below (pos n) h = absurd (omega (arith, ints, h))
below (negsuc n) h = refl

pub returns-then-steps-lt0-clause-missed : goal.returns-then-steps-lt0-clause-missed
returns-then-steps-lt0-clause-missed c =
    let step = c.args.steps.along in
    let f : SFits w64 step = search rules in
    let h : step <ℤ pos 0 = (let e = c.if-steps-lt0.true in omega (arith, ints)) in
    let size : c.unsigned_abs-then-steps-lt0.result ≡ unsigned_abs step =
    simp to_z-of_z at c.unsigned_abs-then-steps-lt0.ensures.value in
    subst (λ z. SpansMissed c.args.there c.args.window z c.args.most c.downwards.result)
    (ap (λ n. neg_ℤ (pos n)) size ∙ below step h) c.downwards.ensures.missed

pub returns-clause-missed : goal.returns-clause-missed
returns-clause-missed c =
    let step = c.args.steps.along in
    let f : SFits w64 step = search rules in
    let still : pos 0 ≡ step = (let e = c.if-steps-lt0.false in let g = c.if-steps-gt0.false in
    omega (arith, ints)) in
    subst (λ z. SpansMissed c.args.there c.args.window z c.args.most c.in_place.result) still
    c.in_place.ensures.missed
