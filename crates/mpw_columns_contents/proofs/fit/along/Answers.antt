-- Answers to the goals of `along` in `src/fit.rt`.
use Rattle.std.proofs.Common.{◌≡◌, pos, w64, SFits, arith, rules}
use Rattle.std.proofs.lemmas.Int.{ints}
use Rattle.mpw_columns_contents.proofs.Spans.{along_from}
use Rattle.mpw_columns_contents.proofs.fit.along.Goals as goal

pub returns-then-steps-eq0-clause-missed : goal.returns-then-steps-eq0-clause-missed
returns-then-steps-eq0-clause-missed c =
    let f : SFits w64 c.args.steps.across = search rules in
    let still : c.args.steps.across ≡ pos 0 = (let e = c.if-steps-eq0.true in omega (arith, ints))
    in
    along_from c.args.there c.args.window c.args.steps.along c.args.steps.across c.args.most
    c.places_met.result still
    c.places_met.ensures.missed
