-- Answers to the goals of `drop_ended` in `src/sweep.rt`.
use Rattle.std.proofs.Common.{rules, w64}
use Rattle.std.specs.Prelude.{int_lt}
use mir.Val.{SFits}
use Rattle.std.proofs.lemmas.Fn.{filter_same}
use Rattle.mpw_region.proofs.sweep.drop_ended.Goals as goal

pub returns : goal.returns
returns c =
    let fits : SFits w64 c.args.row = c.ranges.row in
    filter_same _ (λ b. int_lt c.args.row b.y1) _ (λ x b f call. search rules) _ _
    c.retain.ensures.filtered
