-- Answers to the goals of `do_meet` in `src/fit.rt`.
use Rattle.mpw_walk.proofs.Taken.{told_meeting}
use Rattle.mpw_columns_contents.proofs.fit.do_meet.Goals as goal

pub returns : goal.returns
returns c = told_meeting c.args.a c.args.b c.meets.result c.meets.ensures
