-- Answers to the goals of `waivers_stand_where_they_were_put` in `src/waivers.rt`.
use Rattle.mpw_laws.proofs.Reached.{none_at, put_or_before}
use Rattle.mpw_laws.proofs.waivers.waivers_stand_where_they_were_put.Goals as goal

pub returns : goal.returns
returns c = record { put = put_or_before; none = none_at }
