-- Answers to the goals of `none_unsigned_where_all_are_signed` in `src/waivers.rt`.
use Rattle.mpw_laws.proofs.Counted.{none_unsigned}
use Rattle.mpw_laws.proofs.waivers.none_unsigned_where_all_are_signed.Goals as goal

pub returns : goal.returns
returns c = none_unsigned
