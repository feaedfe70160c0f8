-- Answers to the goals of `Mask::insert` in `src/mask.rt`.
use Rattle.std.proofs.Common.{arith}
use Rattle.mpw_roles.proofs.MaskLemmas.{has-inserted}
use Rattle.mpw_roles.proofs.mask.Mask.insert.Goals as goal

pub returns : goal.returns
returns c = has-inserted c.args.self.now c.args.place c.requires (omega arith)
