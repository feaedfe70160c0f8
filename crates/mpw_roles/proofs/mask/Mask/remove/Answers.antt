-- Answers to the goals of `Mask::remove` in `src/mask.rt`.
use Rattle.std.proofs.Common.{arith}
use Rattle.mpw_roles.proofs.MaskLemmas.{has-removed}
use Rattle.mpw_roles.proofs.mask.Mask.remove.Goals as goal

pub returns : goal.returns
returns c = has-removed c.args.self.now c.args.place c.requires (omega arith)
