-- Answers to the goals of `Mask::add` in `src/mask.rt`.
use Rattle.std.proofs.Common.{arith}
use Rattle.mpw_roles.proofs.MaskLemmas.{has-joined}
use Rattle.mpw_roles.proofs.mask.Mask.add.Goals as goal

pub returns : goal.returns
returns c = has-joined c.args.self.now c.args.other.now c.words.self
    (λ j h. c.words.invariant.0 j (omega arith))
