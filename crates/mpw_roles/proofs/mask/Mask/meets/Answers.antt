-- Answers to the goals of `Mask::meets` in `src/mask.rt`.
use Rattle.std.proofs.Common.{arith, get_or}
use Rattle.std.proofs.lemmas.Nat.{and_le_l}
use Rattle.mpw_roles.proofs.MaskLemmas.{some-bit, no-bit}
use Rattle.mpw_roles.proofs.mask.Mask.meets.Goals as goal

pub returns-then-self-k-ne0-clause-some : goal.returns-then-self-k-ne0-clause-some
returns-then-self-k-ne0-clause-some c = λ _. some-bit c.args.self.now c.args.other.now c.words.k
    (omega arith) c.if-self-k-ne0.true
    (omega (
      arith,
      and_le_l (get_or c.args.self.now.words c.words.k 0)
          (get_or c.args.other.now.words c.words.k 0),
    ))

pub returns-clause-none : goal.returns-clause-none
returns-clause-none c =
    λ _. no-bit c.args.self.now c.args.other.now (λ j h. c.words.invariant j (omega arith))
