-- Answers to the goals of `middle` in `src/columns.rt`.
use Rattle.std.proofs.Common.{arith}
use Rattle.std.proofs.lemmas.Int.{ints}
use Rattle.mpw_columns.proofs.columns.middle.Goals as goal

pub returns-clause-left : goal.returns-clause-left
returns-clause-left c =
    let l = c.requires.left in let s = c.requires.some in let r = c.requires.right in
    omega (arith, ints, l, s, r)

pub returns-clause-right : goal.returns-clause-right
returns-clause-right c =
    let l = c.requires.left in let s = c.requires.some in let r = c.requires.right in
    omega (arith, ints, l, s, r)
