-- The next number is added at the end.
use Rattle.std.proofs.Common.{◌∙◌, ◌++◌, ◌∷◌, [], ap, sym, arith}
use Rattle.mpw_roles.proofs.RenumberLemmas.{range-more}
use Rattle.mpw_roles.proofs.renumber.numbers.Goals as goal

pub loop-number-preserved : goal.loop-number-preserved
loop-number-preserved c =
    c.in_ok-push.ensures.items
    ∙ ap (λ l. l ++ c.loop-number.number ∷ []) c.loop-number.invariant
    ∙ sym (range-more 0 c.loop-number.number c.loop-number.number (omega arith))
