-- The next pair is added at the end.
use Rattle.std.proofs.Common.{◌∙◌, ◌++◌, ◌∷◌, [], sym, get_or, refl}
use Rattle.mpw_roles.specs.Internal.Table.{placed_pair}
use Rattle.mpw_roles.specs.declared.pairs.Pair.{Pair}
use Rattle.mpw_roles.proofs.RenumberLemmas.{mapped-more}
use Rattle.mpw_roles.proofs.renumber.placed_pairs.Goals as goal

pub loop-pair-preserved : goal.loop-pair-preserved
loop-pair-preserved c =
    let i = c.loop-pair.pair-index in
    let ps = c.args.pairs.now in
    let pair : Pair = get_or ps i (record { senior = 0; junior = 0 }) in
    c.in_ok-push.ensures.items
    ∙ (λ t. c.loop-pair.invariant t ++ c.placed_pair.ensures t ∷ [])
    ∙ sym (mapped-more (placed_pair c.args.order.now) ps i (record { senior = 0; junior = 0 }) pair
    c.loop-pair-test.true refl)
