-- The next name is added at the end.
use Rattle.std.proofs.Common.{◌∙◌, ◌++◌, ◌∷◌, [], sym, get_or, refl}
use Rattle.std.proofs.lemmas.Option.{get_or_from_slice_get}
use Rattle.mpw_roles.specs.Internal.Table.{name_of}
use Rattle.mpw_roles.proofs.RenumberLemmas.{mapped-more}
use Rattle.mpw_roles.proofs.renumber.names_with.Goals as goal

pub loop-number-preserved : goal.loop-number-preserved
loop-number-preserved c =
    let i = c.loop-number.number-index in
    let os = c.args.order.now in
    let n = get_or os i 0 in
    let is =
    get_or_from_slice_get c.args.names.now n c.in-Some.name.now [] (sym c.in-Some.ensures) in
    c.in_ok-push.ensures.ok
    ∙ (λ t. c.loop-number.invariant t ++ (c.in_ok-copy.ensures ∙ sym is) t ∷ [])
    ∙ sym (mapped-more (name_of c.args.names.now) os i 0 n c.loop-number-test.true refl)
