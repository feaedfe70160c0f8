-- A number that is its own index, and one that the loop finds, is at its only index.
use Rattle.std.proofs.Common.{◌∙◌, sym, ap, eqb, arith}
use Rattle.std.specs.List.{list_any}
use Rattle.std.proofs.lemmas.List.{take_all}
use Rattle.mpw_roles.proofs.NumberLemmas.{position-once}
use Rattle.mpw_roles.proofs.PositionLemmas.{item-there, position-none}
use Rattle.mpw_roles.proofs.pairs.place_of.Goals as goal

pub returns-then-here-number : goal.returns-then-here-number
returns-then-here-number c =
    let n = c.args.number in
    let at = c.in-Some.ensures.lookup.3 in
    position-once c.args.order.now n n c.requires
    (item-there c.args.order.now n n n at.0 (sym (at.1 n) ∙ c.if-here-number.true))

pub returns-then-order-place : goal.returns-then-order-place
returns-then-order-place c =
    let i = c.loop-place.place in
    position-once c.args.order.now i c.args.number c.requires
    (item-there c.args.order.now i c.args.number _ (omega arith) c.if-order-place.true)

pub returns : goal.returns
returns c =
    let os = c.args.order.now in
    position-none (λ other. eqb c.args.number other) os
    (ap (list_any (λ other. eqb c.args.number other))
    (sym (take_all c.loop-place.place os (omega arith))) ∙ c.loop-place.invariant)
