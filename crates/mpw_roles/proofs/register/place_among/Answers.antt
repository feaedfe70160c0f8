-- The first name that is equal.
use Rattle.std.proofs.Common.{◌∙◌, sym, ap, arith}
use Rattle.std.specs.List.{list_any}
use Rattle.std.proofs.lemmas.List.{take_all}
use Rattle.mpw_geom.specs.Names.{name_eq}
use Rattle.mpw_roles.proofs.PositionLemmas.{position-first, position-none}
use Rattle.mpw_roles.proofs.register.place_among.Goals as goal

pub returns-then-eq : goal.returns-then-eq
returns-then-eq c =
    let test = name_eq c.args.name.now in
    position-first test c.args.names.now c.loop-place.place c.index-names-place.result (omega arith)
    c.loop-place.invariant
    (ap test (sym c.index-names-place.is) ∙ sym c.eq.ensures ∙ c.if-eq.true)

pub returns : goal.returns
returns c =
    let test = name_eq c.args.name.now in
    let ns = c.args.names.now in
    position-none test ns (ap (list_any test) (sym (take_all c.loop-place.place ns (omega arith)))
    ∙ c.loop-place.invariant)
