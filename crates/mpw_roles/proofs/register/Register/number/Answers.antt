-- The name is one of those in the set, or comes after them.
use Rattle.std.proofs.Common.{◌∙◌, ◌+◌, sym, ap, length, Some}
use Rattle.std.specs.Prelude.{position}
use Rattle.std.specs.Option.{option_map}
use Rattle.mpw_geom.specs.Names.{name_eq}
use Rattle.mpw_roles.proofs.PositionLemmas.{position-left, position-right}
use Rattle.mpw_roles.proofs.register.Register.number.Goals as goal

pub returns-in-Some-clause-number : goal.returns-in-Some-clause-number
returns-in-Some-clause-number c = let in' = c.self.inside in
    sym (position-left (name_eq c.args.name.now) in'.settled in'.latest c.in-Some.number
    (sym c.in-Some.ensures))
    ∙ ap (position (name_eq c.args.name.now)) c.self.view_is

pub returns-in-Some-place_among-clause-number : goal.returns-in-Some-place_among-clause-number
returns-in-Some-place_among-clause-number c =
    let in' = c.self.inside in
    let test = name_eq c.args.name.now in
    ap (λ n. Some (n + c.in-Some-place_among.place)) c.len.ensures.len
    ∙ ap (option_map (λ i. length in'.settled + i)) (c.in-Some-place_among.ensures
    ∙ ap (position test) c.as_slice.ensures)
    ∙ sym (position-right test in'.settled in'.latest (sym c.in_default.ensures))
    ∙ ap (position test) c.self.view_is

pub returns-in-None-clause-number : goal.returns-in-None-clause-number
returns-in-None-clause-number c =
    let in' = c.self.inside in
    let test = name_eq c.args.name.now in
    ap (option_map (λ i. length in'.settled + i)) (c.in-None.ensures
    ∙ ap (position test) c.as_slice.ensures)
    ∙ sym (position-right test in'.settled in'.latest (sym c.in_default.ensures))
    ∙ ap (position test) c.self.view_is
