-- A name without a number gets the next one.
use Rattle.std.proofs.Common.{◌≡◌, ◌∙◌, sym, ap, false, is_some}
use Rattle.std.specs.Prelude.{position}
use Rattle.mpw_geom.specs.Names.{name_eq, contains_name}
use Rattle.mpw_roles.specs.Order.{are_distinct}
use Rattle.mpw_roles.proofs.PositionLemmas.{position-any}
use Rattle.mpw_roles.proofs.RegisterLemmas.{last-number}
use Rattle.mpw_roles.proofs.RoleLemmas.{distinct-append}
use Rattle.mpw_roles.proofs.table.number_of.Goals as goal

pub push-requires : goal.push-requires
push-requires c = sym (position-any (name_eq c.args.name) c.args.names.now)
    ∙ ap is_some (sym c.in_default.ensures.number)

pub returns-clause-number : goal.returns-clause-number
returns-clause-number c =
    let new : contains_name c.args.names.now c.args.name ≡ false =
    sym (position-any (name_eq c.args.name) c.args.names.now)
    ∙ ap is_some (sym c.in_default.ensures.number) in
    last-number c.args.names.now c.args.name c.len-number.result new c.len-number.ensures
    ∙ ap (position (name_eq c.args.name)) (sym c.in_ok-push.ensures.ok)

pub returns-clause-once : goal.returns-clause-once
returns-clause-once c =
    let new : contains_name c.args.names.now c.args.name ≡ false =
    sym (position-any (name_eq c.args.name) c.args.names.now)
    ∙ ap is_some (sym c.in_default.ensures.number) in
    ap are_distinct c.in_ok-push.ensures.ok
    ∙ distinct-append c.args.names.now c.args.name c.in_default.ensures.once new
