-- The first entry with the connection.
use Rattle.std.proofs.Common.{◌∙◌, sym, ap, arith}
use Rattle.std.specs.List.{list_any}
use Rattle.std.proofs.lemmas.Bool.{eq-eqb}
use Rattle.std.proofs.lemmas.List.{take_all}
use Rattle.mpw_roles.proofs.PositionLemmas.{position-first, position-none}
use Rattle.mpw_rbac.proofs.SessionLemmas.{is_connected}
use Rattle.mpw_rbac.proofs.active.place_of.Goals as goal

pub returns-then-connection-table-clause-place : goal.returns-then-connection-table-clause-place
returns-then-connection-table-clause-place c =
    let test = is_connected c.args.connection in
    position-first test c.args.table.now c.loop-place.place c.index-table-place.result (omega arith)
    c.loop-place.invariant
    (eq-eqb c.args.connection _ c.if-connection-table.true)

pub returns-clause-place : goal.returns-clause-place
returns-clause-place c =
    let test = is_connected c.args.connection in
    let es = c.args.table.now in
    position-none test es (ap (list_any test) (sym (take_all c.loop-place.place es (omega arith)))
    ∙ c.loop-place.invariant)
