-- The entry at the index of the connection.
use Rattle.mpw_rbac.proofs.SessionLemmas.{found-at, found-nowhere}
use Rattle.mpw_rbac.proofs.active.session_of.Goals as goal

pub returns-in-Some : goal.returns-in-Some
returns-in-Some c = found-at c.args.table.now c.args.connection c.in-Some.place
    c.index-table-place.result c.in-Some.ensures.place

pub returns-in-None : goal.returns-in-None
returns-in-None c = found-nowhere c.args.table.now c.args.connection c.in-None.ensures.place
