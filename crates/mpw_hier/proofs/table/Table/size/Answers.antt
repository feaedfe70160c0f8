-- Answers to the goals of `Table::size` in `src/table.rt`.
use Rattle.std.proofs.Common.{◌-◌, ◌<◌, length, arith}
use Rattle.std.proofs.lemmas.Option.{slice_get-get_or}
use Rattle.mpw_hier.proofs.Tops.{shelf_size}
use Rattle.mpw_hier.proofs.table.Table.size.Goals as goal

pub returns : goal.returns
returns c =
    let nodes = c.in_ok-nodes.nodes.now in
    let w = c.in_ok-nodes.ensures.some in
    let last : length nodes - 1 < length nodes = omega (arith, w.shown.some) in
    let size = shelf_size c.args.self.now c.args.number nodes w _
    (slice_get-get_or nodes (length nodes - 1) c.index-nodes-nodes.result last) in
    record { some = size.0; few = size.1.0; low = size.1.1; none = tt }
