-- Answers to the goals of `Table::copy` in `src/table.rt`.
use Rattle.std.proofs.Common.{◌<◌, length, take, sym, ap, ◌∙◌, arith}
use Rattle.mpw_hier.proofs.Shelving.{shelved_at}
use Rattle.mpw_hier.proofs.table.Table.copy.Goals as goal

pub append-requires : goal.append-requires
append-requires c =
    let ss = c.self.inside.submissions.items in
    let i = c.loop-number.number in
    let within : i < length ss = omega (
      arith,
      c.loop-number-test.true,
      c.len-number-end.ensures,
      c.self.inside.submissions.ok.0,
    ) in
    let h = shelved_at c.self.inside.present c.self.inside.nodes.items ss c.self.invariant i within
    c.index.result.now c.index.ensures c.index-in-loop-number.result.now
    c.index-in-loop-number.ensures in
    let front = c.loop-number.invariant ∙ ap (take i) (sym c.self.view_is) in record {
      nodes = rw (front, c.in_ok-submission.ensures, c.in_ok-nodes.ensures) h.0;
      submitted = rw (front, c.in_ok-submission.ensures) h.1;
    }
