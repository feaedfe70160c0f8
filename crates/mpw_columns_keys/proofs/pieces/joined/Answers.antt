-- Answers to the goals of `joined` in `src/pieces.rt`.
use Rattle.std.proofs.lemmas.Result.{IfOk-weaker}
use Rattle.mpw_columns_keys.proofs.Made.{made_in_order}
use Rattle.mpw_columns_keys.proofs.Order.{runs_in_order}
use Rattle.mpw_columns_keys.proofs.Exact.{exact}
use Rattle.mpw_columns_keys.proofs.pieces.joined.Goals as goal

pub returns-clause-exact : goal.returns-clause-exact
returns-clause-exact c =
    IfOk-weaker c.runs_of.result _ _
    (λ v made. exact c.args.pieces.items v.items
    (made_in_order c.args.pieces.items c.with_rows.result.items c.sorted-pieces.result.items
    c.as_slice.result.now v.items c.with_rows.ensures c.sorted-pieces.ensures.same
    c.sorted-pieces.ensures.sorted c.as_slice.ensures.value c.requires.axis c.requires.sides made))
    c.runs_of.ensures

pub returns-clause-ordered : goal.returns-clause-ordered
returns-clause-ordered c =
    IfOk-weaker c.runs_of.result _ _
    (λ v made.
    let h = made_in_order c.args.pieces.items c.with_rows.result.items
    c.sorted-pieces.result.items c.as_slice.result.now v.items c.with_rows.ensures
    c.sorted-pieces.ensures.same c.sorted-pieces.ensures.sorted c.as_slice.ensures.value
    c.requires.axis c.requires.sides made in
    runs_in_order v.items h.filled h.ordered)
    c.runs_of.ensures
