-- Answers to the goals of `columns_along` in `src/plan.rt`.
use Rattle.std.proofs.Common.{pos, ◌+ℤ◌, sym, subst}
use Rattle.std.proofs.lemmas.Result.{IfOk-weaker}
use Rattle.mpw_geom.specs.declared.plane.Box2.{Box2}
use Rattle.mpw_columns_keys.specs.Columns.{AreColumns}
use Rattle.mpw_columns.specs.Internal.Found.{IsWide}
use Rattle.mpw_columns.proofs.Looking.{seen_wide}
use Rattle.mpw_columns.proofs.plan.columns_along.Goals as goal

pub columns_in-requires : goal.columns_in-requires
columns_in-requires c = subst IsWide (sym c.seen_box-seen.ensures)
    (seen_wide c.args.axis c.args.extent.now c.requires.near c.requires.ordered)

pub returns-clause-columns : goal.returns-clause-columns
returns-clause-columns c = IfOk-weaker c.columns_in.result _ _
    (λ v h. subst (λ (b : Box2). AreColumns c.args.axis b.x0 (b.x1 +ℤ pos 1) v.items)
    c.seen_box-seen.ensures h) c.columns_in.ensures.columns
