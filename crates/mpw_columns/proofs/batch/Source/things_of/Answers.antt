-- Answers to the goals of `Source::things_of` in `src/batch.rt`.
use Rattle.std.proofs.Common.{sym, subst, IfSome}
use Rattle.mpw_edges.specs.declared.run.Axis.{Axis}
use Rattle.mpw_columns.specs.Internal.Checked.{HasThings}
use Rattle.mpw_columns.specs.Internal.Pieces.{AreThingsIn}
use Rattle.mpw_columns.proofs.ThingsShown.{part_things}
use Rattle.mpw_columns.proofs.batch.Source.things_of.Goals as goal

pub returns-in-Some : goal.returns-in-Some
returns-in-Some c =
    let l = c.args.task.now.layout.now in
    let core = c.args.core.now in
    let things = c.in-Some.listed.things in
    subst (λ (axis : Axis). AreThingsIn l axis core things) (sym c.requires.axis)
    (part_things l c.args.column.now c.in-Some.listed core (c.is_part.ensures c.if-is_part.true)
    (subst (λ o. IfSome o (HasThings l)) c.in-Some.is c.requires.batch.things) c.requires.core)
