-- Answers to the goals of `Top::for_core` in `src/batch.rt`.
use Rattle.std.proofs.Common.{sym, subst, IfSome}
use Rattle.mpw_geom.specs.declared.plane.Box2.{Box2}
use Rattle.mpw_columns.specs.Internal.Checked.{AreAllThings}
use Rattle.mpw_columns.specs.Internal.Pieces.{AreThingsIn}
use Rattle.mpw_columns.proofs.ThingsShown.{things_inside, along_either}
use Rattle.mpw_columns.proofs.batch.Top.for_core.Goals as goal

pub returns : goal.returns
returns c =
    let l = c.args.task.now.layout.now in
    let axis = c.args.task.now.axis in
    things_inside l axis c.args.core.now c.in-Some-whole_core.outer c.in-Some.things
    (c.is_inside.ensures c.if-not-is_inside.false)
    (subst (λ (b : Box2). AreThingsIn l axis b c.in-Some.things)
    (sym c.in-Some-whole_core.ensures.core)
    (along_either l axis c.in-Some.things
    (subst (λ o. IfSome o (AreAllThings l)) c.in-Some.is c.requires.top)))
