-- Answers to the goals of `push_box` in `src/boxes.rt`.
use Rattle.std.proofs.Common.{◌∙◌, ap, inl, inr, arith, List}
use Rattle.std.proofs.lemmas.Int.{ints}
use Rattle.std.proofs.lemmas.List.Elements.{All-push, All-same}
use Rattle.mpw_geom.specs.declared.plane.Box2.{Box2}
use Rattle.mpw_geom.specs.Plane.{HasArea, any_has_square}
use Rattle.mpw_shapes.proofs.Lists.{any_push, any_push_empty}
use Rattle.mpw_shapes.proofs.boxes.push_box.Goals as goal
use Rattle.mpw_shapes.proofs.boxes.push_box.Goals.{else-b-via-then-b+else-b-2, else-b-via-else-b}

pub returns-in_ok-push-clause-squares : goal.returns-in_ok-push-clause-squares
returns-in_ok-push-clause-squares c =
    λ s. ap (λ (xs : List Box2). any_has_square xs s) c.in_ok-push.ensures.items
    ∙ any_push c.args.boxes.now.items c.args.b s

pub returns-in_ok-push-clause-area : goal.returns-in_ok-push-clause-area
returns-in_ok-push-clause-area c =
    λ all. All-same HasArea _ _ c.in_ok-push.ensures.items
    (All-push HasArea _ c.args.b all (record {
      width = omega (arith, ints);
      height = omega (arith, ints);
    }))

pub returns-else-b-clause-squares : goal.returns-else-b-clause-squares
returns-else-b-clause-squares c =
    λ s. any_push_empty c.args.boxes.now.items c.args.b s (elim c.else-b.branch [
      | else-b-via-then-b+else-b-2 w ↦ inr (omega (arith, ints, w.if-b-2.false))
      | else-b-via-else-b w ↦ inl (omega (arith, ints, w.if-b.false))
    ])
