-- Answers to the goals of `Contents::on_layers` in `src/layers.rt`.
use Rattle.std.proofs.Common.{take, ◌+◌, sym, subst, ◌∙◌}
use Rattle.std.specs.Prelude.{All}
use Rattle.std.proofs.lemmas.List.{take_all}
use Rattle.mpw_columns_contents.specs.Contents.{IsBoxed, IsNear}
use Rattle.mpw_columns_contents.specs.Things.{things_items}
use Rattle.mpw_columns_contents.specs.Internal.Layers.{KeepsOn, AreLayered}
use Rattle.mpw_columns_contents.proofs.Layered.{boxed_more, layered_more, layered_less}
use Rattle.mpw_columns_contents.proofs.contents.Contents.on_layers.Goals as goal

pub loop-thing-preserved-then-not-stays : goal.loop-thing-preserved-then-not-stays
loop-thing-preserved-then-not-stays c = (
  layered_less c.args.shelf.now c.args.layers.now c.things-all.result.now
      c.loop-thing.thing-index _ c.loop-thing.things.items c.loop-thing-test.true
      c.loop-thing.invariant.0 c.if-not-stays.ensures,
  c.loop-thing.invariant.1,
)

pub loop-thing-preserved : goal.loop-thing-preserved
loop-thing-preserved c =
    let ss = c.args.shelf.now in
    let layers = c.args.layers.now in
    let all = c.things-all.result.now in
    let i = c.loop-thing.thing-index in
    let left = c.loop-thing.things.items in (
      subst (AreLayered ss layers (take (i + 1) all)) (sym c.in_ok-push.ensures.items)
          (layered_more ss layers all i _ left c.loop-thing-test.true c.loop-thing.invariant.0
          (subst (All IsNear) (sym c.things-all.ensures.things) c.things-all.ensures.near)
          c.if-not-stays.ensures),
      λ boxed. subst (All (IsBoxed ss)) (sym c.in_ok-push.ensures.items)
          (boxed_more ss layers all i _ left c.loop-thing-test.true boxed
          (c.loop-thing.invariant.1 boxed)),
    )

pub returns-clause-kept : goal.returns-clause-kept
returns-clause-kept c =
    let ss = c.args.shelf.now in
    let all = c.things-all.result.now in
    (subst (λ ts. KeepsOn c.args.layers.now (things_items ss ts)
    (things_items ss c.loop-thing.things.items))
    (take_all c.loop-thing.thing-index all c.loop-thing-test.false ∙ c.things-all.ensures.things)
    c.loop-thing.invariant.0.keeps).kept

pub returns-clause-sound : goal.returns-clause-sound
returns-clause-sound c =
    let ss = c.args.shelf.now in
    let all = c.things-all.result.now in
    (subst (λ ts. KeepsOn c.args.layers.now (things_items ss ts)
    (things_items ss c.loop-thing.things.items))
    (take_all c.loop-thing.thing-index all c.loop-thing-test.false ∙ c.things-all.ensures.things)
    c.loop-thing.invariant.0.keeps).sound

pub returns-clause-boxed : goal.returns-clause-boxed
returns-clause-boxed c = λ boxed. c.loop-thing.invariant.1
    (subst (All (IsBoxed c.args.shelf.now)) (sym c.things-all.ensures.things) boxed)
