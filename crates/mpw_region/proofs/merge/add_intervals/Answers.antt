-- Answers to the goals of `add_intervals` in `src/merge.rt`.
use Rattle.std.proofs.Common.{List, [], ◌∷◌, ◌++◌, suc, get_or, subst, take, arith}
use Rattle.std.proofs.lemmas.Bool.Decides.{when_true, when_false}
use Rattle.std.proofs.lemmas.List.{take_all}
use Rattle.mpw_geom.specs.declared.plane.Box2.{Box2}
use Rattle.mpw_geom.proofs.Squares.{no_box}
use Rattle.mpw_region.specs.Internal.Swept.{AddsBand}
use Rattle.mpw_region.proofs.Merging.{Merges-start, Merges-longer, Merges-push, Merges-end, before_start, before_next, done_more}
use Rattle.mpw_region.proofs.merge.add_intervals.Goals as goal
use Rattle.mpw_region.proofs.merge.add_intervals.Goals.{then-reaches, else-reaches+in_ok-push}

pub loop-b-init : goal.loop-b-init
loop-b-init c = rw c.interval-last.ensures (record {
  merges = Merges-start c.args.out.now.items c.args.first.now c.args.rows c.requires.rows
      (c.requires.filled 0 no_box (omega arith)) c.requires.banded c.requires.below;
  begins = before_start c.args.first.now c.args.rest.now c.requires.ordered;
})

pub loop-b-preserved : goal.loop-b-preserved
loop-b-preserved c =
    let i = c.loop-b.b-index in
    let merges = c.loop-b.invariant.merges in
    let begins = c.loop-b.invariant.begins in
    let b : Box2 = get_or c.args.rest.now i no_box in
    let first = begins i no_box (omega arith) c.loop-b-test.true in
    let filled = c.requires.filled (suc i) no_box (omega arith) in
    let more = done_more c.args.first.now c.args.rest.now i no_box c.loop-b-test.true in
    elim c.if-reaches.branch [
      | then-reaches w ↦
          let m = when_true _ _ w.if-reaches.true c.reaches.ensures in
          rw (w.out-is, w.last-is, w.lengthen-last.ensures) (record {
            merges = rw more (Merges-longer c.args.out.now.items c.loop-b.out.items _ c.loop-b.last
                b c.args.rows merges first m filled);
            begins = λ m d l g. begins m d (omega arith) g;
          })
      | else-reaches+in_ok-push w ↦
          let m = when_false _ _ w.if-reaches.false c.reaches.ensures in
          rw (w.out-is, w.last-is, w.interval-last-else-reaches.ensures, w.in_ok-push.ensures.items)
          (record {
            merges = rw more (Merges-push c.args.out.now.items c.loop-b.out.items _ c.loop-b.last b
                c.args.rows merges m filled);
            begins = before_next c.args.first.now c.args.rest.now i no_box c.requires.ordered
                c.loop-b-test.true;
          })
    ]

pub returns : goal.returns
returns c = rw c.in_ok-push-2.ensures.items
    (subst (λ (bs : List Box2). AddsBand c.args.out.now.items (c.loop-b.out.items ++ c.loop-b.last
    ∷ []) (c.args.first.now ∷ bs) c.args.rows)
    (take_all c.loop-b.b-index c.args.rest.now c.loop-b-test.false)
    (Merges-end c.args.out.now.items c.loop-b.out.items
    (c.args.first.now ∷ take c.loop-b.b-index c.args.rest.now) c.loop-b.last c.args.rows
    c.loop-b.invariant.merges))
