-- Answers to the goals of `closed_boxes` in `src/met.rt`.
use Rattle.std.proofs.Common.{◌∙◌, ◌++◌, [], ◌∷◌, map, ap, sym}
use Rattle.std.proofs.lemmas.List.{take_all, map_more}
use Rattle.mpw_work.specs.Internal.Found.{key_box}
use Rattle.mpw_work.proofs.met.closed_boxes.Goals as goal

pub loop-key-preserved : goal.loop-key-preserved
loop-key-preserved c =
    c.in_ok-push.ensures.items
    ∙ (λ k. c.loop-key.invariant k ++ c.closed_box.ensures k ∷ [])
    ∙ sym (map_more key_box c.args.keys.now c.loop-key.key-index _ c.loop-key-test.true)

pub returns : goal.returns
returns c =
    c.loop-key.invariant
    ∙ ap (map key_box) (take_all c.loop-key.key-index c.args.keys.now c.loop-key-test.false)
