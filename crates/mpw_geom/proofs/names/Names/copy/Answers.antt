-- Answers to the goals of `Names::copy` in `src/names.rt`.
use Rattle.std.proofs.Common.{◌∙◌, ◌++◌, [], ◌∷◌, take, List, ap, sym}
use Rattle.std.proofs.lemmas.List.{take_all, take_more}
use Rattle.mpw_geom.proofs.names.Names.copy.Goals as goal

pub loop-name-preserved : goal.loop-name-preserved
loop-name-preserved c =
    let names = c.deref-name-items.result.now in
    c.in_ok-push.ensures.items
    ∙ (λ k. c.loop-name.invariant k ++ (c.in_ok-copy.ensures ∙ c.name-item.is) k ∷ [])
    ∙ sym (take_more names c.loop-name.name-index c.name-item.result c.loop-name-test.true)

pub returns : goal.returns
returns c =
    c.loop-name.invariant
    ∙ take_all c.loop-name.name-index c.deref-name-items.result.now c.loop-name-test.false
    ∙ c.deref-name-items.ensures.value ∙ c.self.view_is
