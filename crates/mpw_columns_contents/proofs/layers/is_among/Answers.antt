-- Answers to the goals of `is_among` in `src/layers.rt`.
use Rattle.std.proofs.Common.{◌≡◌, ◌∙◌, sym, refl, subst}
use Rattle.std.specs.Prelude.{All}
use Rattle.std.proofs.lemmas.Bool.{false≢true}
use Rattle.std.proofs.lemmas.List.{take_all}
use Rattle.std.proofs.lemmas.List.Elements.{All-more, All-contains}
use Rattle.mpw_geom.specs.declared.plane.Layer.{Layer}
use Rattle.mpw_columns_contents.proofs.layers.is_among.Goals as goal

pub loop-other-preserved : goal.loop-other-preserved
loop-other-preserved c =
    All-more (λ (other : Layer). other ≡ c.args.layer → ⊥) c.args.layers.now
    c.loop-other.other-index
    _ c.loop-other-test.true c.loop-other.invariant
    (λ e. absurd (false≢true (sym c.if-is_one.false ∙ c.is_one.ensures.1 e)))

pub returns : goal.returns
returns c = λ has.
    All-contains (λ (other : Layer). other ≡ c.args.layer → ⊥) c.args.layers.now c.args.layer
    (subst (All (λ (other : Layer). other ≡ c.args.layer → ⊥))
    (take_all c.loop-other.other-index c.args.layers.now c.loop-other-test.false)
    c.loop-other.invariant) has refl
