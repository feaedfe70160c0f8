-- Answers to the goals of `bands_on` in `src/leaf.rt`.
use Rattle.std.proofs.Common.{◌∙◌, ap, subst, sym}
use Rattle.std.proofs.lemmas.List.{at_drop_all}
use Rattle.mpw_geom.specs.Plane.{any_has_square}
use Rattle.mpw_region.specs.Banded.{AreBands}
use Rattle.mpw_region.specs.Squares.{covers}
use Rattle.mpw_columns.specs.Internal.Bands.{banded_on, IsBanded}
use Rattle.mpw_columns.proofs.BandsLaid.{found_here, found_later}
use Rattle.mpw_columns.proofs.leaf.bands_on.Goals as goal

pub returns-then-same_layer-clause-banded : goal.returns-then-same_layer-clause-banded
returns-then-same_layer-clause-banded c =
    subst AreBands (sym c.as_slice.ensures.value)
    (subst IsBanded (sym c.one-item.is)
    (c.requires c.loop-one.one-index c.one-item.result c.loop-one-test.true))

pub returns-then-same_layer-clause-squares : goal.returns-then-same_layer-clause-squares
returns-then-same_layer-clause-squares c =
    ap covers c.as_slice.ensures.value
    ∙ found_here c.args.banded.now c.loop-one.one-index c.one-item.result c.args.layer
    c.loop-one-test.true c.one-item.is c.loop-one.invariant
    (sym c.same_layer.ensures ∙ c.if-same_layer.true)

pub loop-one-preserved : goal.loop-one-preserved
loop-one-preserved c =
    found_later c.args.banded.now c.loop-one.one-index c.one-item.result c.args.layer
    c.loop-one-test.true c.one-item.is c.loop-one.invariant
    (sym c.same_layer.ensures ∙ c.if-same_layer.false)

pub returns-clause-squares : goal.returns-clause-squares
unfolding any_has_square
returns-clause-squares c =
    sym (at_drop_all (λ bs. banded_on bs c.args.layer) c.args.banded.now c.loop-one.one-index
    c.loop-one-test.false) ∙ c.loop-one.invariant
