-- Answers to the goals of `bands_of` in `src/leaf.rt`.
use Rattle.std.proofs.Common.{◌∙◌, List, ap, subst, refl}
use Rattle.std.proofs.lemmas.List.{take_all}
use Rattle.mpw_geom.specs.declared.plane.Box2.{Box2}
use Rattle.mpw_geom.specs.declared.plane.Layer.{Layer}
use Rattle.mpw_region.specs.Squares.{covers}
use Rattle.mpw_job.specs.Answers.{listed_on}
use Rattle.mpw_columns.specs.Internal.Bands.{AreBandsOf}
use Rattle.mpw_columns.proofs.BandsLaid.{no_bands, bands_more}
use Rattle.mpw_columns.proofs.leaf.bands_of.Goals as goal

pub loop-layer-init : goal.loop-layer-init
loop-layer-init c = rw c.in_ok-banded.ensures.items (no_bands (listed_on c.args.rectangles.now))

pub loop-layer-preserved : goal.loop-layer-preserved
loop-layer-preserved c =
    bands_more c.args.layers.now (listed_on c.args.rectangles.now) c.loop-layer.layer-index _
    c.loop-layer.banded.items _ _ c.loop-layer-test.true c.loop-layer.invariant
    c.in_ok-push.ensures.items refl c.in_ok-boxes.ensures.banded
    (λ i j. c.in_ok-boxes.ensures.squares i j
    ∙ ap (λ (bs : List Box2). covers bs i j) c.as_slice.ensures.value
    ∙ c.in_ok-areas.ensures i j)

pub returns : goal.returns
returns c = subst (λ (ls : List Layer). AreBandsOf ls (listed_on c.args.rectangles.now)
    c.loop-layer.banded.items)
    (take_all c.loop-layer.layer-index c.args.layers.now c.loop-layer-test.false)
    c.loop-layer.invariant
