-- Answers to the goals of `list_all` in `src/fill.rt`.
use Rattle.std.proofs.Common.{◌∙◌, List, subst}
use Rattle.std.proofs.lemmas.List.{take_all}
use Rattle.mpw_tiles.specs.Listing.{IsListed}
use Rattle.mpw_tiles.specs.Internal.Listing.{AddsSquares}
use Rattle.mpw_tiles.specs.declared.listing.Rectangle.{Rectangle}
use Rattle.mpw_tiles.proofs.Lists.{adds_more}
use Rattle.mpw_tiles.proofs.fill.list_all.Goals as goal

pub loop-rectangle-preserved : goal.loop-rectangle-preserved
loop-rectangle-preserved c =
    adds_more c.args.plan.now c.args.lists.now.items c.loop-rectangle.lists.items
    c.list_rectangle.new.lists.items c.args.rectangles.now c.loop-rectangle.rectangle-index _
    c.loop-rectangle-test.true c.loop-rectangle.invariant c.in_ok-list_rectangle.ensures.ok

pub list_rectangle-requires-clause-count : goal.list_rectangle-requires-clause-count
list_rectangle-requires-clause-count c = c.loop-rectangle.invariant.count ∙ c.requires.count

pub list_rectangle-requires-clause-plane : goal.list_rectangle-requires-clause-plane
list_rectangle-requires-clause-plane c =
    c.requires.plane c.loop-rectangle.rectangle-index _ c.loop-rectangle-test.true

pub returns : goal.returns
returns c = record {
  ok = subst (λ (rs : List Rectangle). AddsSquares c.args.plan.now c.args.lists.now.items
      c.loop-rectangle.lists.items (IsListed rs))
      (take_all c.loop-rectangle.rectangle-index c.args.rectangles.now c.loop-rectangle-test.false)
      c.loop-rectangle.invariant;
}
