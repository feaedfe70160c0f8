-- Answers to the goals of `next_view` in `src/listing.rt`.
use Rattle.std.proofs.Common.{◌∷◌, [], sym, ap, ◌∙◌}
use Rattle.mpw_walk.specs.Turns.{given}
use Rattle.mpw_walk.specs.Way.{item_of}
use Rattle.mpw_replies.specs.Listing.{seen_lines}
use Rattle.mpw_replies.specs.Shapes.{line_of}
use Rattle.mpw_replies.specs.Internal.Shapes.{lines_of}
use Rattle.mpw_replies.proofs.ListingLemmas.{view_on, view_over}
use Rattle.mpw_replies.proofs.listing.next_view.Goals as goal

pub returns-in-Some-view_of-clause-some : goal.returns-in-Some-view_of-clause-some
returns-in-Some-view_of-clause-some c =
    let lines = seen_lines c.args.shelf.now c.args.seen.now (given c.args.walk.now.left) in
    view_on c.args.shelf.now c.args.seen.now lines (given c.loop-placed.walk.left)
    (item_of c.in-Some.placed) (given c.next.new.self.left)
    (line_of c.in-Some-view_of.view ∷ []) c.loop-placed.invariant c.in-Some.ensures.some
    (ap lines_of (sym c.in-Some-view_of.is) ∙ c.view_of.ensures.lines)

pub loop-placed-preserved : goal.loop-placed-preserved
loop-placed-preserved c =
    let lines = seen_lines c.args.shelf.now c.args.seen.now (given c.args.walk.now.left) in
    view_on c.args.shelf.now c.args.seen.now lines (given c.loop-placed.walk.left)
    (item_of c.in-Some.placed) (given c.next.new.self.left)
    [] c.loop-placed.invariant c.in-Some.ensures.some c.in_default-view_of.ensures.lines

pub returns-clause-none : goal.returns-clause-none
returns-clause-none c = view_over c.args.shelf.now c.args.seen.now _ (given c.loop-placed.walk.left)
    c.loop-placed.invariant c.in_default.ensures.none
