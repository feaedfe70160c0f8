-- The new name is none of the others.
use Rattle.mpw_placings.proofs.Parts.{one_more, one_latest, none_latest}
use Rattle.mpw_placings.proofs.placings.Placings.with.Goals as goal

pub with-requires : goal.with-requires
with-requires c = none_latest c.self.inside.settled c.self.inside.latest c.args.self.now
    c.self.view_is c.args.placement.cell c.args.placement.label c.requires.new

pub invariant_of-result : goal.invariant_of-result
invariant_of-result c = rw (c.in_ok-copy.ensures, c.in_ok-with.ensures) (one_latest
    c.self.inside.settled c.self.inside.latest c.args.self.now c.self.view_is c.args.placement
    c.self.invariant c.requires.new c.requires.room)

pub invariant_of-result-else-len-lt-LATEST : goal.invariant_of-result-else-len-lt-LATEST
invariant_of-result-else-len-lt-LATEST c =
    rw (c.in_ok-joined.ensures, c.in_ok-with-2.ensures, c.new.ensures) (one_more
    c.self.inside.settled c.self.inside.latest c.args.self.now c.self.view_is c.args.placement
    c.self.invariant c.requires.new c.requires.room)
