-- Removing from each part removes from the whole.
use Rattle.std.proofs.Common.{not}
use Rattle.mpw_placings.specs.Placements.{is_at}
use Rattle.mpw_placings.proofs.Maps.{apart_left, apart_right}
use Rattle.mpw_placings.proofs.Parts.{some_less}
use Rattle.mpw_placings.proofs.placings.Placings.unplace.Goals as goal

pub without-requires : goal.without-requires
without-requires c =
    apart_left c.self.inside.settled c.self.inside.latest c.self.invariant.apart

pub without-requires-2 : goal.without-requires-2
without-requires-2 c =
    apart_right c.self.inside.settled c.self.inside.latest c.self.invariant.apart

pub invariant_of-result : goal.invariant_of-result
invariant_of-result c = rw (c.in_ok-without.ensures, c.in_ok-without-2.ensures) (some_less
    c.self.inside.settled c.self.inside.latest (λ p. not (is_at c.args.cell.now c.args.label.now p))
    c.self.invariant)
