-- Answers to the goals of `Snapshot::plan` in `src/snapshot.rt`.
use Rattle.std.proofs.Common.{subst, sym}
use Rattle.std.specs.Prelude.{IfSome}
use Rattle.mpw_tiles.specs.Plan.{plan_of}
use Rattle.mpw_tiles.specs.Placed.{WindowsLieInPlane}
use Rattle.mpw_tiles.proofs.Looking.{near_in_plane, windows_in_plane, if_some_ok}
use Rattle.mpw_tiles.proofs.snapshot.Snapshot.plan.Goals as goal

pub of-requires-clause-plane : goal.of-requires-clause-plane
of-requires-clause-plane c = near_in_plane c.in_ok-extent.extent c.in_ok-extent.ensures.near

pub returns-clause-plane : goal.returns-clause-plane
returns-clause-plane c =
    let extent = c.in_ok-extent.extent in
    let deck = c.self.inside.deck in
    subst (λ o. IfSome o WindowsLieInPlane) (sym c.ok.ensures.value)
    (if_some_ok WindowsLieInPlane (plan_of extent deck) c.of.result
    (windows_in_plane c.windows_reach_no_further.ensures deck extent c.self.invariant.deck
    c.in_ok-extent.ensures.ordered c.in_ok-extent.ensures.near) c.of.ensures.ok)
